-- When a line is well formed, and which event the first line of a text spells. Assumes nothing.
use mathlib.Core.Path.{◌≡◌, refl, ap, ap₂, ◌∙◌, sym}
use mathlib.Core.Bool.{true}
use mathlib.Core.List.{List, [], ◌∷◌, ◌++◌, append_assoc}
use Prim.Native.Nat.{ℕ, ◌+◌, ◌-◌, ◌*◌, ◌≤◌, ◌<◌}
use native.Mathlib.Omega.{arith}
use lib.Dec.{eqb}
use lib.ListN.{length, take, drop, get_or, length-append, get_or-append}
use lib.Seq.{take_at, drop_at}
use borrow.Author.Tests.{eqb-false, eq-eqb, ne_eqb, le-leb}
use Rattle.laws.proofs.Split.{by_bool, and_true}
use Rattle.request.specs.Setup.{setup_of, data_length, fits_of}
use Rattle.request.proofs.Lengths.{fits_eight, fits_data}
use Rattle.hexfield.specs.Hex.{hex_of, bytes_of, all_digits}
use Rattle.hexfield.proofs.Fields.{hex_length, bytes_are, digits_hex}
use Rattle.hexfield.proofs.Capitals.{capitals-length, digits_of_capitals}
use Rattle.laws.specs.Lists.{same, all_bytes}
use Rattle.line.specs.Event.{Event, attach, request, fits, line_of, in_bytes}
use Rattle.laws.specs.Lines.{first_line}
use Rattle.laws.proofs.Lines.{first_rest, first_kind}
use Rattle.line.specs.Line.{event_of, capital_line, well_spelled}
use Rattle.line.proofs.Spelling.{Spells, spells_field, hex_spells, setup_wide, spelled, Spelled, spelled-here}
use Rattle.laws.proofs.Lists.{same_refl, same_eq, bytes-append}
use Rattle.line.proofs.FirstLine.{first-spelled}
use Rattle.line.proofs.CapitalLine.{capital_other, capital_line_stays, event_capital, capital_spelled, Uncapital, uncapital}

-- a well-formed line's capital spelling is the line of its event, and this event fits; and what is so is well formed
pub formed_fits : (l : List ℕ) → well_spelled l ≡ true → fits (event_of l) ≡ true
unfolding well_spelled
formed_fits l h = (and_true (fits (event_of l)) (same (capital_line l) (line_of (event_of l))) h).0

pub formed_line : (l : List ℕ) → well_spelled l ≡ true → capital_line l ≡ line_of (event_of l)
unfolding well_spelled
formed_line l h = same_eq (capital_line l) (line_of (event_of l)) (and_true (fits (event_of l)) (same (capital_line l) (line_of (event_of l))) h).1

pub well_spelled_lem : (l : List ℕ) (e : Event) → event_of l ≡ e → fits e ≡ true → capital_line l ≡ line_of e → well_spelled l ≡ true
unfolding well_spelled
well_spelled_lem l e is f k = rw (is, f, ← k) (same_refl (capital_line l))

-- a line and its capital spelling are both well formed, or neither
pub formed_capital : (l : List ℕ) → well_spelled (capital_line l) ≡ well_spelled l
unfolding well_spelled
formed_capital l = rw (event_capital l, capital_line_stays l)

-- the event that a line of `A` spells, and that a line of another kind spells
pub event_attach : (l : List ℕ) → get_or l 0 0 ≡ 65 → event_of l ≡ attach
unfolding event_of
event_attach l k = rw (eq-eqb (get_or l 0 0) 65 k)

event_request : (l : List ℕ) → (get_or l 0 0 ≡ 65 → ⊥) → event_of l ≡ request (bytes_of (take 16 (drop 2 l)) ++ bytes_of (take (length l - 20) (drop 19 l)))
unfolding event_of
event_request l n = rw (ne_eqb (get_or l 0 0) 65 n)

-- a well-formed line of `A` has LF behind it and no more
pub formed_attach : (l : List ℕ) → well_spelled l ≡ true → get_or l 0 0 ≡ 65 → l ≡ 65 ∷ 10 ∷ []
unfolding line_of
formed_attach l h k =
    let n : get_or l 0 0 ≡ 81 → ⊥ = λ e. omega arith in
    sym (capital_other l n) ∙ formed_line l h ∙ ap line_of (event_attach l k)

pub attach_line_formed : well_spelled (65 ∷ 10 ∷ []) ≡ true
unfolding fits line_of
attach_line_formed = well_spelled_lem (65 ∷ 10 ∷ []) attach (event_attach (65 ∷ 10 ∷ []) refl) refl (capital_other (65 ∷ 10 ∷ []) (λ e. omega arith))

-- a request fits that has its setup, and the data that the setup asks for
pub fits_if : (q : List ℕ) → 8 ≤ length q → length q ≡ 8 + data_length (setup_of q) → fits_of q ≡ true
unfolding fits_of
fits_if q h e = rw (le-leb 8 (length q) h, eq-eqb (length q) (8 + data_length (setup_of q)) e)

-- the setup is in the first eight bytes
pub setup_front : (a b : List ℕ) → 8 ≤ length a → setup_of (a ++ b) ≡ setup_of a
unfolding setup_of
setup_front a b h =
    let g : (i : ℕ) → i < 8 → get_or (a ++ b) i 0 ≡ get_or a i 0 = λ i k. get_or-append a b 0 i (omega arith) in
    rw (g 0 (omega arith), g 1 (omega arith), g 2 (omega arith), g 3 (omega arith), g 4 (omega arith), g 5 (omega arith), g 6 (omega arith), g 7 (omega arith))

-- a line whose fields x and y spell a and b gives the request back, and is well formed where it fits
module _ {x y a b : List ℕ} (sx : Spells x a) (sy : Spells y b) (la : length a ≡ 8) where
  wide : length x ≡ 16
  wide = let t = sx.twice in omega arith

  pub event_spelled : event_of (spelled x y []) ≡ request (a ++ b)
  unfolding event_of
  event_spelled =
      let f = spelled-here (spelled x y []) x y [] wide refl in
      let z = f.size in
      let k : length (spelled x y []) - 20 ≡ length y = omega arith in
      ap request
      (ap₂ ◌++◌ (ap bytes_of f.setup ∙ sx.bytes)
      (ap bytes_of (ap (λ (n : ℕ). take n (drop 19 (spelled x y []))) k ∙ f.body) ∙ sy.bytes))

  line-spelled : capital_line (spelled x y []) ≡ line_of (request (a ++ b))
  unfolding line_of
  line-spelled =
      capital_spelled x y wide
      ∙ ap₂ (λ (m : List ℕ) (n : List ℕ). spelled m n []) (sym (hex_spells sx)) (sym (hex_spells sy))
      ∙ ap₂ (λ (m : List ℕ) (n : List ℕ). spelled (hex_of m) (hex_of n) []) (sym (take_at a b 8 la)) (sym (drop_at a b 8 la))

  formed_spelled : fits_of (a ++ b) ≡ true → well_spelled (spelled x y []) ≡ true
  unfolding fits
  formed_spelled h = well_spelled_lem (spelled x y []) (request (a ++ b)) event_spelled h line-spelled

-- the first line of u is well formed, and its fields spell a request, of setup a and data b; r is what comes after it
pub record Asks (u : List ℕ) : Type 0 where
  pub a : List ℕ
  pub b : List ℕ
  pub r : List ℕ
  pub field_a : List ℕ
  pub field_b : List ℕ
  pub whole : length a ≡ 8
  pub fit : fits_of (a ++ b) ≡ true
  pub spells_a : Spells field_a a
  pub spells_b : Spells field_b b
  pub is : u ≡ spelled field_a field_b r

pub asks_facts : {u : List ℕ} → (q : Asks u) → Spelled u q.field_a q.field_b q.r
asks_facts {u} q = spelled-here u q.field_a q.field_b q.r (wide q.spells_a q.spells_b q.whole) q.is

asks_first : {u : List ℕ} → (q : Asks u) → first_line u ≡ spelled q.field_a q.field_b []
asks_first q = ap first_line q.is ∙ first-spelled q.field_a q.field_b q.r q.spells_a.digits q.spells_b.digits

pub asks_event : {u : List ℕ} → (q : Asks u) → event_of (first_line u) ≡ request (q.a ++ q.b)
asks_event q = ap event_of (asks_first q) ∙ event_spelled q.spells_a q.spells_b q.whole

pub asks_formed : {u : List ℕ} → (q : Asks u) → well_spelled (first_line u) ≡ true
asks_formed q = ap well_spelled (asks_first q) ∙ formed_spelled q.spells_a q.spells_b q.whole q.fit

-- how long it is, and what is left of u
pub asks_size : {u : List ℕ} → (q : Asks u) → length u ≡ 20 + length q.b * 2 + length q.r
asks_size q = (asks_facts q).size ∙ ap (λ (n : ℕ). 20 + n + length q.r) q.spells_b.twice

pub asks_length : {u : List ℕ} → (q : Asks u) → length (first_line u) ≡ 20 + length q.b * 2
asks_length q =
    let z = (spelled-here (spelled q.field_a q.field_b []) q.field_a q.field_b [] (wide q.spells_a q.spells_b q.whole) refl).size in
    let t = q.spells_b.twice in
    let e : length (spelled q.field_a q.field_b []) ≡ 20 + length q.b * 2 = omega arith in
    ap length (asks_first q) ∙ e

pub asks_setup : {u : List ℕ} → (q : Asks u) → bytes_of (take 16 (drop 2 u)) ≡ q.a
asks_setup q = ap bytes_of (asks_facts q).setup ∙ q.spells_a.bytes

pub asks_whole : {u : List ℕ} → (q : Asks u) → setup_of (q.a ++ q.b) ≡ setup_of q.a
asks_whole q = setup_front q.a q.b (let h : 8 ≤ length q.a = let w = q.whole in omega arith in h)

pub asks_data : {u : List ℕ} → (q : Asks u) → data_length (setup_of q.a) ≡ length q.b
asks_data q =
    let e : length (q.a ++ q.b) ≡ 8 + data_length (setup_of q.a) = fits_data (q.a ++ q.b) q.fit ∙ ap (λ s. 8 + data_length s) (asks_whole q) in
    let l : length (q.a ++ q.b) ≡ length q.a + length q.b = length-append q.a q.b in
    let w = q.whole in
    omega arith

-- its fields are digits; those of its data stand between the last tab and the place `end` of its LF, and spell them
pub asks_digits : {u : List ℕ} → (q : Asks u) → all_digits (take 16 (drop 2 u)) ≡ true
asks_digits q = ap all_digits (asks_facts q).setup ∙ q.spells_a.digits

body_here : {u : List ℕ} → (q : Asks u) (end : ℕ) → end ≡ 19 + length q.b * 2 → take (end - 19) (drop 19 u) ≡ q.field_b
body_here {u} q end e =
    let k : end - 19 ≡ length q.field_b = let t = q.spells_b.twice in omega arith in
    ap (λ (n : ℕ). take n (drop 19 u)) k ∙ (asks_facts q).body

pub asks_body : {u : List ℕ} → (q : Asks u) (end : ℕ) → end ≡ 19 + length q.b * 2 → all_digits (take (end - 19) (drop 19 u)) ≡ true
asks_body q end e = ap all_digits (body_here q end e) ∙ q.spells_b.digits

pub asks_spells : {u : List ℕ} → (q : Asks u) (end : ℕ) → end ≡ 19 + length q.b * 2 → bytes_of (take (end - 19) (drop 19 u)) ≡ q.b
asks_spells q end e = ap bytes_of (body_here q end e) ∙ q.spells_b.bytes

-- a well-formed line of another kind than `A`: its fields spell bytes, and it is the line of the request that they make
module _ (l : List ℕ) (formed : well_spelled l ≡ true) (other : get_or l 0 0 ≡ 65 → ⊥) where
  abbrev setup_field : List ℕ
  setup_field = take 16 (drop 2 l)

  abbrev data_field : List ℕ
  data_field = take (length l - 20) (drop 19 l)

  abbrev asked : List ℕ
  asked = bytes_of setup_field ++ bytes_of data_field

  asked-fits : fits_of asked ≡ true
  unfolding fits
  asked-fits = ap fits (sym (event_request l other)) ∙ formed_fits l formed

  asked-line : capital_line l ≡ spelled (hex_of (take 8 asked)) (hex_of (drop 8 asked)) []
  unfolding line_of
  asked-line = formed_line l formed ∙ ap line_of (event_request l other)

  sixteen : length (hex_of (take 8 asked)) ≡ 16
  sixteen = setup_wide asked (fits_eight asked asked-fits)

  fields : Uncapital l (hex_of (take 8 asked)) (hex_of (drop 8 asked))
  fields = uncapital l (hex_of (take 8 asked)) (hex_of (drop 8 asked)) sixteen asked-line

  setup_long : length setup_field ≡ 16
  setup_long = sym (capitals-length setup_field) ∙ ap length fields.setup ∙ sixteen

  setup_spells : Spells setup_field (bytes_of setup_field)
  setup_spells = spells_field setup_field 8 (sym (digits_of_capitals setup_field) ∙ ap all_digits fields.setup ∙ digits_hex (take 8 asked)) setup_long

  data_spells : Spells data_field (bytes_of data_field)
  data_spells =
      spells_field data_field (length (drop 8 asked)) (sym (digits_of_capitals data_field) ∙ ap all_digits fields.body ∙ digits_hex (drop 8 asked))
      (sym (capitals-length data_field) ∙ ap length fields.body ∙ hex_length (drop 8 asked))

  eight : length (bytes_of setup_field) ≡ 8
  eight =
      let t = setup_spells.twice in
      let e = setup_long in
      omega arith

pub event_bytes : (l : List ℕ) → well_spelled l ≡ true → in_bytes (event_of l) ≡ true
unfolding in_bytes event_of
event_bytes l h =
    by_bool (eqb (get_or l 0 0) 65)
    (λ e. rw e)
    (λ e.
    let o : get_or l 0 0 ≡ 65 → ⊥ = eqb-false (get_or l 0 0) 65 e in
    let a : all_bytes (bytes_of (take 16 (drop 2 l))) ≡ true = bytes_are (take 16 (drop 2 l)) (setup_spells l h o).digits in
    let b : all_bytes (bytes_of (take (length l - 20) (drop 19 l))) ≡ true = bytes_are (take (length l - 20) (drop 19 l)) (data_spells l h o).digits in
    rw e (bytes-append (bytes_of (take 16 (drop 2 l))) (bytes_of (take (length l - 20) (drop 19 l))) a b))

pub asks : (u : List ℕ) → well_spelled (first_line u) ≡ true → (get_or u 0 0 ≡ 65 → ⊥) → Asks u
asks u h n =
    let l = first_line u in
    let o : get_or l 0 0 ≡ 65 → ⊥ = λ k. n (sym (first_kind u) ∙ k) in
    let x = take 16 (drop 2 l) in
    let y = take (length l - 20) (drop 19 l) in
    let r = drop (length l) u in
    record {
      a = bytes_of x;
      b = bytes_of y;
      r = r;
      field_a = x;
      field_b = y;
      whole = eight l h o;
      fit = asked-fits l h o;
      spells_a = setup_spells l h o;
      spells_b = data_spells l h o;
      is = sym (first_rest u) ∙ ap (λ (k : List ℕ). k ++ r) (fields l h o).is ∙ simp append_assoc;
    }
