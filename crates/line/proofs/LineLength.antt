-- The length of the first line by the tests that decide it. Assumes nothing.
use mathlib.Core.Path.{◌≡◌, refl, ap, ap₂, ◌∙◌, sym}
use Rattle.std.specs.Bool.{then_some}
use mathlib.Core.Bool.{Bool, true, false, true≢false}
use mathlib.Core.List.{List, [], ◌∷◌, ◌++◌}
use Prim.Native.Nat.{ℕ, ◌+◌, ◌-◌, ◌*◌, ◌/◌, ◌≤◌, ◌<◌}
use native.Mathlib.Omega.{arith}
use lib.ListN.{length, take, drop, get_or, length-append, length-drop}
use lib.Seq.{length-take-le}
use Rattle.std.proofs.Common.{Option, Some, None, unwrap_or, IfSome}
use Rattle.laws.proofs.Split.{by_bool, by_eq}
use Rattle.request.specs.Setup.{setup_of, data_length}
use Rattle.hexfield.specs.Hex.{bytes_of, all_digits}
use Rattle.line.specs.Event.{attach}
use Rattle.line.specs.Ways.{line_length}
use Rattle.laws.specs.Lines.{first_line}
use Rattle.laws.proofs.Lines.{first_rest, first_kind, first_some, first-length}
use Rattle.line.specs.Line.{event_of, well_spelled}
use Rattle.line.proofs.Spelling.{Spells, spells_field, is_spelled}
use Rattle.line.proofs.FirstLine.{first-attach}
use Rattle.line.proofs.Formed.{formed_attach, attach_line_formed, event_attach, fits_if, setup_front, Asks, asks, asks_facts, asks_formed, asks_size, asks_length, asks_setup, asks_data, asks_digits, asks_body}

pub length_good : (u : List ℕ) → well_spelled (first_line u) ≡ true → line_length u ≡ length (first_line u)
unfolding line_length
length_good u h = rw h

pub length_bad : (u : List ℕ) → well_spelled (first_line u) ≡ false → 0 ≡ line_length u
unfolding line_length
length_bad u h = rw h

-- a length that is not 0 is that of a well-formed line
pub formed_if : (u : List ℕ) → (line_length u ≡ 0 → ⊥) → well_spelled (first_line u) ≡ true
formed_if u n = by_bool (well_spelled (first_line u)) (λ h. h) (λ h. absurd (n (sym (length_bad u h))))

-- and a length of 0 that of a malformed one
pub malformed_if : (u : List ℕ) → 0 < length u → line_length u ≡ 0 → well_spelled (first_line u) ≡ false
malformed_if u s z =
    by_bool (well_spelled (first_line u))
    (λ h. let l : line_length u ≡ length (first_line u) = length_good u h in let w = first_some u s in absurd (omega arith))
    (λ h. h)

-- a line is no longer than what it is in front of
pub length_within : (u : List ℕ) (o : Option ℕ) → unwrap_or o 0 ≡ line_length u → IfSome o (λ n. 0 < n) → IfSome o (λ n. (0 < n) × (n ≤ length u))
length_within u None e some = tt
length_within u (Some n) e some = (
  some,
  by_bool (well_spelled (first_line u))
      (λ h. let l : line_length u ≡ length (first_line u) = length_good u h in let w = first-length u in omega arith)
      (λ h. let l : 0 ≡ line_length u = length_bad u h in omega arith),
)

-- the first line is well formed and spells Attach
pub record Attaches (u : List ℕ) : Type 0 where
  pub first : first_line u ≡ 65 ∷ 10 ∷ []
  pub event : event_of (first_line u) ≡ attach
  pub is : u ≡ 65 ∷ 10 ∷ drop 2 u

pub attaches : (u : List ℕ) → well_spelled (first_line u) ≡ true → get_or u 0 0 ≡ 65 → Attaches u
attaches u h k =
    let l = first_line u in
    let e : event_of l ≡ attach = event_attach l (first_kind u ∙ k) in
    let s : l ≡ 65 ∷ 10 ∷ [] = formed_attach l h (first_kind u ∙ k) in
    let i : u ≡ 65 ∷ 10 ∷ drop (length l) u = sym (first_rest u) ∙ ap (λ (x : List ℕ). x ++ drop (length l) u) s in
    record { first = s; event = e; is = i ∙ ap (λ (n : ℕ). 65 ∷ 10 ∷ drop n u) (ap length s) }

attach_formed : (u : List ℕ) → get_or u 0 0 ≡ 65 → get_or u 1 0 ≡ 10 → well_spelled (first_line u) ≡ true
attach_formed [] k e = absurd (omega arith)
attach_formed (x ∷ []) k e = absurd (omega arith)
attach_formed (x ∷ y ∷ r) k e = ap₂ (λ (m : ℕ) (n : ℕ). well_spelled (first_line (m ∷ n ∷ r))) k e ∙ ap well_spelled (first-attach r) ∙ attach_line_formed

pub attach_line : (u : List ℕ) → get_or u 0 0 ≡ 65 → get_or u 1 0 ≡ 10 → 2 ≡ line_length u
attach_line u k e =
    let h = attach_formed u k e in
    sym (length_good u h ∙ ap length (attaches u h k).first)

pub no_attach : (u : List ℕ) → get_or u 0 0 ≡ 65 → (get_or u 1 0 ≡ 10 → ⊥) → 0 ≡ line_length u
no_attach u k n =
    by_bool (well_spelled (first_line u))
    (λ h. absurd (n (ap (λ (x : List ℕ). get_or x 1 0) (attaches u h k).is)))
    (length_bad u)

pub other_kind : (u : List ℕ) → (get_or u 0 0 ≡ 65 → ⊥) → (get_or u 0 0 ≡ 81 → ⊥) → 0 ≡ line_length u
other_kind u m n =
    by_bool (well_spelled (first_line u))
    (λ h. absurd (n (asks_facts (asks u h m)).kind))
    (length_bad u)

pub too_few : (u : List ℕ) → length u < 2 → 0 ≡ line_length u
too_few u s =
    by_bool (well_spelled (first_line u))
    (λ h.
    by_eq (get_or u 0 0) 65 (λ k. let l = ap length (attaches u h k).is in absurd (omega arith))
    (λ n. let l = asks_size (asks u h n) in absurd (omega arith)))
    (length_bad u)

-- a length that is told by a test
pub told : (b : Bool) (n m : ℕ) → (b ≡ true → n ≡ m) → (b ≡ false → 0 ≡ m) → unwrap_or (then_some b n) 0 ≡ m
told true n m t f = t refl
told false n m t f = f refl

pub told_some : (b : Bool) (n : ℕ) → 0 < n → IfSome (then_some b n) (λ m. 0 < m)
told_some true n h = h
told_some false n h = tt

-- by its length a line is of `A` or of `Q`
pub short_attaches : (u : List ℕ) → well_spelled (first_line u) ≡ true → length (first_line u) < 20 → Attaches u
short_attaches u h l = by_eq (get_or u 0 0) 65 (attaches u h) (λ n. let x = asks u h n in let s = asks_length x in absurd (omega arith))

pub long_asks : (u : List ℕ) → well_spelled (first_line u) ≡ true → 20 ≤ length (first_line u) → Asks u
long_asks u h l = by_eq (get_or u 0 0) 65 (λ k. let s = ap length (attaches u h k).first in absurd (omega arith)) (asks u h)

-- a line of `Q`: what each test tells that fails
module _ (u : List ℕ) (k : get_or u 0 0 ≡ 81) where
  no_request : (Asks u → ⊥) → 0 ≡ line_length u
  no_request n = by_bool (well_spelled (first_line u)) (λ h. absurd (n (asks u h (λ z. omega arith)))) (length_bad u)

  pub too_short : length u < 20 → 0 ≡ line_length u
  too_short h = no_request (λ x. let s = asks_size x in omega arith)

  pub no_tab : (get_or u 1 0 ≡ 9 → ⊥) → 0 ≡ line_length u
  no_tab n = no_request (λ x. n (asks_facts x).first)

  pub no_second_tab : (get_or u 18 0 ≡ 9 → ⊥) → 0 ≡ line_length u
  no_second_tab n = no_request (λ x. n (asks_facts x).second)

  pub no_setup : all_digits (take 16 (drop 2 u)) ≡ false → 0 ≡ line_length u
  no_setup e = no_request (λ x. true≢false (sym (asks_digits x) ∙ e))

  -- m bytes of data are asked for, and end is the place behind their digits
  module _ (m end : ℕ) (asked : m ≡ data_length (setup_of (bytes_of (take 16 (drop 2 u))))) (ends : end ≡ 19 + m * 2) where
    asked_is : (x : Asks u) → m ≡ length x.b
    asked_is x = asked ∙ ap (λ (l : List ℕ). data_length (setup_of l)) (asks_setup x) ∙ asks_data x

    pub data_short : (length u - 20) / 2 < m → 0 ≡ line_length u
    data_short h =
        no_request
        (λ x.
        let e = asked_is x in
        let s = asks_size x in
        omega arith)

    pub no_end : (get_or u end 0 ≡ 10 → ⊥) → 0 ≡ line_length u
    no_end d =
        no_request
        (λ x.
        let e : end ≡ 19 + length x.field_b = let z = asked_is x in let t = x.spells_b.twice in omega arith in
        d (ap (λ (i : ℕ). get_or u i 0) e ∙ (asks_facts x).stop))

    pub no_data : all_digits (take (end - 19) (drop 19 u)) ≡ false → 0 ≡ line_length u
    no_data d =
        no_request
        (λ x.
        let e : end ≡ 19 + length x.b * 2 = let z = asked_is x in omega arith in
        true≢false (sym (asks_body x end e) ∙ d))

    -- and all of them together
    pub request-line : 20 ≤ length u → get_or u 1 0 ≡ 9 → get_or u 18 0 ≡ 9 → all_digits (take 16 (drop 2 u)) ≡ true → m ≤ (length u - 20) / 2 → get_or u end 0 ≡ 10 → all_digits (take (end - 19) (drop 19 u)) ≡ true → end + 1 ≡ line_length u
    request-line long f s p room t d =
        let n = m * 2 in
        let l : 16 ≤ length (drop 2 u) = simp length-drop (omega arith) in
        let o : n ≤ length (drop 19 u) = simp length-drop (omega arith) in
        let g : 20 + n ≤ length u = omega arith in
        let e : end - 19 ≡ n = omega arith in
        let x = take 16 (drop 2 u) in
        let y = take n (drop 19 u) in
        let wx : length x ≡ 8 * 2 = length-take-le 16 (drop 2 u) l in
        let wy : length y ≡ m * 2 = length-take-le n (drop 19 u) o in
        let sx : Spells x (bytes_of x) = spells_field x 8 p wx in
        let sy : Spells y (bytes_of y) = spells_field y m (ap (λ (i : ℕ). all_digits (take i (drop 19 u))) (sym e) ∙ d) wy in
        let la : length (bytes_of x) ≡ 8 = let z = sx.twice in omega arith in
        let lb : length (bytes_of y) ≡ m = let z = sy.twice in omega arith in
        let sz : length (bytes_of x ++ bytes_of y) ≡ length (bytes_of x) + length (bytes_of y) = length-append (bytes_of x) (bytes_of y) in
        let want : data_length (setup_of (bytes_of x ++ bytes_of y)) ≡ data_length (setup_of (bytes_of x)) = ap data_length (setup_front (bytes_of x) (bytes_of y) (omega arith)) in
        let q : Asks u =
        record {
          a = bytes_of x;
          b = bytes_of y;
          r = drop (20 + n) u;
          field_a = x;
          field_b = y;
          whole = la;
          fit = fits_if (bytes_of x ++ bytes_of y) (omega arith) (omega arith);
          spells_a = sx;
          spells_b = sy;
          is = is_spelled u n g k f s (ap (λ (i : ℕ). get_or u i 0) (sym ends) ∙ t);
        } in
        let z : 20 + length (bytes_of y) * 2 ≡ end + 1 = omega arith in
        sym (length_good u (asks_formed q) ∙ asks_length q ∙ z)
