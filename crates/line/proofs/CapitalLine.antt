-- Laws of a line's capital spelling: what it changes, and the line that it is of. Assumes nothing.
use mathlib.Core.Path.{◌≡◌, refl, ap, ap₂, ◌∙◌, sym}
use mathlib.Core.Logic.{◌⊎◌, inl, inr, ⊎_elim}
use mathlib.Core.List.{List, [], ◌∷◌, ◌++◌, append_assoc}
use Prim.Native.Nat.{ℕ, ◌+◌, ◌-◌, ◌≤◌, ◌<◌}
use native.Mathlib.Omega.{arith}
use lib.ListN.{length, take, drop, get_or, length-append, length-drop, drop_of_length-le}
use lib.Seq.{ext_get_or, length-take-le}
use borrow.Author.Tests.{eq-eqb, ne_eqb}
use Rattle.laws.proofs.Split.{by_eq, by_lt}
use Rattle.digit.specs.Digit.{capital_of}
use Rattle.digit.proofs.Values.{capital_of_capital}
use Rattle.hexfield.specs.Hex.{capitals, capital_part}
use Rattle.hexfield.proofs.Capitals.{part_capitals, part_same_length, part_inside, part_outside, part_between, capitals-length, same_bytes}
use Rattle.line.specs.Line.{InField, capital_line, event_of}
use Rattle.line.proofs.Spelling.{spelled, Spelled, spelled-here, is_spelled}

-- a place of a line of n bytes lies outside of both hex fields
abbrev Outside : ℕ → ℕ → Type 0
Outside n i = ((i < 2) ⊎ (2 + 16 ≤ i)) × ((i < 19) ⊎ (19 + (n - 20) ≤ i))

in_or_out : (l : List ℕ) (i : ℕ) → InField l i ⊎ Outside (length l) i
in_or_out l i =
    by_lt i 2 (λ a. inr (inl a, inl (omega arith)))
    (λ a.
    by_lt i 18 (λ b. inl (inl (a, b)))
    (λ b.
    by_lt i 19 (λ c. inr (inr b, inl c))
    (λ c. by_lt i (19 + (length l - 20)) (λ d. inl (inr (c, d))) (λ d. inr (inr b, inr d)))))

-- a byte of a hex field becomes its capital
pub capital_inside : (l : List ℕ) (i : ℕ) → get_or l 0 0 ≡ 81 → InField l i → i < length l → get_or (capital_line l) i 0 ≡ capital_of (get_or l i 0)
unfolding capital_line
capital_inside l i k in_field h =
    let n = length l - 20 in
    let m = capital_part 19 n l in
    let w : i < length m = rw (part_same_length 19 n l) h in
    rw (eq-eqb (get_or l 0 0) 81 k)
    (⊎_elim
    (λ r. let c : i < 19 = omega arith in part_inside 2 16 m i r.0 r.1 w ∙ ap capital_of (part_outside 19 n l i (inl c)))
    (λ r. let b : 2 + 16 ≤ i = omega arith in part_outside 2 16 m i (inr b) ∙ part_inside 19 n l i r.0 r.1 h)
    in_field)

-- only a line of `Q` has hex fields
pub capital_other : (l : List ℕ) → (get_or l 0 0 ≡ 81 → ⊥) → capital_line l ≡ l
unfolding capital_line
capital_other l n = rw (ne_eqb (get_or l 0 0) 81 n)

-- and no other byte changes
stays_outside : (l : List ℕ) (i : ℕ) → Outside (length l) i → get_or (capital_line l) i 0 ≡ get_or l i 0
unfolding capital_line
stays_outside l i out =
    by_eq (get_or l 0 0) 81
    (λ k. rw (eq-eqb (get_or l 0 0) 81 k) (part_outside 2 16 (capital_part 19 (length l - 20) l) i out.0 ∙ part_outside 19 (length l - 20) l i out.1))
    (λ n. ap (λ (x : List ℕ). get_or x i 0) (capital_other l n))

pub capital_outside : (l : List ℕ) (i : ℕ) → (InField l i → ⊥) → get_or (capital_line l) i 0 ≡ get_or l i 0
capital_outside l i none = ⊎_elim (λ r. absurd (none r)) (stays_outside l i) (in_or_out l i)

capital_kind : (l : List ℕ) → get_or (capital_line l) 0 0 ≡ get_or l 0 0
capital_kind l = stays_outside l 0 (inl (omega arith), inl (omega arith))

-- nothing but the case of letters changes
pub capital_capitals : (l : List ℕ) → capitals (capital_line l) ≡ capitals l
unfolding capital_line
capital_capitals l =
    by_eq (get_or l 0 0) 81
    (λ k. rw (eq-eqb (get_or l 0 0) 81 k) (part_capitals 2 16 (capital_part 19 (length l - 20) l) ∙ part_capitals 19 (length l - 20) l))
    (λ n. ap capitals (capital_other l n))

pub capital_same_length : (l : List ℕ) → length (capital_line l) ≡ length l
capital_same_length l = sym (capitals-length (capital_line l)) ∙ ap length (capital_capitals l) ∙ capitals-length l

-- a capital spelling is its own
pub capital_line_stays : (l : List ℕ) → capital_line (capital_line l) ≡ capital_line l
capital_line_stays l =
    let m = capital_line l in
    by_eq (get_or l 0 0) 81
    (λ k.
    let q : get_or m 0 0 ≡ 81 = capital_kind l ∙ k in
    let s : length m ≡ length l = capital_same_length l in
    ext_get_or 0 (capital_line m) m (capital_same_length m)
    (λ i h.
    let w : i < length m = rw (sym (capital_same_length m)) h in
    let v : i < length l = omega arith in
    ⊎_elim
    (λ r.
    capital_inside m i q (rw s r) w ∙ ap capital_of (capital_inside l i k r v) ∙ capital_of_capital (get_or l i 0) ∙ sym (capital_inside l i k r v))
    (λ r. stays_outside m i (rw s r))
    (in_or_out l i)))
    (λ n. capital_other m (λ k. n (sym (capital_kind l) ∙ k)))

-- it spells the same event
pub event_capital : (l : List ℕ) → event_of (capital_line l) ≡ event_of l
unfolding event_of
event_capital l =
    let c = capital_capitals l in
    rw (capital_kind l, capital_same_length l, same_bytes (capital_line l) l 2 16 c, same_bytes (capital_line l) l 19 (length l - 20) c)

-- a request's line, by its fields
pub capital_spelled : (x y : List ℕ) → length x ≡ 16 → capital_line (spelled x y []) ≡ spelled (capitals x) (capitals y) []
unfolding capital_line
capital_spelled x y wide =
    let u = spelled x y [] in
    let a : List ℕ = 81 ∷ 9 ∷ (x ++ (9 ∷ [])) in
    let z = (spelled-here u x y [] wide refl).size in
    let n : length y ≡ length u - 20 = omega arith in
    let e : length a ≡ 19 = let l : length (x ++ (9 ∷ [])) ≡ length x + 1 = length-append x (9 ∷ []) in omega arith in
    let split : (w : List ℕ) → spelled x w [] ≡ a ++ (w ++ (10 ∷ [])) = λ w. ap (λ (r : List ℕ). 81 ∷ 9 ∷ r) (sym (append_assoc x (9 ∷ []) (w ++ (10 ∷ [])))) in
    ap (capital_part 2 16)
    (ap (capital_part 19 (length u - 20)) (split y) ∙ part_between a y (10 ∷ []) 19 (length u - 20) e n ∙ sym (split (capitals y)))
    ∙ part_between (81 ∷ 9 ∷ []) x (9 ∷ (capitals y ++ (10 ∷ []))) 2 16 refl wide

-- and back: a line whose capital spelling is that of fields p and q has fields whose capitals these are
pub record Uncapital (l p q : List ℕ) : Type 0 where
  pub is : l ≡ spelled (take 16 (drop 2 l)) (take (length l - 20) (drop 19 l)) []
  pub setup : capitals (take 16 (drop 2 l)) ≡ p
  pub body : capitals (take (length l - 20) (drop 19 l)) ≡ q

module _ (l p q : List ℕ) (wide : length p ≡ 16) (e : capital_line l ≡ spelled p q []) where
  facts : Spelled (capital_line l) p q []
  facts = spelled-here (capital_line l) p q [] wide e

  size : length l ≡ 20 + length q
  size = let z = facts.size in let s = capital_same_length l in omega arith

  stands : (i : ℕ) → Outside (length l) i → get_or l i 0 ≡ get_or (capital_line l) i 0
  stands i out = sym (stays_outside l i out)

  own : l ≡ spelled (take 16 (drop 2 l)) (take (length l - 20) (drop 19 l)) []
  own =
      let z = size in
      let n : length q ≡ length l - 20 = omega arith in
      let long : 20 + length q ≤ length l = omega arith in
      let last : 19 + (length l - 20) ≤ 19 + length q = omega arith in
      let k : get_or l 0 0 ≡ 81 = sym (capital_kind l) ∙ facts.kind in
      let f : get_or l 1 0 ≡ 9 = stands 1 (inl (omega arith), inl (omega arith)) ∙ facts.first in
      let s : get_or l 18 0 ≡ 9 = stands 18 (inr (omega arith), inl (omega arith)) ∙ facts.second in
      let t : get_or l (19 + length q) 0 ≡ 10 = stands (19 + length q) (inr (let h : 18 ≤ 19 + length q = omega arith in h), inr last) ∙ facts.stop in
      let d : drop (20 + length q) l ≡ [] = drop_of_length-le l (let h : length l ≤ 20 + length q = omega arith in h) in
      is_spelled l (length q) long k f s t
      ∙ ap₂ (λ (j : ℕ) (r : List ℕ). spelled (take 16 (drop 2 l)) (take j (drop 19 l)) r) n d

  pub uncapital : Uncapital l p q
  uncapital =
      let x = take 16 (drop 2 l) in
      let y = take (length l - 20) (drop 19 l) in
      let z = size in
      let w : length x ≡ 16 = field_long in
      let c : spelled (capitals x) (capitals y) [] ≡ spelled p q [] = sym (ap capital_line own ∙ capital_spelled x y w) ∙ e in
      let wx : length (capitals x) ≡ 16 = capitals-length x ∙ w in
      let g = spelled-here (spelled p q []) (capitals x) (capitals y) [] wx (sym c) in
      let h = spelled-here (spelled p q []) p q [] wide refl in
      let m : length (capitals y) ≡ length q = let a = g.size in let b = h.size in omega arith in
      record {
        is = own;
        setup = sym g.setup ∙ h.setup;
        body = sym g.body ∙ ap (λ (j : ℕ). take j (drop 19 (spelled p q []))) m ∙ h.body;
      }
    where
      field_long : length (take 16 (drop 2 l)) ≡ 16
      field_long = let z = size in let d : length (drop 2 l) ≡ length l - 2 = length-drop 2 l in length-take-le 16 (drop 2 l) (omega arith)
