-- Laws of `first_change`: a turn of a loop over its places, and both its ends; and parts that are alike. Assumes nothing.
use mathlib.Core.Path.{◌≡◌, refl, sym, ◌∙◌}
use mathlib.Core.Bool.{true, ◌&&◌}
use mathlib.Core.List.{List}
use Prim.Native.Nat.{ℕ, zero, suc, ◌+◌, ◌-◌, ◌≤◌, ◌<◌}
use native.Mathlib.Omega.{arith}
use native.Mathlib.Numerals.{add-one}
use lib.Dec.{eqb}
use lib.ListN.{length, take, drop, get_or}
use lib.Seq.{drop-cons}
use borrow.Author.Tests.{eq-eqb, ne_eqb}
use Rattle.laws.specs.Lists.{same}
use Rattle.laws.proofs.Split.{by_bool, and_true}
use Rattle.compare.specs.Change.{first_change}

module _ (old new : List ℕ) (i to : ℕ) where
  pub first_turn : i < to → get_or old i 0 ≡ get_or new i 0 → first_change old new (to - i) i ≡ first_change old new (to - (i + 1)) (i + 1)
  unfolding first_change
  first_turn more e =
      let k : to - i ≡ suc (to - (i + 1)) = omega arith in
      rw (k, eq-eqb (get_or old i 0) (get_or new i 0) e, add-one i)

  pub first_stop : i < to → (get_or old i 0 ≡ get_or new i 0 → ⊥) → first_change old new (to - i) i ≡ i
  unfolding first_change
  first_stop more n =
      let k : to - i ≡ suc (to - (i + 1)) = omega arith in
      rw (k, ne_eqb (get_or old i 0) (get_or new i 0) n)

  pub first_end : to ≤ i → first_change old new (to - i) i ≡ i
  unfolding first_change
  first_end h =
      let k : to - i ≡ 0 = omega arith in
      rw k

module _ (old new : List ℕ) where
  -- where so many places are alike, the search goes on behind them
  behind : (n m i : ℕ) → first_change old new n i ≡ i + n → first_change old new (n + m) i ≡ first_change old new m (i + n)
  unfolding first_change
  behind zero m i e =
      let a : zero + m ≡ m = omega arith in
      let b : i + zero ≡ i = omega arith in
      rw (a, b)
  behind (suc n) m i e =
      let k : suc n + m ≡ suc (n + m) = omega arith in
      let j : i + suc n ≡ suc i + n = omega arith in
      by_bool (eqb (get_or old i 0) (get_or new i 0))
      (λ t.
      let u : first_change old new (suc n) i ≡ first_change old new n (suc i) = rw t refl in
      let later : first_change old new n (suc i) ≡ suc i + n = sym u ∙ e ∙ j in
      rw (k, t, j) (behind n m (suc i) later))
      (λ t.
      let u : first_change old new (suc n) i ≡ i = rw t refl in
      let c : i ≡ i + suc n = sym u ∙ e in
      absurd (omega arith))

  -- the same bytes in both
  same_alike : (n i : ℕ) → i + n ≤ length old → i + n ≤ length new → same (take n (drop i old)) (take n (drop i new)) ≡ true → first_change old new n i ≡ i + n
  unfolding first_change same
  same_alike zero i a b e = omega arith
  same_alike (suc n) i a b e =
      let x : i < length old = omega arith in
      let y : i < length new = omega arith in
      let s : same (take (suc n) (drop i old)) (take (suc n) (drop i new)) ≡ (eqb (get_or old i 0) (get_or new i 0) && same (take n (drop (suc i) old)) (take n (drop (suc i) new))) = rw (drop-cons old i 0 x, drop-cons new i 0 y) refl in
      let two = and_true (eqb (get_or old i 0) (get_or new i 0)) (same (take n (drop (suc i) old)) (take n (drop (suc i) new))) (sym s ∙ e) in
      let later : first_change old new n (suc i) ≡ suc i + n = same_alike n (suc i) (omega arith) (omega arith) two.1 in
      let j : suc i + n ≡ i + suc n = omega arith in
      rw two.0 (later ∙ j)

  pub part_alike : (from to : ℕ) → from ≤ to → to ≤ length old → to ≤ length new → same (take (to - from) (drop from old)) (take (to - from) (drop from new)) ≡ true → first_change old new (to - from) from ≡ to
  part_alike from to h a b e =
      let j : from + (to - from) ≡ to = omega arith in
      let is : first_change old new (to - from) from ≡ from + (to - from) = same_alike (to - from) from (omega arith) (omega arith) e in
      is ∙ j

  pub part_passed : (at end to : ℕ) → at ≤ end → end ≤ to → first_change old new (end - at) at ≡ end → first_change old new (to - at) at ≡ first_change old new (to - end) end
  part_passed at end to a b e =
      let k : to - at ≡ (end - at) + (to - end) = omega arith in
      let j : at + (end - at) ≡ end = omega arith in
      let u : first_change old new (end - at) at ≡ at + (end - at) = e ∙ sym j in
      let v : first_change old new ((end - at) + (to - end)) at ≡ first_change old new (to - end) (at + (end - at)) = behind (end - at) (to - end) at u in
      rw k (v ∙ rw j refl)
