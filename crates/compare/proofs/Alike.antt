-- Bytes compared all at once, by a fold, and what it says of each byte. Assumes nothing.
use mathlib.Core.Path.{◌≡◌, refl, ◌∙◌, sym}
use mathlib.Core.Bool.{Bool, true, false, ◌&&◌}
use mathlib.Core.List.{List, [], ◌∷◌}
use Prim.Native.Nat.{ℕ, zero, suc, ◌≤◌, ◌<◌}
use native.Mathlib.Nat.{not-suc-le-zero, le_of_suc-le-suc}
use lib.Dec.{eqb}
use lib.ListN.{length, take, get_or}
use Rattle.std.specs.List.{fold}
use Rattle.std.specs.Cmp.Lexicographic.{pointwise}
use borrow.Author.Tests.{eqb-true}
use Rattle.laws.proofs.Split.{and_true, and_right_true}
use Rattle.laws.specs.Lists.{same, all_are}

and_assoc : (a b c : Bool) → (a && b) && c ≡ a && (b && c)
and_assoc true b c = refl
and_assoc false b c = refl

-- what a fold over bytes that begins with `alike` says
fold_are : (v n : ℕ) (ms : List ℕ) (alike : Bool) → n ≤ length ms → fold (λ a x. a && eqb x v) alike (take n ms) ≡ alike && all_are v n ms
unfolding all_are
fold_are v zero ms alike h = sym (and_right_true alike)
fold_are v (suc n) [] alike h = absurd (not-suc-le-zero h)
fold_are v (suc n) (m ∷ ms) alike h = fold_are v n ms (alike && eqb m v) (le_of_suc-le-suc h) ∙ and_assoc alike (eqb m v) (all_are v n ms)

pub are_folded : (v n : ℕ) (ms : List ℕ) → n ≤ length ms → all_are v n ms ≡ fold (λ a x. a && eqb x v) true (take n ms)
are_folded v n ms h = sym (fold_are v n ms true h)

pub are_at : (v n : ℕ) (ms : List ℕ) → all_are v n ms ≡ true → n ≤ length ms → (j : ℕ) → j < n → get_or ms j 0 ≡ v
unfolding all_are
are_at v zero ms e r j h = absurd (not-suc-le-zero h)
are_at v (suc n) [] e r j h = absurd (not-suc-le-zero r)
are_at v (suc n) (m ∷ ms) e r zero h = eqb-true m v (and_true (eqb m v) (all_are v n ms) e).0
are_at v (suc n) (m ∷ ms) e r (suc j) h = are_at v n ms (and_true (eqb m v) (all_are v n ms) e).1 (le_of_suc-le-suc r) j (le_of_suc-le-suc h)

-- two lists, compared byte by byte as `==` does
pub same_is : (xs ys : List ℕ) → same xs ys ≡ pointwise eqb xs ys
unfolding same
same_is [] [] = refl
same_is [] (y ∷ ys) = refl
same_is (x ∷ xs) [] = refl
same_is (x ∷ xs) (y ∷ ys) = rw (same_is xs ys)
