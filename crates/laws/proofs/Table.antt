-- A table's rule: where a test passes at every entry, it passes at each. Assumes nothing.
use mathlib.Core.Path.{◌≡◌, refl, ◌∙◌, sym, subst}
use mathlib.Core.Bool.{Bool, true, false, ◌&&◌}
use mathlib.Core.List.{List, [], ◌∷◌}
use Prim.Native.Nat.{ℕ, zero, suc, ◌+◌, ◌<◌}
use native.Mathlib.Nat.{add-zero, zero-add, add-suc, suc-add, le_of_suc-le-suc, not-suc-le-zero}
use lib.Dec.{T}
use lib.ListN.{length, get_or}
use Rattle.laws.specs.Table.{every, agree}

pub and_left : (a b : Bool) → T (a && b) → T a
and_left true b t = tt
and_left false b t = t

pub and_right : (a b : Bool) → T (a && b) → T b
and_right true b t = t
and_right false b t = absurd t

module _ {A : Type 0} (test : ℕ → A → Bool) (d : A) where
  from : (xs : List A) (i : ℕ) → T (every test i xs) → (k : ℕ) → k < length xs → T (test (i + k) (get_or xs k d))
  from [] i t k h = absurd (not-suc-le-zero h)
  from (x ∷ xs) i t zero h = subst (λ (m : ℕ). T (test m x)) (sym (add-zero i)) (and_left (test i x) (every test (suc i) xs) t)
  from (x ∷ xs) i t (suc k) h =
      subst (λ (m : ℕ). T (test m (get_or xs k d))) (suc-add i k ∙ sym (add-suc i k))
      (from xs (suc i) (and_right (test i x) (every test (suc i) xs) t) k (le_of_suc-le-suc h))

  pub every_at : (xs : List A) → T (every test 0 xs) → (k : ℕ) → k < length xs → T (test k (get_or xs k d))
  every_at xs t k h = subst (λ (m : ℕ). T (test m (get_or xs k d))) (zero-add k) (from xs 0 t k h)

pub agree_eq : (a b : Bool) → T (agree a b) → a ≡ b
agree_eq true true t = refl
agree_eq true false t = absurd t
agree_eq false true t = absurd t
agree_eq false false t = refl
