-- To go by a truth value or by an order, and keep what it was. Assumes nothing.
use mathlib.Core.Path.{◌≡◌, refl}
use mathlib.Core.Bool.{Bool, true, false, ◌&&◌, ◌||◌, false≢true, true≢false}
use mathlib.Core.Logic.{by_cases}
use Prim.Native.Nat.{ℕ, ◌≤◌, ◌<◌}
use native.Mathlib.Decide.{ℕ_discrete, dec_lt}
use native.Mathlib.Omega.{arith}

pub by_bool : {C : Type 0} (b : Bool) → (b ≡ true → C) → (b ≡ false → C) → C
by_bool true t f = t refl
by_bool false t f = f refl

pub by_eq : {C : Type 0} (m n : ℕ) → (m ≡ n → C) → ((m ≡ n → ⊥) → C) → C
by_eq m n t f = by_cases (ℕ_discrete m n) t f

pub by_lt : {C : Type 0} (m n : ℕ) → (m < n → C) → (n ≤ m → C) → C
by_lt m n t f = by_cases (dec_lt m n) t (λ h. f (omega arith))

pub and_true : (a b : Bool) → (a && b) ≡ true → (a ≡ true) × (b ≡ true)
and_true true b e = (refl, e)
and_true false b e = absurd (false≢true e)

pub or_false : (a b : Bool) → (a || b) ≡ false → (a ≡ false) × (b ≡ false)
or_false true b e = absurd (true≢false e)
or_false false b e = (refl, e)

pub and_right_false : (a : Bool) → (a && false) ≡ false
and_right_false true = refl
and_right_false false = refl

pub and_right_true : (a : Bool) → (a && true) ≡ a
and_right_true true = refl
and_right_true false = refl
