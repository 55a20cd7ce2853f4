-- Where two memories differ: for the words of programs, and no rule of the paper. Assumes nothing.
use Rattle.std.specs.Prelude.{cond, List, ℕ, zero, suc, eqb, get_or}

-- of so many places from place i on, the lowest where the two differ, or the place behind them
unfoldable pub first_change : List ℕ → List ℕ → ℕ → ℕ → ℕ
first_change old new zero i = i
first_change old new (suc n) i = cond (eqb (get_or old i 0) (get_or new i 0)) (first_change old new n (suc i)) i
