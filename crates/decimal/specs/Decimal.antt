-- Numbers in decimal. Document 01, "Bench cases", program `check`: the numbers of its line. Assumes nothing.
use Rattle.std.specs.Prelude.{cond, List, [], ◌∷◌, ◌++◌, ℕ, zero, suc, ◌+◌, ◌/◌, ◌%◌, ltb}

-- the decimal digits of n, if they are no more than the first number
unfoldable pub digits_of : ℕ → ℕ → List ℕ
digits_of zero n = []
digits_of (suc k) n = cond (ltb n 10) ((48 + n) ∷ []) (digits_of k (n / 10) ++ ((48 + n % 10) ∷ []))

-- n in decimal, without leading zeros: it has no more than n + 1 digits
unfoldable pub decimal_of : ℕ → List ℕ
decimal_of n = digits_of (suc n) n
