-- The smaller of two numbers. Assumes nothing.
use Rattle.std.specs.Prelude.{cond, ℕ, ltb}

-- the smaller of two
abbrev pub least_of : ℕ → ℕ → ℕ
least_of a b = cond (ltb a b) a b
