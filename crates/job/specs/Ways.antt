-- A length that the code goes by: no rule of the paper. Assumes nothing.
use Rattle.std.specs.Prelude.{cond, ℕ, ◌-◌, ◌/◌, ltb}

-- how many packed bytes the event of a well-formed line of n bytes takes
unfoldable pub packed_size : ℕ → ℕ
packed_size n = cond (ltb n 20) 1 (n / 2 - 1)
