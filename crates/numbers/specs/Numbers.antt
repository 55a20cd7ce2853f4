-- What the programs that play vectors make of numbers: no rule of the paper. Assumes nothing.
use Rattle.std.specs.Prelude.{cond, List, ℕ, ◌+◌, ◌-◌, ◌*◌, eqb, get_or, Result, Ok, Err}
use Rattle.refusal.specs.declared.Refusal.{Refusal}
use Rattle.refusal.specs.Refusal.{number_of, line_named}
use Rattle.numbers.specs.declared.Numbers.{Numbers}

-- two bytes as a number, low byte first
abbrev pub pair_of : List ℕ → ℕ → ℕ
pair_of bs at = get_or bs at 0 + get_or bs (at + 1) 0 * 0x100

-- four bytes, likewise
abbrev pub quad_of : List ℕ → ℕ → ℕ
quad_of bs at = get_or bs at 0 + get_or bs (at + 1) 0 * 0x100 + get_or bs (at + 2) 0 * 0x1_0000 + get_or bs (at + 3) 0 * 0x100_0000

-- how much of a buffer is lent: its right length, a byte less, a byte more, or nothing
abbrev pub lent_of : ℕ → ℕ → ℕ
lent_of code right = cond (eqb code 0) right (cond (eqb code 1) (right - 1) (cond (eqb code 2) (right + 1) 0))

-- an answer in numbers: the refusal and the line that it names, or 0, and the bytes put out
abbrev pub told_of : Result ℕ Refusal → Numbers
told_of (Ok n) = record { number = 0; line = 0; count = n }
told_of (Err r) = record { number = number_of r; line = line_named r; count = 0 }
