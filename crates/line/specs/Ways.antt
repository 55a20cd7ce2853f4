-- A length that the code goes by: no rule of the paper. Assumes nothing.
use Rattle.std.specs.Prelude.{cond, List, ℕ, length}
use Rattle.laws.specs.Lines.{first_line}
use Rattle.line.specs.Line.{well_spelled}

-- how long the first line of a text is; 0 where it is malformed
unfoldable pub line_length : List ℕ → ℕ
line_length t = cond (well_spelled (first_line t)) (length (first_line t)) 0
