-- Lengths that the code goes by: no rule of the format. Assumes nothing.
use Rattle.std.specs.Prelude.{ℕ, ◌+◌, cond, ◌&&◌, List, length, ◌==◌, slice_index}
use Rattle.laws.specs.Bytes.{put}
use Rattle.laws.specs.Lines.{first_line}
use Rattle.record.specs.Record.{spelled, record_in, good_record}

-- where a line ends whose digits end at a place of a text; 0 where neither LF nor CR LF stands there
unfoldable pub line_end : List ℕ → ℕ → ℕ
line_end t end = cond (slice_index t end == 10) (end + 1) (cond (slice_index t end == 13 && slice_index t (end + 1) == 10) (end + 2) 0)

-- how long the first line of a text is; 0 where it spells no record
unfoldable pub spelled_length : List ℕ → ℕ
spelled_length t = cond (spelled (first_line t)) (length (first_line t)) 0

-- how long it is; 0 where it is a bad record
unfoldable pub record_line_length : List ℕ → ℕ
record_line_length t = cond (good_record (first_line t)) (length (first_line t)) 0

-- a buffer with the record of the first line in front, where it spells one
unfoldable pub record_laid : List ℕ → List ℕ → List ℕ
record_laid t out = cond (spelled (first_line t)) (put 0 (record_in (first_line t)) out) out
