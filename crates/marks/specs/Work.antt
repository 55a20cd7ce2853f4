-- What a work area says of every board at once: a device of the proof, which the promise of no entry point names. A known byte is the same on
-- every board, and has its value; any other is the board's own, as it was at the start. Assumes nothing.
use Rattle.std.specs.Prelude.{◌≡◌, Bool, List, ℕ, ◌+◌, eqb, length, take, drop, get_or}
use Rattle.laws.specs.Bytes.{put, filled}
use Rattle.laws.specs.Lists.{all_are}
use Rattle.board.specs.declared.Board.{Board}
use Rattle.board.specs.Layout.{memory_bytes}
use Rattle.request.specs.Request.{transfer_bytes}

-- a value and a mark for each byte of memory, and the block that waits to be written
pub record Work : Type 0 where
  pub values : List ℕ
  pub marks : List ℕ
  pub block : List ℕ

-- the mark of a byte that is known
unfoldable pub known_mark : ℕ
known_mark = 1

-- where a work area has its values
unfoldable pub values_from : Board → ℕ
values_from board = 0

-- where it has its marks
unfoldable pub marks_from : Board → ℕ
marks_from board = memory_bytes board

-- where it has its block
unfoldable pub block_from : Board → ℕ
block_from board = memory_bytes board + memory_bytes board

-- what the bytes w of a work area say
unfoldable pub work_of : Board → List ℕ → Work
work_of board w =
    record {
      values = take (memory_bytes board) (drop (values_from board) w);
      marks = take (memory_bytes board) (drop (marks_from board) w);
      block = take transfer_bytes (drop (block_from board) w);
    }

-- byte i is known
unfoldable pub known : Work → ℕ → Bool
known w i = eqb (get_or w.marks i 0) known_mark

-- other values
abbrev pub valued : List ℕ → Work → Work
valued m w = record { values = m; marks = w.marks; block = w.block }

-- other marks
abbrev pub marked : List ℕ → Work → Work
marked k w = record { values = w.values; marks = k; block = w.block }

-- another block
abbrev pub blocked : List ℕ → Work → Work
blocked b w = record { values = w.values; marks = w.marks; block = b }

-- `count` bytes from place `from` on become known, whatever they are
unfoldable pub knowing : ℕ → ℕ → Work → Work
knowing from count w = record { values = w.values; marks = filled from count known_mark w.marks; block = w.block }

-- the values xs from place `from` on, known
unfoldable pub learnt : ℕ → List ℕ → Work → Work
learnt from xs w = knowing from (length xs) (valued (put from xs w.values) w)

-- nothing is known
unfoldable pub forgotten : Board → Work → Work
forgotten board w = record { values = w.values; marks = filled 0 (memory_bytes board) 0 w.marks; block = w.block }

-- each of `count` bytes from place `from` on is known
unfoldable pub all_known : ℕ → ℕ → Work → Bool
all_known from count w = all_are known_mark count (drop from w.marks)

-- none of them is: its mark is the one of a byte that was forgotten
unfoldable pub none_known : ℕ → ℕ → Work → Bool
none_known from count w = all_are 0 count (drop from w.marks)

-- a value and a mark for each byte of the board's memory, and a transfer
pub record Sized (board : Board) (w : Work) : Type 0 where
  pub values : length w.values ≡ memory_bytes board
  pub marks : length w.marks ≡ memory_bytes board
  pub block : length w.block ≡ transfer_bytes
