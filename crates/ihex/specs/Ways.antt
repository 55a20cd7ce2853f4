-- How the code goes about a text: no rule of the paper. Assumes nothing.
use Rattle.std.specs.Prelude.{◌≡◌, cond, List, ℕ, ◌+◌, ◌*◌, ◌%◌, ◌≤◌, eqb, length, take, Result, Ok, Err}
use Rattle.refusal.specs.declared.Refusal.{Refusal}
use Rattle.refusal.specs.declared.Refusal.TheVariants.{Unended, Empty}
use Rattle.refusal.specs.Order.{first_of}
use Rattle.refusal.specs.Delivery.{counted}
use Rattle.board.specs.declared.Board.{Board}
use Rattle.board.specs.Layout.{flash_first, flash_bytes}
use Rattle.ihex.specs.declared.Fault.{Fault}
use Rattle.record.specs.Record.{offset_count}
use Rattle.pieces.specs.Image.{Piece, image_of}
use Rattle.pieces.specs.Ways.{Holds}
use Rattle.ihex.specs.Writing.{records_of, data_lines}
use Rattle.ihex.specs.Reading.{given_after, record_refusals, hex_read_refusals, pieces_in, faulty_line}

-- what laying a record comes to: a refusal, or all holds with its data, up to a new end
abbrev pub RecordPlaced : Board → ℕ → List Piece → List ℕ → List ℕ → List ℕ → Result ℕ Refusal → Type 0
RecordPlaced board upper ps r bits image (Err why) = first_of (record_refusals board upper ps r) ≡ Err why
RecordPlaced board upper ps r bits image (Ok end) = (first_of (record_refusals board upper ps r) ≡ Ok tt) × Holds board (given_after upper ps r) bits image end

abbrev pub RecordPlaces : Board → ℕ → List ℕ → ℕ → List ℕ → List ℕ → List ℕ → List ℕ → Result ℕ Refusal → Type 0
RecordPlaces board upper r end bits image bits' image' done = (ps : List Piece) → Holds board ps bits image end → RecordPlaced board upper ps r bits' image' done

-- the end of a walk at a fault
abbrev pub stopped_of : Refusal → ℕ → Result ℕ Fault
stopped_of why line = Err (record { why = why; line = line })

-- what a walk comes to without the line at fault, and that line, or 0 where there is none
abbrev pub without_line : Result ℕ Fault → Result ℕ Refusal
without_line (Ok end) = Ok end
without_line (Err fault) = Err fault.why

abbrev pub line_at_fault : Result ℕ Fault → ℕ
line_at_fault (Ok end) = 0
line_at_fault (Err fault) = fault.line

-- the end of a walk at the end record, line number k: so many bytes stand behind it, and the image ends there
unfoldable pub ended_of : ℕ → ℕ → ℕ → Result ℕ Fault
ended_of left end k =
    cond (eqb left 0) (cond (eqb end 0) (stopped_of Empty k) (Ok end)) (stopped_of Unended (k + 1))

-- a walk over a text: what it comes to, the line at fault, and the image in front of its buffer
pub record Walks (board : Board) (t : List ℕ) (r : Result ℕ Fault) (image : List ℕ) : Type 0 where
  pub answer : without_line r ≡ counted (first_of (hex_read_refusals board t)) (length (image_of board (pieces_in t)))
  pub line : line_at_fault r ≡ faulty_line board t
  pub front : first_of (hex_read_refusals board t) ≡ Ok tt → take (length (image_of board (pieces_in t))) image ≡ image_of board (pieces_in t)

-- one 04 record does for all of flash, and its data begin at offset 0
pub record OneSegment (board : Board) : Type 0 where
  pub begins : flash_first board % offset_count ≡ 0
  pub most : flash_bytes board ≤ offset_count

-- the lines of an image's data, from offset 0 on
unfoldable pub data_text : List ℕ → List ℕ
data_text xs = data_lines (records_of (length xs)) 0 xs

-- how long the text of so many bytes is: the two lines around the data, and for each record of them its frame
abbrev pub text_bytes : ℕ → ℕ
text_bytes count = 28 + records_of count * 12 + count * 2
