-- An image as HEX "in one spelling", and what the writer answers. Document 02, CR 1. Assumes nothing.
use Rattle.std.specs.Prelude.{Bool, List, [], ◌∷◌, ◌++◌, ℕ, zero, suc, ◌+◌, ◌-◌, ◌/◌, ◌%◌, length, take, drop}
use Rattle.refusal.specs.declared.Refusal.{Refusal}
use Rattle.refusal.specs.declared.Refusal.TheVariants.{Image}
use Rattle.refusal.specs.Delivery.{Delivery, delivered}
use Rattle.board.specs.declared.Board.{Board}
use Rattle.board.specs.Layout.{flash_first}
use Rattle.board.specs.Supply.{unfit}
use Rattle.record.specs.Record.{offset_count, record_of, record_line}

-- "data records of 16 bytes"
abbrev pub record_bytes : ℕ
record_bytes = 16

-- how many so many bytes take, "with a shorter last one"
abbrev pub records_of : ℕ → ℕ
records_of count = (count + (record_bytes - 1)) / record_bytes

-- the upper half of the first flash address, in two bytes
abbrev pub upper_half : Board → List ℕ
upper_half board = flash_first board / offset_count / 256 ∷ flash_first board / offset_count % 256 ∷ []

-- "a 04 record"
abbrev pub upper_line : Board → List ℕ
upper_line board = record_line (record_of 4 0 (upper_half board))

-- so many data records, from an offset on
unfoldable pub data_lines : ℕ → ℕ → List ℕ → List ℕ
data_lines zero offset xs = []
data_lines (suc k) offset xs = record_line (record_of 0 offset (take record_bytes xs)) ++ data_lines k (offset + record_bytes) (drop record_bytes xs)

-- "the end record"
abbrev pub end_line : List ℕ
end_line = record_line (record_of 1 0 [])

-- the text of an image, for a board
unfoldable pub hex_text : Board → List ℕ → List ℕ
hex_text board xs = upper_line board ++ (data_lines (records_of (length xs)) (flash_first board % offset_count) xs ++ end_line)

-- "the writer gives 7"
abbrev pub hex_write_refusals : Board → List ℕ → List (Refusal × Bool)
hex_write_refusals board xs = (Image, unfit board (length xs)) ∷ []

-- the writer: 7, 11
unfoldable pub hex_written : Board → List ℕ → List ℕ → Delivery
hex_written board xs out = delivered (hex_write_refusals board xs) (hex_text board xs) out
