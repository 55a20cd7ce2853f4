-- What a HEX text gives, what is wrong with it, and what the reader answers. Document 02, CR 1. Assumes nothing.
use Rattle.std.specs.Prelude.{Bool, true, false, not, cond, List, [], ◌∷◌, ◌++◌, ℕ, suc, ◌+◌, ◌*◌, eqb, get_or, ⊤, Result, Ok, Err}
use Rattle.laws.specs.Lines.{lines_of}
use Rattle.refusal.specs.declared.Refusal.{Refusal}
use Rattle.refusal.specs.declared.Refusal.TheVariants.{Record, Unended, Empty}
use Rattle.refusal.specs.Order.{first_of}
use Rattle.refusal.specs.Delivery.{Delivery, delivered}
use Rattle.record.specs.Record.{record_in, offset_of, offset_count, type_of, data_of, good_record}
use Rattle.pieces.specs.Image.{Piece, image_of}
use Rattle.pieces.specs.Refusals.{none, with_piece, piece_refusals}
use Rattle.board.specs.declared.Board.{Board}

-- the address of a record's first byte: the upper half that holds for it, and its offset; its bytes go on from there, past 64 KiB too
unfoldable pub data_address : ℕ → List ℕ → ℕ
data_address upper r = upper * offset_count + offset_of r

-- type 04: the upper half of the addresses from here on; it is 0 before the first
unfoldable pub upper_after : ℕ → List ℕ → ℕ
upper_after upper r = cond (eqb (type_of r) 4) (get_or r 4 0 * 256 + get_or r 5 0) upper

-- type 00: what is given with a record, the latest first
unfoldable pub given_after : ℕ → List Piece → List ℕ → List Piece
given_after upper ps r = cond (eqb (type_of r) 0) (with_piece (data_address upper r) (data_of r) ps) ps

-- type 01 ends the text
unfoldable pub ends : List ℕ → Bool
ends r = eqb (type_of r) 1

-- of a record, on a board: only data have an address
unfoldable pub record_refusals : Board → ℕ → List Piece → List ℕ → List (Refusal × Bool)
record_refusals board upper ps r = cond (eqb (type_of r) 0) (piece_refusals board (data_address upper r) (data_of r) ps) []

-- "in a line its own faults come before its address, both before 22": of line number k
unfoldable pub line_refusals : Board → ℕ → ℕ → List Piece → List ℕ → List (Refusal × Bool)
line_refusals board k upper ps l = (Record k, not (good_record l)) ∷ record_refusals board upper ps (record_in l)

-- "any text after it, 23, then no data 24": at the end record, with these lines behind it
abbrev pub end_refusals : List Piece → List (List ℕ) → List (Refusal × Bool)
end_refusals ps ls = (Unended, not (none ls)) ∷ (Empty, none ps) ∷ []

-- "the first faulty line decides": line for line, from number k on; "no end record, .. 23"
unfoldable pub refusals_from : Board → ℕ → ℕ → List Piece → List (List ℕ) → List (Refusal × Bool)
refusals_from board k upper ps [] = (Unended, true) ∷ []
refusals_from board k upper ps (l ∷ ls) =
    let r = record_in l in
    line_refusals board k upper ps l ++ cond (ends r) (end_refusals ps ls) (refusals_from board (suc k) (upper_after upper r) (given_after upper ps r) ls)

-- all that these lines give, up to the end record
unfoldable pub pieces_from : ℕ → List Piece → List (List ℕ) → List Piece
pieces_from upper ps [] = ps
pieces_from upper ps (l ∷ ls) =
    let r = record_in l in
    cond (ends r) ps (pieces_from (upper_after upper r) (given_after upper ps r) ls)

-- the refusals of a text, in their order
abbrev pub hex_read_refusals : Board → List ℕ → List (Refusal × Bool)
hex_read_refusals board t = refusals_from board 1 0 [] (lines_of t)

-- the bytes that it gives
abbrev pub pieces_in : List ℕ → List Piece
pieces_in t = pieces_from 0 [] (lines_of t)

-- the reader: 20 to 24, 11
unfoldable pub hex_read : Board → List ℕ → List ℕ → Delivery
hex_read board t out = delivered (hex_read_refusals board t) (image_of board (pieces_in t)) out

-- does one of these apply?
abbrev pub applies : Result ⊤ Refusal → Bool
applies (Ok _) = false
applies (Err r) = true

-- at the end record, line number k: the line behind it, or itself where there are no data; 0 where nothing is wrong
abbrev pub faulty_end : ℕ → List Piece → List (List ℕ) → ℕ
faulty_end k ps ls = cond (none ls) (cond (none ps) k 0) (suc k)

-- the first faulty line, for people; without an end record the line that is missing
unfoldable pub faulty_from : Board → ℕ → ℕ → List Piece → List (List ℕ) → ℕ
faulty_from board k upper ps [] = k
faulty_from board k upper ps (l ∷ ls) =
    let r = record_in l in
    cond (applies (first_of (line_refusals board k upper ps l))) k (cond (ends r) (faulty_end k ps ls) (faulty_from board (suc k) (upper_after upper r) (given_after upper ps r) ls))

-- of a whole text
abbrev pub faulty_line : Board → List ℕ → ℕ
faulty_line board t = faulty_from board 1 0 [] (lines_of t)
