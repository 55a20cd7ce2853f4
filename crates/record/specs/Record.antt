-- One line of Intel HEX and its record. Intel's "Hexadecimal Object File Format Specification", in its order, as document 02, CR 1, takes it. Assumes nothing.
use Rattle.std.specs.Prelude.{ℕ, ◌+◌, ◌-◌, ◌*◌, ◌/◌, ◌%◌, Bool, true, false, cond, ◌&&◌, ◌||◌, List, [], ◌∷◌, ◌++◌, length, take, drop, ◌==◌, slice_index}
use Rattle.laws.specs.Lists.{same}
use Rattle.digit.specs.Digit.{byte_of}
use Rattle.hexfield.specs.Hex.{all_digits, bytes_of, hex_of}

-- the record mark, ':'
abbrev pub mark : ℕ
mark = 58

-- the bytes of a record beside its data: length, offset (two), type; and the sum behind the data
abbrev pub frame_bytes : ℕ
frame_bytes = 5

-- the length field of a line, the two digits behind the mark: how many data bytes its record has
unfoldable pub length_in : List ℕ → ℕ
length_in l = byte_of (slice_index l 1) (slice_index l 2)

-- the digits of a line's record, two a byte
unfoldable pub digits_in : List ℕ → List ℕ
digits_in l = take ((frame_bytes + length_in l) * 2) (drop 1 l)

-- "Every line ends with LF or CR LF": what stands behind the digits is that and nothing else
unfoldable pub ended : List ℕ → Bool
ended l =
    let end = drop ((frame_bytes + length_in l) * 2) (drop 1 l) in
    same end (10 ∷ []) || same end (13 ∷ 10 ∷ [])

-- a line spells a record: the mark, as many digits as its length says, "in either case", and its end
unfoldable pub spelled : List ℕ → Bool
spelled l = (slice_index l 0 == mark && all_digits (digits_in l)) && ended l

-- the record of a line: its bytes
unfoldable pub record_in : List ℕ → List ℕ
record_in l = bytes_of (digits_in l)

-- a record's fields: length
unfoldable pub length_of : List ℕ → ℕ
length_of r = slice_index r 0

-- offset, high byte first
unfoldable pub offset_of : List ℕ → ℕ
offset_of r = slice_index r 1 * 256 + slice_index r 2

-- so many offsets there are, 64 KiB
abbrev pub offset_count : ℕ
offset_count = 0x10000

-- type
unfoldable pub type_of : List ℕ → ℕ
type_of r = slice_index r 3

-- data
unfoldable pub data_of : List ℕ → List ℕ
data_of r = take (length_of r) (drop 4 r)

-- all bytes added up
unfoldable pub sum_of : List ℕ → ℕ
sum_of [] = 0
sum_of (x ∷ xs) = x + sum_of xs

-- "Read record types 00, 01 and 04", "Type 05 is checked": each with the length and the offset that the format gives it; "any other is a bad record"
unfoldable pub suits : ℕ → ℕ → ℕ → Bool
suits type bytes offset =
    cond (type == 0) true
    (cond (type == 1) (bytes == 0 && offset == 0)
    (cond (type == 4) (bytes == 2 && offset == 0)
    (cond (type == 5) (bytes == 4 && offset == 0) false)))

-- "check each record's sum": all bytes with it add up to 0 modulo 256
unfoldable pub sound : List ℕ → Bool
sound r = suits (type_of r) (length_of r) (offset_of r) && sum_of r % 256 == 0

-- the line is no bad record
unfoldable pub good_record : List ℕ → Bool
good_record l = spelled l && sound (record_in l)

-- a record without its sum gets it
unfoldable pub summed : List ℕ → List ℕ
summed r = r ++ ((256 - sum_of r % 256) % 256 ∷ [])

-- a record of a type, an offset and data
unfoldable pub record_of : ℕ → ℕ → List ℕ → List ℕ
record_of type offset xs = summed (length xs ∷ offset / 256 ∷ offset % 256 ∷ type ∷ xs)

-- "in one spelling", "capitals, LF": the line of a record
unfoldable pub record_line : List ℕ → List ℕ
record_line r = mark ∷ (hex_of r ++ (10 ∷ []))
