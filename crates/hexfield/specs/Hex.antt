-- Fields of hexadecimal digits. Document 01, "Job text"; document 02, CR 1 and CR 2. Assumes nothing.
use Rattle.std.specs.Prelude.{Bool, true, ◌&&◌, List, [], ◌∷◌, ℕ, ◌/◌, ltb, take, drop}
use Rattle.laws.specs.Bytes.{put}
use Rattle.digit.specs.Digit.{value_of, digit_of, byte_of, capital_of}

-- every byte of a field is a digit
unfoldable pub all_digits : List ℕ → Bool
all_digits [] = true
all_digits (d ∷ ds) = ltb (value_of d) 16 && all_digits ds

-- a field in capitals
unfoldable pub capitals : List ℕ → List ℕ
capitals [] = []
capitals (d ∷ ds) = capital_of d ∷ capitals ds

-- a list with n of its bytes from place `at` on in capitals, and no other byte changed
unfoldable pub capital_part : ℕ → ℕ → List ℕ → List ℕ
capital_part at n l = put at (capitals (take n (drop at l))) l

-- the bytes that a field spells, two digits a byte
unfoldable pub bytes_of : List ℕ → List ℕ
bytes_of [] = []
bytes_of (d ∷ []) = []
bytes_of (d ∷ e ∷ ds) = byte_of d e ∷ bytes_of ds

-- the field that spells some bytes
unfoldable pub hex_of : List ℕ → List ℕ
hex_of [] = []
hex_of (x ∷ xs) = digit_of (x / 16) ∷ digit_of x ∷ hex_of xs
