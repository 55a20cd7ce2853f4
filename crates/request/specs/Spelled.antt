-- Requests as bytes, the other way round from `setup_of`: what a host sends. Document 01, "Events". Assumes nothing.
use Rattle.std.specs.Prelude.{List, [], ◌∷◌, ◌++◌, ℕ, ◌/◌, ◌%◌, length}

-- a number in two bytes, "low byte first"
abbrev pub two : ℕ → List ℕ
two x = x % 256 ∷ x / 256 % 256 ∷ []

-- a number in four bytes, "low byte first"
abbrev pub four : ℕ → List ℕ
four x = x % 256 ∷ x / 256 % 256 ∷ x / 65536 % 256 ∷ x / 16777216 % 256 ∷ []

-- DNLOAD with this wValue and the data xs
abbrev pub downloading : ℕ → List ℕ → List ℕ
downloading value xs = 0x21 ∷ 1 ∷ (two value ++ (0 ∷ 0 ∷ (two (length xs) ++ xs)))

-- UPLOAD with this wValue and this wLength
abbrev pub uploading : ℕ → ℕ → List ℕ
uploading value count = 0xA1 ∷ 2 ∷ (two value ++ (0 ∷ 0 ∷ two count))

-- GETSTATUS
abbrev pub getting_status : List ℕ
getting_status = 0xA1 ∷ 3 ∷ 0 ∷ 0 ∷ 0 ∷ 0 ∷ 6 ∷ 0 ∷ []

-- CLRSTATUS
abbrev pub clearing_status : List ℕ
clearing_status = 0x21 ∷ 4 ∷ 0 ∷ 0 ∷ 0 ∷ 0 ∷ 0 ∷ 0 ∷ []
