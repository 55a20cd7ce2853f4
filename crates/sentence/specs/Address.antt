-- How an address is said: for the words of programs, and no rule of the paper. Assumes nothing.
use Rattle.std.specs.Prelude.{List, [], ◌∷◌, ◌++◌, ℕ, ◌/◌, ◌%◌}
use Rattle.laws.specs.Ascii.{ascii}
use Rattle.hexfield.specs.Hex.{hex_of}

-- the four bytes of a 32-bit number, high byte first
abbrev pub high_first : ℕ → List ℕ
high_first x = x / 16777216 ∷ x / 65536 % 256 ∷ x / 256 % 256 ∷ x % 256 ∷ []

-- 0x and eight hexadecimal digits
abbrev pub address_of : ℕ → List ℕ
address_of x = ascii "0x" ++ hex_of (high_first x)
