-- Which names say that a file holds Intel HEX: for the programs, and no rule of the papers. Assumes nothing.
use Rattle.std.specs.Prelude.{Bool, false, cond, ◌||◌, List, [], ◌∷◌, ℕ, ◌+◌, ◌-◌, ltb, length, drop}
use Rattle.laws.specs.Ascii.{ascii}
use Rattle.laws.specs.Lists.{same}

-- a capital as a small letter; any other byte stays
abbrev pub small_of : ℕ → ℕ
small_of b = cond (ltb b 65) b (cond (ltb b 91) (b + 32) b)

-- each of some bytes so
unfoldable pub smalls : List ℕ → List ℕ
smalls [] = []
smalls (x ∷ xs) = small_of x ∷ smalls xs

-- a name ends so, its letters in either case
unfoldable pub ends_in : List ℕ → List ℕ → Bool
ends_in ending name =
    cond (ltb (length name) (length ending)) false
    (same (smalls (drop (length name - length ending) name)) ending)

-- a name for Intel HEX
unfoldable pub is_hex_name : List ℕ → Bool
is_hex_name name = ends_in (ascii ".hex") name || (ends_in (ascii ".ihex") name || ends_in (ascii ".ihx") name)
