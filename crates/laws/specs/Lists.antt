-- What a list of numbers is asked for: are they bytes, are two of them the same. Assumes nothing.
use Rattle.std.specs.Prelude.{Bool, true, false, ◌&&◌, List, [], ◌∷◌, ℕ, zero, suc, eqb, ltb}

-- each is a byte
unfoldable pub all_bytes : List ℕ → Bool
all_bytes [] = true
all_bytes (x ∷ xs) = ltb x 256 && all_bytes xs

-- two lists of bytes are the same
unfoldable pub same : List ℕ → List ℕ → Bool
same [] [] = true
same [] (y ∷ ys) = false
same (x ∷ xs) [] = false
same (x ∷ xs) (y ∷ ys) = eqb x y && same xs ys

-- the first n of the bytes ms are all v
unfoldable pub all_are : ℕ → ℕ → List ℕ → Bool
all_are v zero ms = true
all_are v (suc n) [] = true
all_are v (suc n) (m ∷ ms) = eqb m v && all_are v n ms
