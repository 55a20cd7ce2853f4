-- The lines of a text. Assumes nothing.
use Rattle.std.specs.Prelude.{cond, List, [], ◌∷◌, ℕ, eqb}

-- the first line of a text, with the LF that ends it; what has no LF is a line all the same
unfoldable pub first_line : List ℕ → List ℕ
first_line [] = []
first_line (x ∷ t) = cond (eqb x 10) (x ∷ []) (x ∷ first_line t)

-- a byte in front of the first of some lines
unfoldable pub onto : ℕ → List (List ℕ) → List (List ℕ)
onto x [] = (x ∷ []) ∷ []
onto x (l ∷ ls) = (x ∷ l) ∷ ls

-- all lines of a text, each with its LF but perhaps the last
unfoldable pub lines_of : List ℕ → List (List ℕ)
lines_of [] = []
lines_of (x ∷ t) = cond (eqb x 10) ((x ∷ []) ∷ lines_of t) (onto x (lines_of t))
