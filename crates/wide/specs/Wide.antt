-- How eight digits are taken at once: no rule of the paper, and no public promise names it. Assumes nothing.
use Rattle.std.specs.Prelude.{List, [], ◌∷◌, ℕ, ◌+◌, ◌*◌}

-- bytes as one number, the first the lowest
unfoldable pub joined_of : List ℕ → ℕ
joined_of [] = 0
joined_of (x ∷ xs) = joined_of xs * 256 + x
