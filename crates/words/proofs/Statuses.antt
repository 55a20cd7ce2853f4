-- A status that the loader has no name for. Assumes nothing.
use mathlib.Core.Path.{◌≡◌}
use mathlib.Core.List.{[], ◌∷◌, append-nil}
use Prim.Native.Nat.{ℕ}
use Rattle.decimal.specs.Decimal.{decimal_of}
use Rattle.sentence.specs.Sentence.{number, spelled_of, filled_of, sentence_of}

-- a template of one number says the number
pub number_said : (n : ℕ) → sentence_of (number ∷ []) (n ∷ []) [] ≡ decimal_of n
unfolding sentence_of filled_of spelled_of
number_said n = append-nil (decimal_of n)
