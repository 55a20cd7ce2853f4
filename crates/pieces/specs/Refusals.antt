-- A piece more: what is given with it, and what it is refused for. Document 02, CR 1. Assumes nothing.
use Rattle.std.specs.Prelude.{Bool, true, false, not, cond, ◌&&◌, List, [], ◌∷◌, ℕ, eqb, length}
use Rattle.bits.specs.Bits.{any_from}
use Rattle.refusal.specs.declared.Refusal.{Refusal}
use Rattle.refusal.specs.declared.Refusal.TheVariants.{Outside, Twice}
use Rattle.board.specs.declared.Board.{Board}
use Rattle.board.specs.Span.{in_flash}
use Rattle.pieces.specs.Image.{Piece, given}

-- there are none
abbrev pub none : {A : Type 0} → List A → Bool
none [] = true
none (x ∷ xs) = false

-- bytes from an address on, added to those given before; no bytes are no piece
unfoldable pub with_piece : ℕ → List ℕ → List Piece → List Piece
with_piece a xs ps = cond (eqb (length xs) 0) ps (record { address = a; bytes = xs } ∷ ps)

-- "a data byte outside flash 21; a byte given twice 22"
abbrev pub piece_refusals : Board → ℕ → List ℕ → List Piece → List (Refusal × Bool)
piece_refusals board a xs ps =
    (Outside, not (eqb (length xs) 0) && not (in_flash board a (length xs)))
    ∷ (Twice, any_from (given ps) a (length xs))
    ∷ []
