-- What a board can be supplied with. Document 01, "The checker and the plan": image and card; "Refusal numbers", rows 7 and 8. Assumes nothing.
use Rattle.std.specs.Prelude.{Bool, not, ◌||◌, List, [], ◌∷◌, ℕ, eqb, ltb, ⊤, Result}
use Rattle.refusal.specs.declared.Refusal.{Refusal}
use Rattle.refusal.specs.declared.Refusal.TheVariants.{Image, Card}
use Rattle.refusal.specs.Order.{first_of}
use Rattle.board.specs.declared.Board.{Board}
use Rattle.board.specs.Layout.{flash_bytes, option_bytes}

-- row 7, for the length of an image
abbrev pub unfit : Board → ℕ → Bool
unfit board image = eqb image 0 || ltb (flash_bytes board) image

-- rows 7 and 8, for the lengths of image and card
abbrev pub supply_refusals : Board → ℕ → ℕ → List (Refusal × Bool)
supply_refusals board image card =
    (Image, unfit board image)
    ∷ (Card, not (eqb card option_bytes))
    ∷ []

-- the first of them
unfoldable pub supplied : Board → ℕ → ℕ → Result ⊤ Refusal
supplied board image card = first_of (supply_refusals board image card)
