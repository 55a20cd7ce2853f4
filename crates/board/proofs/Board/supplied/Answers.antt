-- `board::Board::supplied` meets its contract. Assumes nothing.
use mathlib.Core.Path.{sym, ◌∙◌}
use Rattle.board.proofs.Supply.{image_unfit, card_odd, supply_good}
use Rattle.board.proofs.Board.supplied.Goals as goal

pub returns-then-unfit : goal.returns-then-unfit
returns-then-unfit c = sym (image_unfit _ _ _ (sym c.unfit.ensures ∙ c.if-unfit.true))

pub returns-then-card-ne-OPTION_BYTES : goal.returns-then-card-ne-OPTION_BYTES
returns-then-card-ne-OPTION_BYTES c = sym (card_odd _ _ _ (sym c.unfit.ensures ∙ c.if-unfit.false) c.if-card-ne-OPTION_BYTES.true)

pub returns : goal.returns
returns c = sym (supply_good _ _ _ (sym c.unfit.ensures ∙ c.if-unfit.false) c.if-card-ne-OPTION_BYTES.false)
