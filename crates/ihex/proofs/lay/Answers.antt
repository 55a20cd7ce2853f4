-- `ihex::lay` meets its contract. Assumes nothing.
use Rattle.pieces.proofs.Placing.{placing_places}
use Rattle.ihex.proofs.Laying.{data_is, no_data, placed_laid}
use Rattle.ihex.proofs.lay.Goals as goal

pub returns-then-record-ne-DATA : goal.returns-then-record-ne-DATA
returns-then-record-ne-DATA c =
    λ ps h. let p = no_data c.args.board c.args.upper ps c.args.«record».now c.if-record-ne-DATA.true in (p.0, rw p.1 h)

pub returns : goal.returns
returns c =
    λ ps h. placed_laid c.args.board c.args.upper ps c.args.«record».now c.place.result _ _ _ _ c.if-record-ne-DATA.false c.address-from.ensures (data_is _ c.requires.0) (placing_places _ _ _ _ _ _ _ _ _ c.place.ensures ps h)
