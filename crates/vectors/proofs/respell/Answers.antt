-- `vectors::respell` meets its contract. Assumes nothing.
use Rattle.std.proofs.Common.{◌∙◌, arith, length-set}
use Rattle.vectors.proofs.Letters.{respelled_turn}
use Rattle.vectors.proofs.respell.Goals as goal

pub loop-i-preserved : goal.loop-i-preserved
loop-i-preserved c =
    let l = c.loop-i in
    (respelled_turn _ _ _ _ _ _ (omega arith) c.small_at.ensures c.letter.ensures ∙ l.invariant.0, simp length-set l.invariant.1)
