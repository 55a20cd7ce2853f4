-- `vectors::repeat` meets its contract. Assumes nothing.
use Rattle.std.proofs.Common.{sym, ◌∙◌, length-set}
use Rattle.vectors.proofs.Made.{again_turn}
use Rattle.vectors.proofs.repeat.Goals as goal

pub loop-i-preserved : goal.loop-i-preserved
loop-i-preserved c =
    let l = c.loop-i in
    (sym (again_turn _ _ _ _ _ _ c.loop-i-test.true) ∙ l.invariant.0, simp length-set l.invariant.1)
