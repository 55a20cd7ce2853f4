-- `vectors::ramp` meets its contract. Assumes nothing.
use Rattle.std.proofs.Common.{sym, refl, ◌∙◌, length-set}
use Rattle.vectors.proofs.Made.{ramp_turn}
use Rattle.vectors.proofs.ramp.Goals as goal

pub loop-i-preserved : goal.loop-i-preserved
loop-i-preserved c =
    let l = c.loop-i in
    (sym (ramp_turn _ _ _ _ _ _ _ c.loop-i-test.true refl) ∙ l.invariant.0, simp length-set l.invariant.1)
