-- `plan::write` meets its contract. Assumes nothing.
use native.Mathlib.Omega.{arith}
use mathlib.Core.Path.{refl, ◌∙◌}
use Rattle.plan.proofs.Loop.{plan_start, plan_total, next_room, next_total, next_laid, last-room, write_end}
use Rattle.plan.proofs.write.Goals as goal

pub pages_of-count-requires : goal.pages_of-count-requires
pages_of-count-requires c = tt

pub loop-number-init : goal.loop-number-init
loop-number-init c = (plan_start _ _ _ _ c.pages_of-count.ensures, plan_total _ _ _ c.pages_of-count.ensures, refl)

pub page-at-requires : goal.page-at-requires
page-at-requires c =
    let l = c.loop-number in
    (c.requires.0, c.requires.1, omega arith, next_room _ _ _ _ c.loop-number-test.true _ _ _ l.invariant.1 (omega arith))

pub loop-number-preserved : goal.loop-number-preserved
loop-number-preserved c =
    let l = c.loop-number in
    let m = c.loop-number-test.true in
    (next_laid _ _ _ _ m _ _ _ _ c.page-at.ensures ∙ l.invariant.0, next_total _ _ _ _ m _ _ _ _ c.page-at.ensures _ l.invariant.1, omega arith)

pub leave-requires : goal.leave-requires
leave-requires c =
    let l = c.loop-number in
    last-room _ _ _ _ c.loop-number-test.false _ _ _ l.invariant.1 (omega arith)

pub returns : goal.returns
returns c = write_end _ _ _ _ c.loop-number-test.false _ _ _ _ c.requires.2 c.loop-number.invariant.0 c.leave.ensures
