-- `checker::judge` meets its contract. Assumes nothing.
use Rattle.checker.proofs.Judging.{judged_fell, judged_ended}
use Rattle.checker.proofs.judge.Goals as goal

pub returns-in-Err : goal.returns-in-Err
returns-in-Err c = judged_fell _ _ _ _ _ _ _ _ c.begin.ensures c.run.ensures _ c.in-Err.is

pub returns-in-Ok : goal.returns-in-Ok
returns-in-Ok c =
    judged_ended _ _ _ _ _ _ _ _ c.begin.ensures c.run.ensures _ _ c.in-Ok.is c.finish.ensures
