-- `plan::leave` meets its contract. Assumes nothing.
use native.Mathlib.Omega.{arith}
use Rattle.plan.proofs.Lines.{line-fits, line-count}
use Rattle.plan.proofs.Parts.{leave_laid}
use Rattle.plan.proofs.leave.Goals as goal

pub write_request-requires : goal.write_request-requires
write_request-requires c = line-fits _ _ _ (omega arith) (omega arith)

pub overflow_add-left : goal.overflow_add-left
overflow_add-left c =
    let k = line-count _ _ c.write_request.ensures.1 (omega arith) in
    omega arith

pub poll-requires : goal.poll-requires
poll-requires c =
    let k = line-count _ _ c.write_request.ensures.1 (omega arith) in
    omega arith

pub returns : goal.returns
returns c =
    leave_laid _ _ _ _ _ _ _ _ _ c.flash_first.ensures (omega arith) c.requires c.command-pointed.ensures c.write_request.ensures c.poll.ensures.0
