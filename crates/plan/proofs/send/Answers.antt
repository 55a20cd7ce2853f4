-- `plan::send` meets its contract. Assumes nothing.
use native.Mathlib.Omega.{arith}
use Rattle.plan.proofs.Lines.{line-fits, line-count}
use Rattle.plan.proofs.Parts.{send_laid}
use Rattle.plan.proofs.send.Goals as goal

pub write_request-requires : goal.write_request-requires
write_request-requires c = line-fits _ _ _ c.requires.0 (omega arith)

pub overflow_add-first : goal.overflow_add-first
overflow_add-first c =
    let k = line-count _ _ c.write_request.ensures.1 (omega arith) in
    omega arith

pub poll-second-requires : goal.poll-second-requires
poll-second-requires c =
    let k = line-count _ _ c.write_request.ensures.1 (omega arith) in
    omega arith

pub poll-requires : goal.poll-requires
poll-requires c =
    let k = line-count _ _ c.write_request.ensures.1 (omega arith) in
    omega arith

pub returns : goal.returns
returns c =
    send_laid _ _ _ _ _ _ _ _ _ c.requires.0 c.requires.1 c.write_request.ensures c.poll-second.ensures c.poll.ensures
