-- `plan::poll` meets its contract. Assumes nothing.
use native.Mathlib.Omega.{arith}
use Rattle.plan.proofs.Lines.{line-fits, line-count}
use Rattle.plan.proofs.Parts.{line-laid}
use Rattle.plan.proofs.poll.Goals as goal

pub write_request-requires : goal.write_request-requires
write_request-requires c = line-fits _ _ _ (omega arith) (omega arith)

pub overflow_add-result : goal.overflow_add-result
overflow_add-result c =
    let k = line-count _ _ c.write_request.ensures.1 (omega arith) in
    omega arith

pub returns : goal.returns
returns c =
    let k = line-count _ _ c.write_request.ensures.1 (omega arith) in
    (line-laid _ _ _ _ (omega arith) (omega arith) c.write_request.ensures.0, omega arith)
