-- `ihex::read` meets its contract. Assumes nothing.
use native.Mathlib.Omega.{arith}
use Rattle.std.proofs.lemmas.Result.{err_from_is_err_and}
use Rattle.board.proofs.Logger.{logger_flash}
use Rattle.ihex.proofs.Logger.{logger_holds}
use Rattle.ihex.proofs.Answers.{walked_refused, walked_within, walked_short, walked_read}
use Rattle.ihex.proofs.read.Goals as goal

pub walk-requires : goal.walk-requires
walk-requires c = (omega arith, rw logger_flash at logger_holds)

pub returns-then-out-count : goal.returns-then-out-count
returns-then-out-count c = walked_short c.walk.ensures _ c.in_ok-count.was _ c.if-out-count.true

pub slice_bounds-put-end : goal.slice_bounds-put-end
slice_bounds-put-end c = walked_within c.walk.ensures _ c.in_ok-count.was

pub returns-in_err-count : goal.returns-in_err-count
returns-in_err-count c =
    let p = err_from_is_err_and c.from_residual.result c.from_residual.ensures.1 in
    rw (p.1, p.2) (walked_refused c.walk.ensures _ _ c.in_err-count.was)

pub returns : goal.returns
returns c = walked_read c.walk.ensures _ c.in_ok-count.was _ _ c.if-out-count.false c.put.ensures
