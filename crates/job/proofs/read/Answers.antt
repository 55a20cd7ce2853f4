-- `job::read` meets its contract. Assumes nothing.
use Rattle.std.proofs.lemmas.Result.{err_from_is_err_and}
use Rattle.job.proofs.Answers.{read_refused, measured_good, measured_room, read_short, read_done}
use Rattle.job.proofs.read.Goals as goal

pub returns-then-out-size : goal.returns-then-out-size
returns-then-out-size c = read_short _ _ c.measure.ensures _ _ c.in_ok-size.was c.if-out-size.true

pub pack-requires : goal.pack-requires
pack-requires c =
    let is = c.measure.ensures in
    let e = c.in_ok-size.was in
    let out = c.args.out.now in
    (measured_good _ _ is out _ e, measured_room _ _ is out _ e c.if-out-size.false)

pub returns-in_err-size : goal.returns-in_err-size
returns-in_err-size c =
    let p = err_from_is_err_and c.from_residual.result c.from_residual.ensures.1 in
    rw (p.1, p.2) (read_refused _ _ c.measure.ensures _ _ c.in_err-size.was)

pub returns : goal.returns
returns c = read_done _ _ c.measure.ensures _ _ c.in_ok-size.was _ c.if-out-size.false c.pack.ensures
