-- `verdict::report` meets its contract. Assumes nothing.
use native.Mathlib.Omega.{arith}
use Rattle.verdict.proofs.Line.{line-length, report_short, report-done}
use Rattle.verdict.proofs.report.Goals as goal

pub returns-then-out-digits : goal.returns-then-out-digits
returns-then-out-digits c =
    let k = c.digits.ensures.0 in
    let n = c.digits-2.ensures.0 in
    report_short c.args.verdict _ _ c.kind.ensures c.number.ensures _ (omega arith)

pub write_line-requires : goal.write_line-requires
write_line-requires c =
    let e = line-length c.args.verdict _ _ c.kind.ensures c.number.ensures in
    omega arith

pub returns : goal.returns
returns c =
    let e = line-length c.args.verdict _ _ c.kind.ensures c.number.ensures in
    let a = c.digits.ensures.0 in
    let b = c.digits-2.ensures.0 in
    report-done _ _ _ _ (omega arith) c.write_line.ensures.0 c.write_line.ensures.1
