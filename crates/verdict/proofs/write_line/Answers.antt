-- `verdict::write_line` meets its contract. Assumes nothing.
use mathlib.Core.Path.{refl}
use native.Mathlib.Omega.{arith}
use Rattle.verdict.specs.Report.{in_fields}
use Rattle.verdict.proofs.Line.{word_fits, line-length, line_written}
use Rattle.verdict.proofs.write_line.Goals as goal

pub put-requires : goal.put-requires
put-requires c = word_fits c.args.verdict _ _ c.word.ensures c.requires

pub write_field-at-requires : goal.write_field-at-requires
write_field-at-requires c =
    let v = c.args.verdict in
    let e = line-length v _ (in_fields v).number c.kind.ensures refl in
    let m = c.put.auto in
    omega arith

pub write_field-requires : goal.write_field-requires
write_field-requires c =
    let e = line-length c.args.verdict _ _ c.kind.ensures c.number.ensures in
    let m = c.put.auto in
    let o = c.write_field-at.auto in
    omega arith

pub returns : goal.returns
returns c =
    let ek = c.kind.ensures in
    let en = c.number.ensures in
    let e = line-length c.args.verdict _ _ ek en in
    (line_written c.args.verdict _ _ ek en _ _ _ _ _ _ c.word.ensures c.requires c.put.ensures c.write_field-at.ensures.0 c.write_field-at.ensures.1 c.write_field.ensures.0, omega arith)
