-- `decimal::write_field` meets its contract. Assumes nothing.
use mathlib.Core.Path.{◌≡◌, ◌∙◌}
use Prim.Native.Nat.{◌+◌, ◌<◌}
use native.Mathlib.Omega.{arith}
use lib.ListN.{length, length-set}
use Rattle.decimal.specs.Decimal.{decimal_of}
use Rattle.decimal.proofs.Decimal.{digits_one, digits_more, more_by_digits, few_by_digits}
use Rattle.decimal.proofs.Field.{store_behind, field_turn, field_end}
use Rattle.decimal.proofs.write_field.Goals as goal

pub loop-i-preserved : goal.loop-i-preserved
loop-i-preserved c =
    let l = c.loop-i in
    let more = more_by_digits l.rest (omega arith) in
    let d = digits_more l.rest more in
    let room : length l.out ≡ length c.args.out.now = simp length-set at l.invariant.2 in
    (field_turn _ _ _ _ _ more l.invariant.1 (omega arith) c.digit.ensures ∙ l.invariant.0, omega arith, simp length-set (simp length-set at l.invariant.2))

pub returns : goal.returns
returns c =
    let l = c.loop-i in
    let n = c.digits in
    let few = few_by_digits l.rest (omega arith) in
    let d = digits_one l.rest few in
    let e = n.ensures.0 in
    let room : length l.out ≡ length c.args.out.now = simp length-set at l.invariant.2 in
    let a : c.args.at < length l.out = omega arith in
    let p : c.args.at + n.result ≡ c.args.at + length (decimal_of c.args.number) = omega arith in
    let q : c.args.at + n.result < length c.args.out.now = omega arith in
    (field_end _ _ _ _ few a c.digit-2.ensures ∙ l.invariant.0 ∙ store_behind _ _ _ _ _ p q, omega arith)
