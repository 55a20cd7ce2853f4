-- `sentence::decimal` meets its contract. Assumes nothing.
use native.Mathlib.Omega.{arith}
use Prim.Native.Nat.{◌^◌, ◌<◌}
use lib.ListN.{length-take}
use Rattle.decimal.proofs.Decimal.{digits_at_most}
use Rattle.sentence.proofs.Numbers.{decimal_said}
use Rattle.sentence.proofs.decimal.Goals as goal

pub write_field-end-requires : goal.write_field-end-requires
write_field-end-requires c =
    let h : c.args.number < 10 ^ 20 = omega arith in
    let k = digits_at_most 19 c.args.number h in
    omega arith

pub slice_bounds-digits-end : goal.slice_bounds-digits-end
slice_bounds-digits-end c =
    let h : c.args.number < 10 ^ 20 = omega arith in
    let k = digits_at_most 19 c.args.number h in
    omega arith

pub slice_bounds-say-length : goal.slice_bounds-say-length
slice_bounds-say-length c =
    let h : c.args.number < 10 ^ 20 = omega arith in
    let k = digits_at_most 19 c.args.number h in
    simp length-take (omega arith)

pub returns : goal.returns
returns c =
    let w = c.write_field-end in
    decimal_said _ _ _ _ _ _ _ _ w.ensures.1 w.ensures.0 c.say.ensures
