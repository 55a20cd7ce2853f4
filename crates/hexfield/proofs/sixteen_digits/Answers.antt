-- `hexfield::sixteen_digits` meets its contract. Assumes nothing.
use Rattle.std.proofs.Common.{◌≤◌, ◌<◌, length, sym, ◌∙◌, arith}
use Rattle.hexfield.proofs.Looking.{gather_turn, gather_end}
use Rattle.hexfield.proofs.sixteen_digits.Goals as goal

pub loop-byte-preserved : goal.loop-byte-preserved
loop-byte-preserved c =
    let l = c.loop-byte in
    let more : l.byte-index < length c.args.field.now = omega arith in
    sym (gather_turn _ _ _ more c.is_digit-all.ensures l.all) ∙ l.invariant

pub returns : goal.returns
returns c =
    let l = c.loop-byte in
    let done : length c.args.field.now ≤ l.byte-index = omega arith in
    sym (gather_end c.args.field.now l.byte-index l.all done) ∙ l.invariant
