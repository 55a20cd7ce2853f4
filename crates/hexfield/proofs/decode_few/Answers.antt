-- `hexfield::decode_few` meets its contract. Assumes nothing.
use Rattle.std.proofs.Common.{◌≤◌, ◌<◌, ◌+◌, ◌*◌, ◌/◌, length, sym, ap₂, ◌∙◌, arith}
use Rattle.digit.specs.Digit.{byte_of}
use Rattle.hexfield.proofs.Parts.{pair_at}
use Rattle.hexfield.proofs.Fields.{digit_at, read_turn, read_end}
use Rattle.hexfield.proofs.decode_few.Goals as goal

pub byte-requires : goal.byte-requires
byte-requires c =
    let p = pair_at c.args.field.now _ _ c.as_chunks.ensures.front c.loop-i-test.true in
    let a : c.loop-i.i * 2 < length c.args.field.now = omega arith in
    let b : c.loop-i.i * 2 + 1 < length c.args.field.now = omega arith in
    let first = digit_at c.args.field.now _ c.requires.1 a in
    let second = digit_at c.args.field.now _ c.requires.1 b in
    rw (p.0, p.1) (search (first, second))

pub loop-i-preserved : goal.loop-i-preserved
loop-i-preserved c =
    let l = c.loop-i in
    let p = pair_at c.args.field.now _ _ c.as_chunks.ensures.front c.loop-i-test.true in
    let more : l.i < length c.args.field.now / 2 = omega arith in
    sym (read_turn _ _ _ _ _ more (c.byte.ensures ∙ ap₂ byte_of p.0 p.1)) ∙ l.invariant

pub returns : goal.returns
returns c =
    let done : length c.args.field.now / 2 ≤ c.loop-i.i = omega arith in
    read_end _ _ _ _ _ done c.loop-i.invariant c.requires.0
