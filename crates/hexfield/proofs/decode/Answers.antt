-- `hexfield::decode` meets its contract. Assumes nothing.
use Rattle.std.proofs.Common.{◌≡◌, ◌+◌, ◌-◌, ◌*◌, ◌/◌, length, take, ◌∙◌, arith}
use lib.Seq.{length-take-le}
use Rattle.hexfield.specs.Hex.{bytes_of}
use Rattle.hexfield.proofs.Fields.{bytes-length}
use Rattle.hexfield.proofs.Eights.{put-none, put_next, put_over_part, sixteen_digits, sixteen_bytes, last_digits, last_bytes}
use Rattle.hexfield.proofs.decode.Goals as goal

pub loop-i-init : goal.loop-i-init
loop-i-init c = put-none _ _ (omega arith)

pub eight-requires : goal.eight-requires
eight-requires c = sixteen_digits c.args.field.now _ _ _ c.as_chunks.ensures.front (omega arith) c.loop-i-test.true c.requires.1

pub loop-i-preserved : goal.loop-i-preserved
loop-i-preserved c =
    let l = c.loop-i in
    let xs = bytes_of c.args.field.now in
    let n : length xs ≡ length c.args.field.now / 2 = bytes-length c.args.field.now in
    let p = sixteen_bytes c.args.field.now _ _ _ c.as_chunks.ensures.front (omega arith) c.loop-i-test.true in
    c.lay.ensures ∙ put_next _ (l.i * 8) 8 _ xs _ _ _ (omega arith) (omega (arith, p.0)) (omega arith) (c.eight.ensures ∙ p.1) l.invariant

pub eight-requires-2 : goal.eight-requires-2
eight-requires-2 c = last_digits c.args.field.now _ c.in-Some.ensures.cases.1.same c.requires.1

pub returns : goal.returns
returns c =
    let l = c.loop-i in
    let xs = bytes_of c.args.field.now in
    let k = length c.args.field.now / 2 in
    let n : length xs ≡ k = bytes-length c.args.field.now in
    let p : length (take (k * 2 - 2) c.args.field.now) ≡ k * 2 - 2 = length-take-le _ c.args.field.now (omega arith) in
    let q : length (take (k * 2) c.args.field.now) ≡ k * 2 = length-take-le _ c.args.field.now (omega arith) in
    let long = c.in-Some.ensures.cases.0 in
    let here : c.args.at + k - 8 ≡ c.args.at + (k - 8) = omega arith in
    c.lay-2.ensures
    ∙ rw (here, c.eight-2.ensures, last_bytes c.args.field.now _ c.in-Some.ensures.cases.1.same, l.invariant) (put_over_part c.args.at (k - 8) (l.i * 8) xs c.args.out.now (omega arith) (omega arith) (omega arith))
