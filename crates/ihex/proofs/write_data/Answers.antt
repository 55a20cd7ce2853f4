-- `ihex::write_data` meets its contract. Assumes nothing.
use Rattle.std.proofs.Common.{rules, ◌≡◌, ◌+◌, ◌*◌, ◌≤◌, ◌<◌, length, ap, ◌∙◌, arith}
use Rattle.buffer.specs.Least.{least_of}
use lib.Seq.{sets}
use Rattle.ihex.proofs.Writing.{left, left_start, line-room, line_turn, data_laid}
use Rattle.ihex.proofs.write_data.Goals as goal

pub loop-n-init : goal.loop-n-init
loop-n-init c = (ap (sets c.args.out.now c.args.at) (left_start c.args.image.now), ap (λ l. c.args.at + length l) (left_start c.args.image.now))

pub write-to-requires : goal.write-to-requires
write-to-requires c =
    let l = c.loop-n in
    let room : l.to + length (left c.args.image.now (l.n * 16)) ≤ length l.out = omega arith in
    let more : l.n * 16 < length c.args.image.now = omega arith in
    let ends : c.min-end.result ≡ least_of (l.n * 16 + 16) (length c.args.image.now) = search rules in
    line-room c.args.image.now l.out (l.n * 16) l.to _ more ends room

pub overflow_add-to : goal.overflow_add-to
overflow_add-to c =
    let l = c.loop-n in
    let room : l.to + length (left c.args.image.now (l.n * 16)) ≤ length l.out = omega arith in
    let more : l.n * 16 < length c.args.image.now = omega arith in
    let ends : c.min-end.result ≡ least_of (l.n * 16 + 16) (length c.args.image.now) = search rules in
    let q = line-room c.args.image.now l.out (l.n * 16) l.to _ more ends room in
    let w = c.write-to.ensures.1 in
    omega arith

pub loop-n-preserved : goal.loop-n-preserved
loop-n-preserved c =
    let l = c.loop-n in
    let room : l.to + length (left c.args.image.now (l.n * 16)) ≤ length l.out = omega arith in
    let more : l.n * 16 < length c.args.image.now = omega arith in
    let ends : c.min-end.result ≡ least_of (l.n * 16 + 16) (length c.args.image.now) = search rules in
    let next : (l.n + 1) * 16 ≡ l.n * 16 + 16 = omega arith in
    let t = line_turn c.args.image.now l.out (l.n * 16) l.to _ more ends room _ _ c.write-to.ensures.0 c.write-to.ensures.1 in
    rw next (t.0 ∙ l.invariant.0, t.1 ∙ l.invariant.1)

pub returns : goal.returns
returns c =
    let l = c.loop-n in
    let done : length c.args.image.now ≤ l.n * 16 = omega arith in
    data_laid _ _ _ _ _ _ done c.requires.1 l.invariant.0 l.invariant.1
