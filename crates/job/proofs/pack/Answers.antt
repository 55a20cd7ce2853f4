-- `job::pack` meets its contract. Assumes nothing.
use native.Mathlib.Omega.{arith}
use Rattle.job.proofs.PackLoop.{next_formed, next_beyond, next_total, next_laid, next_room, pack_end}
use Rattle.text.specs.Text.{events_of}
use Rattle.packed.specs.Packed.{packed_of}
use lib.ListN.{length}
use Prim.Native.Nat.{◌≤◌}
use mathlib.Core.Path.{refl, ◌∙◌}
use Rattle.job.proofs.pack.Goals as goal

pub loop-from-init : goal.loop-from-init
loop-from-init c = (refl, omega arith, c.requires.0, omega arith, refl)

pub pack_line-line-requires : goal.pack_line-line-requires
pack_line-line-requires c =
    let l = c.loop-from in
    let h : length (packed_of (events_of c.args.text.now)) ≤ length l.out = let k = c.requires.1 in omega arith in
    (next_formed _ _ c.loop-from-test.true l.invariant.2, next_room _ _ c.loop-from-test.true l.invariant.2 _ _ _ l.invariant.1 h)

pub packed_size-to-requires : goal.packed_size-to-requires
packed_size-to-requires c = let b = next_beyond _ _ c.loop-from-test.true c.loop-from.invariant.2 _ c.pack_line-line.ensures.1 in omega (arith, b.more)

pub overflow_add-to : goal.overflow_add-to
overflow_add-to c =
    let l = c.loop-from in
    let t = next_total _ _ c.loop-from-test.true l.invariant.2 _ c.pack_line-line.ensures.1 _ _ _ c.packed_size-to.ensures.0 l.invariant.1 in
    let k = c.requires.1 in
    omega arith

pub overflow_add-from : goal.overflow_add-from
overflow_add-from c = let b = next_beyond _ _ c.loop-from-test.true c.loop-from.invariant.2 _ c.pack_line-line.ensures.1 in omega (arith, b.within)

pub loop-from-smaller : goal.loop-from-smaller
loop-from-smaller c =
    let b = next_beyond _ _ c.loop-from-test.true c.loop-from.invariant.2 _ c.pack_line-line.ensures.1 in
    omega (arith, b.more, b.within)

pub loop-from-preserved : goal.loop-from-preserved
loop-from-preserved c =
    let l = c.loop-from in
    let m = c.loop-from-test.true in
    let is = c.pack_line-line.ensures.1 in
    let n = c.packed_size-to.ensures.0 in
    let h : length (packed_of (events_of c.args.text.now)) ≤ length l.out = let k = c.requires.1 in omega arith in
    let b = next_beyond _ _ m l.invariant.2 _ is in
    let w = b.within in
    (next_laid _ _ m l.invariant.2 _ is _ _ _ _ (next_room _ _ m l.invariant.2 _ _ _ l.invariant.1 h) n c.pack_line-line.ensures.0 ∙ l.invariant.0, next_total _ _ m l.invariant.2 _ is _ _ _ n l.invariant.1, b.clean, omega arith, omega arith)

pub shape_of-out : goal.shape_of-out
shape_of-out c = c.loop-from.invariant.4

pub returns : goal.returns
returns c = pack_end _ _ _ _ _ c.loop-from-test.false c.requires.1 c.loop-from.invariant.0
