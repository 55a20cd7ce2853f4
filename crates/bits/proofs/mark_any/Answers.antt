-- `bits::mark_any` meets its contract. Assumes nothing.
use mathlib.Core.Path.{refl}
use Prim.Native.Nat.{◌/◌, ◌<◌}
use native.Mathlib.Omega.{arith}
use lib.ListN.{get_or}
use Rattle.bits.proofs.Ways.{takes_none, clear_turn, mark_turn}
use Rattle.bits.proofs.mark_any.Goals as goal

pub loop-i-init : goal.loop-i-init
loop-i-init c = (takes_none _ _ _ (omega arith), omega arith, omega arith)

pub loop-i-preserved : goal.loop-i-preserved
loop-i-preserved c =
    let l = c.loop-i in
    let done = l.invariant.0 in
    let room = c.requires.1 in
    let small : get_or l.bits (l.i / 8) 0 < 256 = omega arith in (
      (
        clear_turn _ _ _ _ _ _ _ _ _ l.invariant.1 c.stride-count.ensures.0 refl small c.hit.ensures done.1 done.0,
        mark_turn _ _ _ _ _ _ _ l.invariant.1 c.loop-i-test.true done.1.kept room c.stride-count.ensures.0 c.marked.ensures done.1,
      ),
      omega arith,
      omega arith,
    )
