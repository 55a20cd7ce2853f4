-- `bits::mark_bytes` meets its contract. Assumes nothing.
use mathlib.Core.Path.{refl}
use Prim.Native.Nat.{◌<◌}
use native.Mathlib.Omega.{arith}
use lib.ListN.{length-set, get_or}
use Rattle.bits.proofs.Ways.{takes_none, bytes_turn}
use Rattle.bits.proofs.mark_bytes.Goals as goal

pub loop-i-init : goal.loop-i-init
loop-i-init c = (takes_none _ _ _ (omega arith), refl, omega arith, omega arith)

pub loop-i-preserved : goal.loop-i-preserved
loop-i-preserved c =
    let l = c.loop-i in
    let small : get_or l.bits l.i 0 < 256 = omega arith in
    (bytes_turn _ _ _ _ _ _ _ l.invariant.2 c.loop-i-test.true l.invariant.1 c.requires.1 refl small l.invariant.0, simp length-set l.invariant.1, omega arith, omega arith)
