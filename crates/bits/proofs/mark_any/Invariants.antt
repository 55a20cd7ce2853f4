-- `bits::mark_any` meets its contract. Assumes nothing.
use Prim.Native.Nat.{◌-◌, ◌≤◌}
use Rattle.bits.specs.Bits.{Takes}
use Rattle.bits.proofs.mark_any.Given as goal

abbrev pub invariant-loop-i : goal.invariant-loop-i
invariant-loop-i l = Takes l.from (l.i - l.from) l.initial.bits l.bits l.clear × (l.from ≤ l.i) × (l.i ≤ l.to)

abbrev pub decreases-loop-i : goal.decreases-loop-i
decreases-loop-i l = l.to - l.i
