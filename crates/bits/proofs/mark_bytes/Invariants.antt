-- `bits::mark_bytes` meets its contract. Assumes nothing.
use mathlib.Core.Path.{◌≡◌}
use Prim.Native.Nat.{◌-◌, ◌*◌, ◌≤◌}
use lib.ListN.{length}
use Rattle.bits.specs.Bits.{Takes}
use Rattle.bits.proofs.mark_bytes.Given as goal

abbrev pub invariant-loop-i : goal.invariant-loop-i
invariant-loop-i l = Takes (l.from * 8) (l.i * 8 - l.from * 8) l.initial.bits l.bits l.clear × (length l.bits ≡ length l.initial.bits) × (l.from ≤ l.i) × (l.i ≤ l.to)
