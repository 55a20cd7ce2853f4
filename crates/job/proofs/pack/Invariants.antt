-- `job::pack` meets its contract. Assumes nothing.
use Rattle.text.specs.Text.{first_bad, events_of}
use Rattle.packed.specs.Packed.{packed_of}
use lib.Seq.{sets}
use lib.ListN.{length, drop}
use Prim.Native.Nat.{◌+◌, ◌-◌, ◌≤◌}
use mathlib.Core.Path.{◌≡◌}
use Rattle.job.proofs.pack.Given as goal

abbrev pub invariant-loop-from : goal.invariant-loop-from
invariant-loop-from l = (sets l.out l.to (packed_of (events_of (drop l.from l.text))) ≡ sets l.initial.out 0 (packed_of (events_of l.text))) × (l.to + length (packed_of (events_of (drop l.from l.text))) ≡ length (packed_of (events_of l.text))) × (first_bad (drop l.from l.text) ≡ 0) × (l.from ≤ length l.text) × (length l.out ≡ length l.initial.out)

abbrev pub decreases-loop-from : goal.decreases-loop-from
decreases-loop-from l = length l.text - l.from
