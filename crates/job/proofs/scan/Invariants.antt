-- `job::scan` meets its contract. Assumes nothing.
use Rattle.laws.specs.Lines.{lines_of}
use Rattle.text.specs.Text.{bad_from, first_bad, events_of}
use Rattle.packed.specs.Packed.{packed_of}
use lib.ListN.{length, drop}
use Prim.Native.Nat.{◌+◌, ◌-◌, ◌≤◌}
use mathlib.Core.Path.{◌≡◌}
use Rattle.job.proofs.scan.Given as goal

abbrev pub invariant-loop-at : goal.invariant-loop-at
invariant-loop-at l = (bad_from l.number (lines_of (drop l.at l.text)) ≡ first_bad l.text) × (l.size + length (packed_of (events_of (drop l.at l.text))) ≡ length (packed_of (events_of l.text))) × (l.at ≤ length l.text) × (l.size ≤ l.at) × (1 ≤ l.number) × (l.number ≤ l.at + 1)

abbrev pub decreases-loop-at : goal.decreases-loop-at
decreases-loop-at l = length l.text - l.at
