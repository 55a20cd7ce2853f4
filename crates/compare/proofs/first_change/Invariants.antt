-- `compare::first_change` meets its contract. Assumes nothing.
use Rattle.std.proofs.Common.{◌≡◌, ◌-◌, ◌≤◌, max}
use Rattle.compare.specs.Change.{first_change}
use Rattle.compare.proofs.first_change.Given as goal

abbrev pub invariant-loop-i : goal.invariant-loop-i
invariant-loop-i l = (first_change l.old l.new (l.to - l.i) l.i ≡ first_change l.old l.new (l.to - l.from) l.from) × (l.from ≤ l.i) × (l.i ≤ max l.near l.to)
