-- `compare::passed` meets its contract. Assumes nothing.
use Rattle.std.proofs.Common.{◌≡◌, ◌-◌, ◌≤◌}
use Rattle.compare.specs.Change.{first_change}
use Rattle.compare.proofs.passed.Given as goal

abbrev pub invariant-loop-at : goal.invariant-loop-at
invariant-loop-at l = (first_change l.old l.new (l.to - l.at) l.at ≡ first_change l.old l.new (l.to - l.from) l.from) × (l.from ≤ l.at)

abbrev pub decreases-loop-at : goal.decreases-loop-at
decreases-loop-at l = l.to - l.at
