-- `vectors::repeat` meets its contract. Assumes nothing.
use Rattle.std.proofs.Common.{◌≡◌, ◌-◌, length}
use Rattle.vectors.specs.Vectors.{again_of}
use Rattle.vectors.proofs.repeat.Given as goal

abbrev pub invariant-loop-i : goal.invariant-loop-i
invariant-loop-i l = (again_of (l.count - l.i) l.i l.from l.period l.at l.buffer ≡ again_of l.count 0 l.from l.period l.at l.initial.buffer) × (length l.buffer ≡ length l.initial.buffer)
