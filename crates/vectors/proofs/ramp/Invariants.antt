-- `vectors::ramp` meets its contract. Assumes nothing.
use Rattle.std.proofs.Common.{◌≡◌, ◌+◌, ◌-◌, length}
use lib.Seq.{sets}
use Rattle.vectors.specs.Vectors.{ramp_of}
use Rattle.vectors.proofs.ramp.Given as goal

abbrev pub invariant-loop-i : goal.invariant-loop-i
invariant-loop-i l = (sets l.out (l.at + l.i) (ramp_of (l.end - l.i) l.byte l.step) ≡ sets l.initial.out l.at (ramp_of l.end l.seed l.step)) × (length l.out ≡ length l.initial.out)
