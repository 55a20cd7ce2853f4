-- `vectors::respell` meets its contract. Assumes nothing.
use Rattle.std.proofs.Common.{◌≡◌, true, ◌++◌, length, take, drop}
use Rattle.vectors.specs.Vectors.{respelled_of}
use Rattle.vectors.proofs.respell.Given as goal

abbrev pub invariant-loop-i : goal.invariant-loop-i
invariant-loop-i l = (take l.i l.text ++ respelled_of l.mixed l.i l.first (drop l.i l.text) ≡ respelled_of l.mixed 0 true l.initial.text) × (length l.text ≡ length l.initial.text)
