-- `hexfield::decode_few` meets its contract. Assumes nothing.
use Rattle.std.proofs.Common.{◌≡◌, ◌+◌, drop}
use lib.Seq.{sets}
use Rattle.hexfield.specs.Hex.{bytes_of}
use Rattle.hexfield.proofs.decode_few.Given as goal

abbrev pub invariant-loop-i : goal.invariant-loop-i
invariant-loop-i l = sets l.out (l.at + l.i) (drop l.i (bytes_of l.field)) ≡ sets l.initial.out l.at (bytes_of l.field)
