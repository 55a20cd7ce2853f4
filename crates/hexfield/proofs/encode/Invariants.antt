-- `hexfield::encode` meets its contract. Assumes nothing.
use Rattle.std.proofs.Common.{◌≡◌, ◌+◌, ◌*◌, drop}
use lib.Seq.{sets}
use Rattle.hexfield.specs.Hex.{hex_of}
use Rattle.hexfield.proofs.encode.Given as goal

abbrev pub invariant-loop-i : goal.invariant-loop-i
invariant-loop-i l = sets l.out (l.at + l.i * 2) (hex_of (drop l.i l.bytes)) ≡ sets l.initial.out l.at (hex_of l.bytes)
