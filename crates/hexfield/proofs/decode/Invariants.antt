-- `hexfield::decode` meets its contract. Assumes nothing.
use Rattle.std.proofs.Common.{◌≡◌, ◌*◌, take}
use Rattle.laws.specs.Bytes.{put}
use Rattle.hexfield.specs.Hex.{bytes_of}
use Rattle.hexfield.proofs.decode.Given as goal

abbrev pub invariant-loop-i : goal.invariant-loop-i
invariant-loop-i l = l.out ≡ put l.at (take (l.i * 8) (bytes_of l.field)) l.initial.out
