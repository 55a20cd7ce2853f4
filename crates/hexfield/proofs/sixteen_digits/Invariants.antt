-- `hexfield::sixteen_digits` meets its contract. Assumes nothing.
use Rattle.std.proofs.Common.{◌≡◌, ◌&&◌, drop}
use Rattle.hexfield.specs.Hex.{all_digits}
use Rattle.hexfield.proofs.sixteen_digits.Given as goal

abbrev pub invariant-loop-byte : goal.invariant-loop-byte
invariant-loop-byte l = (l.all && all_digits (drop l.byte-index l.field)) ≡ all_digits l.field
