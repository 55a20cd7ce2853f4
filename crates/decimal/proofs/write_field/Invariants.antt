-- `decimal::write_field` meets its contract. Assumes nothing.
use mathlib.Core.Path.{◌≡◌}
use Prim.Native.Nat.{◌+◌}
use lib.ListN.{length}
use Rattle.laws.specs.Bytes.{put}
use Rattle.decimal.specs.Decimal.{decimal_of}
use Rattle.decimal.proofs.write_field.Given as goal

abbrev pub invariant-loop-i : goal.invariant-loop-i
invariant-loop-i l = (put l.at (decimal_of l.rest) l.out ≡ put l.at (decimal_of l.number) l.initial.out) × (l.i ≡ l.at + length (decimal_of l.rest)) × (length l.out ≡ length l.initial.out)
