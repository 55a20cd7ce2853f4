-- `ihex::write_data` meets its contract. Assumes nothing.
use Rattle.ihex.specs.Ways.{data_text}
use Rattle.ihex.proofs.Writing.{left}
use lib.Seq.{sets}
use lib.ListN.{length}
use Prim.Native.Nat.{◌+◌, ◌*◌}
use mathlib.Core.Path.{◌≡◌}
use Rattle.ihex.proofs.write_data.Given as goal

abbrev pub invariant-loop-n : goal.invariant-loop-n
invariant-loop-n l = (sets l.out l.to (left l.image (l.n * 16)) ≡ sets l.initial.out l.at (data_text l.image)) × (l.to + length (left l.image (l.n * 16)) ≡ l.at + length (data_text l.image))
