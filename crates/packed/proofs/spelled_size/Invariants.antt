-- `packed::spelled_size` meets its contract. Assumes nothing.
use Rattle.packed.specs.Ways.{capped}
use Rattle.packed.specs.Packed.{packs, unpacked}
use Rattle.text.specs.Text.{limit, text_of}
use lib.ListN.{length}
use Prim.Native.Nat.{◌+◌, ◌≤◌}
use mathlib.Core.Path.{◌≡◌}
use Rattle.packed.proofs.spelled_size.Given as goal

abbrev pub invariant-loop-rest : goal.invariant-loop-rest
invariant-loop-rest l = (packs l.rest ≡ packs l.packed) × (capped (l.size + length (text_of (unpacked l.rest))) ≡ capped (length (text_of (unpacked l.packed)))) × (l.size ≤ limit + 1)

abbrev pub decreases-loop-rest : goal.decreases-loop-rest
decreases-loop-rest l = length l.rest
