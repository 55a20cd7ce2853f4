-- `packed::spell` meets its contract. Assumes nothing.
use Rattle.packed.specs.Packed.{packs, unpacked}
use Rattle.text.specs.Text.{text_of}
use lib.Seq.{sets}
use lib.ListN.{length}
use Prim.Native.Nat.{◌+◌}
use mathlib.Core.Bool.{true}
use mathlib.Core.Path.{◌≡◌}
use Rattle.packed.proofs.spell.Given as goal

abbrev pub invariant-loop-count : goal.invariant-loop-count
invariant-loop-count l = (sets l.out l.to (text_of (unpacked l.rest)) ≡ sets l.initial.out 0 (text_of (unpacked l.packed))) × (l.to + length (text_of (unpacked l.rest)) ≡ length (text_of (unpacked l.packed))) × (packs l.rest ≡ true)

abbrev pub decreases-loop-count : goal.decreases-loop-count
decreases-loop-count l = length l.rest
