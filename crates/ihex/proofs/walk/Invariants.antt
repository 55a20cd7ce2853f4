-- `ihex::walk` meets its contract. Assumes nothing.
use Rattle.pieces.specs.Image.{Piece}
use Rattle.ihex.proofs.Walking.{Sofar}
use lib.ListN.{length}
use Prim.Native.Nat.{◌-◌}
use mathlib.Core.List.{List}
use mathlib.Core.Path.{◌≡◌}
use Rattle.ihex.proofs.walk.Given as goal

abbrev pub invariant-loop-at : goal.invariant-loop-at
invariant-loop-at l = ((ps : List Piece) × Sofar l.board l.text l.at l.number l.upper l.end l.given l.image ps) × (length l.record ≡ length l.initial.record) × (length l.given ≡ length l.initial.given) × (length l.image ≡ length l.initial.image)

abbrev pub decreases-loop-at : goal.decreases-loop-at
decreases-loop-at l = length l.text - l.at
