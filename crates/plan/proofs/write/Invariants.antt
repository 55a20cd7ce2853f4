-- `plan::write` meets its contract. Assumes nothing.
use mathlib.Core.Path.{◌≡◌}
use Prim.Native.Nat.{◌+◌, ◌-◌}
use lib.ListN.{length}
use lib.Seq.{sets}
use Rattle.plan.specs.Plan.{plan_of}
use Rattle.plan.specs.Parts.{rest_text}
use Rattle.plan.proofs.write.Given as goal

abbrev pub invariant-loop-number : goal.invariant-loop-number
invariant-loop-number l = (sets l.out l.at (rest_text l.board l.image (l.count - l.number) l.number) ≡ sets l.initial.out 0 (plan_of l.board l.image)) × (l.at + length (rest_text l.board l.image (l.count - l.number) l.number) ≡ length (plan_of l.board l.image)) × (length l.out ≡ length l.initial.out)
