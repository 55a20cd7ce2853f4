-- `acts::store` meets its contract. Assumes nothing.
use Rattle.acts.proofs.Copying.{storing}
use Rattle.marks.specs.Work.{work_of}
use lib.ListN.{length, take}
use mathlib.Core.Path.{◌≡◌}
use Rattle.acts.proofs.store.Given as goal

abbrev pub invariant-loop-i : goal.invariant-loop-i
invariant-loop-i l = (storing l.board l.word l.at l.i (take l.count (work_of l.board l.initial.work).block) (work_of l.board l.work) ≡ storing l.board l.word l.at 0 (take l.count (work_of l.board l.initial.work).block) (work_of l.board l.initial.work)) × (length l.work ≡ length l.initial.work)
