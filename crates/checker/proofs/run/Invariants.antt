-- `checker::run` meets its contract. Assumes nothing.
use mathlib.Core.Path.{◌≡◌}
use mathlib.Core.Bool.{true}
use Prim.Native.Nat.{◌-◌, ◌≤◌}
use lib.ListN.{length, drop}
use Rattle.device.specs.State.{started}
use Rattle.states.specs.WellFormed.{well_formed}
use Rattle.text.specs.Text.{events_of}
use Rattle.marks.specs.Area.{work_bytes}
use Rattle.marks.specs.Work.{work_of}
use Rattle.judgement.specs.Judgement.{over_of}
use Rattle.checker.specs.Walk.{Ahead}
use Rattle.checker.proofs.run.Given as goal

abbrev pub invariant-loop-at : goal.invariant-loop-at
invariant-loop-at l =
    (over_of l.board (events_of (drop l.at l.job)) l.device (work_of l.board l.work) l.events ≡ over_of l.board (events_of l.job) (started l.board) (work_of l.board l.initial.work) 0)
    × (length l.work ≡ work_bytes l.board)
    × (well_formed l.board l.device ≡ true)
    × Ahead l.job l.at
    × (l.at ≤ length l.job)
    × (l.events ≤ l.at)

abbrev pub decreases-loop-at : goal.decreases-loop-at
decreases-loop-at l = length l.job - l.at
