-- `acts::clear_ram` meets its contract. Assumes nothing.
use Rattle.cells.specs.Cells.{parts_learnt}
use Rattle.marks.specs.Work.{work_of}
use Prim.Native.Nat.{◌-◌}
use mathlib.Core.Path.{◌≡◌}
use Rattle.acts.proofs.clear_ram.Given as goal

abbrev pub invariant-loop-part : goal.invariant-loop-part
invariant-loop-part l = parts_learnt l.board (l.part-end - l.part) l.part (work_of l.board l.work) ≡ parts_learnt l.board l.part-end 0 (work_of l.board l.initial.work)
