-- `acts::erase_pages` meets its contract. Assumes nothing.
use Rattle.cells.specs.Cells.{pages_erased}
use Rattle.marks.specs.Work.{work_of}
use Prim.Native.Nat.{◌-◌}
use mathlib.Core.Path.{◌≡◌}
use Rattle.acts.proofs.erase_pages.Given as goal

abbrev pub invariant-loop-page : goal.invariant-loop-page
invariant-loop-page l = pages_erased l.board l.word (l.page-end - l.page) l.page (work_of l.board l.work) ≡ pages_erased l.board l.word l.page-end 0 (work_of l.board l.initial.work)
