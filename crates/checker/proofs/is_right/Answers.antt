-- `checker::is_right` meets its contract. Assumes nothing.
use Rattle.checker.proofs.Right.{right_lowest}
use Rattle.marks.proofs.View.{work_sized}
use mathlib.Core.Path.{sym, ◌∙◌}
use Rattle.checker.proofs.is_right.Goals as goal
use Rattle.checker.proofs.is_right.Goals.{then-is_laid, else-is_laid}

pub returns-then-all_known : goal.returns-then-all_known
returns-then-all_known c =
    let p = c.requires in
    elim c.if-is_laid.branch [
      | then-is_laid w ↦ λ y. right_lowest _ p.0 _ _ _ _ _ (work_sized c.args.board c.args.work.now p.1) p.2 c.flash_from-flash.ensures c.flash_bytes.ensures c.pages_end-end.ensures (rw c.values.ensures.0 at (c.is_laid.ensures w.if-is_laid.true)) (sym w.all_known.ensures ∙ sym w.value-is ∙ c.if-all_known.true) (sym c.none_known.ensures ∙ y)
      | else-is_laid w ↦ cc
    ]
