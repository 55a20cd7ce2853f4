-- `checker::admit` meets its contract. Assumes nothing.
use mathlib.Core.Path.{◌∙◌, sym}
use Rattle.std.specs.Prelude.{Ok}
use Rattle.std.proofs.lemmas.Result.{err_from_is_err_and}
use Rattle.job.proofs.Answers.{measured_refused, measured_bytes}
use Rattle.demand.proofs.Supply.{checkable-work, checkable_then}
use Rattle.checker.proofs.admit.Goals as goal

pub returns-then-work-work_bytes : goal.returns-then-work-work_bytes
returns-then-work-work_bytes c = sym (checkable-work _ _ _ _ _ (λ e. c.if-work-work_bytes.true (e ∙ sym c.work_bytes.ensures)))

pub returns-in_err-supplied : goal.returns-in_err-supplied
returns-in_err-supplied c =
    let p = err_from_is_err_and c.from_residual.result c.from_residual.ensures.1 in
    rw (p.1, p.2) (sym (checkable_then _ _ _ _ _ (c.if-work-work_bytes.false ∙ c.work_bytes.ensures) _ (sym c.supplied.ensures ∙ c.in_err-supplied.was)))

pub returns-in_err-measure : goal.returns-in_err-measure
returns-in_err-measure c =
    let p = err_from_is_err_and c.from_residual-in_err-measure.result c.from_residual-in_err-measure.ensures.1 in
    let s = checkable_then _ _ _ _ _ (c.if-work-work_bytes.false ∙ c.work_bytes.ensures) (Ok tt) (sym c.supplied.ensures ∙ c.in_ok-supplied.was) in
    rw (p.1, p.2) (sym (s ∙ measured_refused _ _ c.measure.ensures _ c.in_err-measure.was))

pub returns : goal.returns
returns c =
    let s = checkable_then _ _ _ _ _ (c.if-work-work_bytes.false ∙ c.work_bytes.ensures) (Ok tt) (sym c.supplied.ensures ∙ c.in_ok-supplied.was) in
    sym (s ∙ (measured_bytes _ _ c.measure.ensures _ c.in_ok-measure.was).0)
