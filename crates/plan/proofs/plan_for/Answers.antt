-- `plan::plan_for` meets its contract. Assumes nothing.
use native.Mathlib.Omega.{arith}
use mathlib.Core.Path.{◌∙◌, sym}
use Rattle.std.proofs.lemmas.Result.{err_from_is_err_and}
use Rattle.plan.proofs.Answers.{plan_refused, image_fits, plan_barred, plan_short, plan_done}
use Rattle.plan.proofs.plan_for.Goals as goal

pub size-bytes-requires : goal.size-bytes-requires
size-bytes-requires c = (c.requires, image_fits _ _ _ _ c.supplied.ensures c.in_ok-supplied.was)

pub returns-then-barred : goal.returns-then-barred
returns-then-barred c =
    plan_barred _ _ _ _ _ c.supplied.ensures c.in_ok-supplied.was (sym c.barred.ensures ∙ c.if-barred.true)

pub returns-then-out-bytes : goal.returns-then-out-bytes
returns-then-out-bytes c =
    plan_short _ _ _ _ _ c.supplied.ensures c.in_ok-supplied.was (sym c.barred.ensures ∙ c.if-barred.false) _ c.size-bytes.ensures c.if-out-bytes.true

pub write-requires : goal.write-requires
write-requires c = (c.requires, image_fits _ _ _ _ c.supplied.ensures c.in_ok-supplied.was, omega arith)

pub returns-in_err-supplied : goal.returns-in_err-supplied
returns-in_err-supplied c =
    let p = err_from_is_err_and c.from_residual.result c.from_residual.ensures.1 in
    rw (p.1, p.2) (plan_refused _ _ _ _ _ c.supplied.ensures _ c.in_err-supplied.was)

pub returns : goal.returns
returns c =
    plan_done _ _ _ _ _ c.supplied.ensures c.in_ok-supplied.was (sym c.barred.ensures ∙ c.if-barred.false) _ c.size-bytes.ensures _ c.if-out-bytes.false c.write.ensures
