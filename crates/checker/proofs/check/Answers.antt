-- `checker::check` meets its contract. Assumes nothing.
use Rattle.board.proofs.Logger.{logger-sound}
use mathlib.Core.Path.{refl}
use native.Mathlib.Omega.{arith}
use Rattle.std.proofs.lemmas.Grind.{common_steps}
use Rattle.laws.proofs.Lists.{bytes_all}
use Rattle.checker.proofs.Judging.{checked_refused, checked_parts, checked_judged}
use Rattle.checker.proofs.check.Goals as goal

pub judge-requires : goal.judge-requires
judge-requires c =
    let x = c.args in
    let p = checked_parts _ _ x.image.now x.card.now x.work.now _ c.admit.ensures c.in-Ok.is in
    (logger-sound, p.area, p.clean, p.supply.most, p.supply.options)

pub returns-in-Err : goal.returns-in-Err
returns-in-Err c =
    let x = c.args in
    checked_refused _ _ x.image.now x.card.now x.work.now _ c.admit.ensures _ _ c.in-Err.is refl

pub returns-in-Ok : goal.returns-in-Ok
returns-in-Ok c =
    let x = c.args in
    let bytes = bytes_all x.card.now (λ i. grind (arith, common_steps)) in
    checked_judged _ _ x.image.now x.card.now x.work.now _ c.admit.ensures _ _ c.in-Ok.is logger-sound bytes c.judge.ensures
