-- `job::scan` meets its contract. Assumes nothing.
use native.Mathlib.Omega.{arith}
use Rattle.text.proofs.Walking.{turn_bad, turn_good}
use Rattle.job.proofs.Measuring.{walk_bad, walk_end, turn_total}
use Rattle.text.specs.Text.{first_bad}
use mathlib.Core.Path.{◌≡◌, refl, sym, ◌∙◌}
use Rattle.job.proofs.scan.Goals as goal

pub loop-at-init : goal.loop-at-init
unfolding first_bad
loop-at-init c = (refl, omega arith, omega arith, omega arith, omega arith, omega arith)

pub returns-in_default : goal.returns-in_default
returns-in_default c =
    let l = c.loop-at in
    walk_bad _ _ c.requires l.invariant.4 (sym (turn_bad _ _ 0 c.loop-at-test.true c.in_default.ensures.length _ refl) ∙ l.invariant.0)

pub loop-at-preserved : goal.loop-at-preserved
loop-at-preserved c =
    let h = c.loop-at-test.true in
    let is = c.in-Some.ensures.length in
    let more = c.in-Some.ensures.some in
    let n : c.in-Some.line ≡ 0 → ⊥ = λ z. omega arith in
    let l = c.loop-at in
    (sym (turn_good _ _ _ h is n _) ∙ l.invariant.0, turn_total _ _ _ h is n _ _ _ c.packed_size-size.ensures.0 l.invariant.1, omega arith, omega arith, omega arith, omega arith)

pub returns : goal.returns
returns c =
    let l = c.loop-at in
    walk_end _ _ _ _ c.requires c.loop-at-test.false l.invariant.0 l.invariant.1
