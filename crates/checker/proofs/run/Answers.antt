-- `checker::run` meets its contract. Assumes nothing.
use native.Mathlib.Omega.{arith}
use Rattle.states.proofs.Form.{well_formed_lem}
use Rattle.states.proofs.Form.{started-form}
use Rattle.checker.proofs.Advancing.{run_on, run-over}
use Rattle.checker.proofs.run.Goals as goal

pub start-device-requires : goal.start-device-requires
start-device-requires c = tt

pub loop-at-init : goal.loop-at-init
loop-at-init c =
    let p = c.requires in
    (rw c.start-device.ensures, p.1, rw c.start-device.ensures (well_formed_lem _ _ (started-form _ p.0)), p.2, omega arith, omega arith)

pub advance-requires : goal.advance-requires
advance-requires c =
    let l = c.loop-at.invariant in
    (c.requires.0, l.1, l.2, l.3, c.loop-at-test.true)

pub overflow_add-events : goal.overflow_add-events
overflow_add-events c = omega (arith, c.loop-at-test.true, c.loop-at.invariant.5, c.loop-at.invariant.4)

pub loop-at-smaller : goal.loop-at-smaller
loop-at-smaller c =
    let f = c.advance.ensures.further _ (rw c.in_ok-onward.was at c.ok_or.ensures.ok_part) in
    omega (arith, f.more, f.within)

pub loop-at-preserved : goal.loop-at-preserved
loop-at-preserved c =
    let l = c.loop-at in
    let way = rw c.in_ok-onward.was at c.ok_or.ensures.ok_part in
    let f = c.advance.ensures.further _ way in (
      run_on _ _ _ _ _ _ _ _ _ c.advance.ensures l.invariant.0 _ way,
      omega (arith, c.advance.auto, l.invariant.1),
      f.form,
      f.ahead,
      f.within,
      omega (arith, f.more, l.invariant.5),
    )

pub returns : goal.returns
returns c = run-over _ _ _ _ _ _ _ c.loop-at-test.false c.loop-at.invariant.0
