-- `loader::run` meets its contract. Assumes nothing.
use Rattle.loader.proofs.Requests.{run_rests, run-performs}
use Rattle.action.proofs.Bounds.{action_fits}
use native.Mathlib.Omega.{arith}
use mathlib.Core.Path.{◌∙◌, sym}
use Rattle.loader.proofs.run.Goals as goal

pub returns-then-not-waits : goal.returns-then-not-waits
returns-then-not-waits c = run_rests _ _ _ _ _ (sym c.waits.ensures ∙ c.if-not-waits.true) c.ran.ensures

pub perform-status-requires : goal.perform-status-requires
perform-status-requires c =
    let f = action_fits _ c.requires.0 c.read_protected-protected.result c.args.device c.requires.3 in
    rw c.intend-action.ensures (c.requires.0, c.requires.1, f, omega (arith, f.count))

pub returns : goal.returns
returns c =
    run-performs _ _ _ _ _ _ _ _ _ (sym c.waits.ensures ∙ c.if-not-waits.false) c.read_protected-protected.ensures c.intend-action.ensures c.perform-status.ensures c.ran-2.ensures
