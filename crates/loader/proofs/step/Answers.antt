-- `loader::step` meets its contract. Assumes nothing.
use Rattle.loader.proofs.Admitted.{step_is, step_attaches, step_serves, admitted_in_order}
use Rattle.board.proofs.Logger.{logger-sound}
use mathlib.Core.Path.{◌∙◌, sym}
use Rattle.loader.proofs.step.Goals as goal

pub serve-requires : goal.serve-requires
serve-requires c =
    admitted_in_order _ logger-sound c.args.device c.args.request.now c.args.memory.now c.args.block.now c.args.reply.now (rw c.in-Request.is at (sym c.admit.ensures ∙ c.in-Ok.is))

pub returns-in-Err : goal.returns-in-Err
returns-in-Err c = rw c.answered.ensures (step_is _ _ _ _ _ _ _ _ c.admit.ensures _ c.in-Err.is)

pub returns-in-Attach : goal.returns-in-Attach
returns-in-Attach c =
    rw (c.answered-in-Attach.ensures, c.attach.ensures) (step_attaches _ _ _ _ _ _ _ _ c.admit.ensures c.in-Ok.is c.in-Attach.is)

pub returns-in-Request : goal.returns-in-Request
returns-in-Request c =
    c.serve.ensures ∙ step_serves _ _ _ _ _ _ _ _ c.admit.ensures c.in-Ok.is c.in-Request.is
