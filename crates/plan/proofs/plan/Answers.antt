-- `plan::plan` meets its contract. Assumes nothing.
use Rattle.board.proofs.Logger.{logger-sound}
use Rattle.plan.proofs.plan.Goals as goal

pub plan_for-requires : goal.plan_for-requires
plan_for-requires c = logger-sound
