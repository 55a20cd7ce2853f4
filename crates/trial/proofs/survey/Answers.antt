-- `trial::survey` meets its contract. Assumes nothing.
use Rattle.board.proofs.Logger.{logger-sound}
use native.Mathlib.Omega.{arith}
use Rattle.trial.proofs.survey.Goals as goal

pub slice_bounds-first_change-end : goal.slice_bounds-first_change-end
slice_bounds-first_change-end c = omega (arith, logger-sound.options_in_memory)
