-- `trial::equip` meets its contract. Assumes nothing.
use Rattle.board.proofs.Logger.{logger-sound}
use native.Mathlib.Omega.{arith}
use Rattle.trial.proofs.equip.Goals as goal

pub slice_bounds-copy_from_slice-end : goal.slice_bounds-copy_from_slice-end
slice_bounds-copy_from_slice-end c = omega (arith, logger-sound.options_in_memory)
