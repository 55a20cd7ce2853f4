-- `advice::place_of` is safe and ends. Assumes nothing.
use Rattle.std.proofs.Common.{arith}
use Rattle.board.proofs.Logger.{logger-sound}
use Rattle.advice.proofs.place_of.Goals as goal

pub overflow_add-result : goal.overflow_add-result
overflow_add-result c =
    omega (arith, logger-sound.flash_in_memory, logger-sound.memory_small, c.min.ensures, c.flash_bytes.ensures, c.flash_from.ensures)
