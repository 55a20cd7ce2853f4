-- `ihex::faulty_line` meets its contract. Assumes nothing.
use native.Mathlib.Omega.{arith}
use Rattle.board.proofs.Logger.{logger_flash}
use Rattle.ihex.proofs.Logger.{logger_holds}
use Rattle.ihex.proofs.faulty_line.Goals as goal

pub walk-requires : goal.walk-requires
walk-requires c = (omega arith, rw logger_flash at logger_holds)
