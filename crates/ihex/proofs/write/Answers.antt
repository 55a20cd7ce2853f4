-- `ihex::write` meets its contract. Assumes nothing.
use Rattle.ihex.proofs.Logger.{logger_segment}
use Rattle.ihex.proofs.write.Goals as goal

pub write_for-requires : goal.write_for-requires
write_for-requires c = logger_segment
