-- `play_job::change::list` is safe and ends. Assumes nothing.
use Rattle.std.proofs.Common.{◌-◌}
use Rattle.play_job.proofs.change.list.Given as goal

abbrev pub decreases-loop-place : goal.decreases-loop-place
decreases-loop-place l = l.all - l.place
