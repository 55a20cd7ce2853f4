-- `play_job::change::list` is safe and ends. Assumes nothing.
use Rattle.std.proofs.Common.{◌<◌, arith}
use Rattle.board.specs.Layout.{logger, memory_bytes}
use Rattle.board.proofs.Stretches.{stretch_past}
use Rattle.play_job.proofs.change.list.Goals as goal

pub loop-place-smaller : goal.loop-place-smaller
loop-place-smaller c =
    let near : c.loop-place.place < memory_bytes logger = omega (arith, c.loop-place-test.true, c.memory_bytes-all.ensures.0) in
    omega (arith, rw (← c.stretch_at-stretch.ensures) at (stretch_past logger _ near), c.first_change-place-in-loop-place.ensures, c.loop-place-test.true)
