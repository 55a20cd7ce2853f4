-- How what a request comes to is read: a device of the proof, which the promise of no call that a customer makes names. Assumes nothing.
use Rattle.std.specs.Prelude.{Option, None, Some}
use Rattle.device.specs.declared.Device.{Device}
use Rattle.marks.specs.Work.{Work}
use Rattle.cells.specs.Cells.{Moved, falls, goes}

-- an event's outcome, with what is known after it
abbrev pub moved_as : Option Device → Work → Moved
moved_as None w = falls
moved_as (Some d) w = goes d w
