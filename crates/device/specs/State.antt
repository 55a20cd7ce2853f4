-- The state, and where the events that need no memory take it. Document 01, "Events". Assumes nothing.
use Rattle.std.specs.Prelude.{cond, ℕ, eqb}
use Rattle.board.specs.declared.Board.{Board}
use Rattle.board.specs.Layout.{flash_first}
use Rattle.mode.specs.declared.Mode.{Mode}
use Rattle.mode.specs.declared.Mode.TheVariants.{Idle, DownloadBusy, DownloadIdle, Error, Left, Rebooting}
use Rattle.device.specs.declared.Pending.TheVariants.{Nothing}
use Rattle.device.specs.declared.Device.{Device}
use Rattle.device.specs.declared.Ran.{Ran}
use Rattle.device.specs.declared.Report.{Report}
use Rattle.mode.specs.Wire.{wire_of, is_mode, manifest_wire}

-- "Attach, in any mode, gives mode 2, status 0, pointer 0x08000000, nothing pending": the first flash address of the board
abbrev pub started : Board → Device
started board = record { mode = Idle; status = 0; pointer = flash_first board; pending = Nothing }

-- "CLRSTATUS and ABORT give mode 2, status 0, nothing pending .. Neither moves the pointer"
abbrev pub idled : Device → Device
idled d = record { mode = Idle; status = 0; pointer = d.pointer; pending = Nothing }

-- mode 10 with a status, nothing pending
abbrev pub failed : Device → ℕ → Device
failed d status = record { mode = Error; status = status; pointer = d.pointer; pending = Nothing }

-- "A Stall makes the mode 10 with status 15 .. unless another is named, and drops anything pending; in mode 10 the old status stays"
abbrev pub stalled : Device → ℕ → Device
stalled d status = failed d (cond (is_mode 10 d.mode) d.status status)

-- the same device in another mode
abbrev pub entered : Device → Mode → Device
entered d mode = record { mode = mode; status = d.status; pointer = d.pointer; pending = d.pending }

-- "GETSTATUS", mode 3, once the command ran: "on error the mode becomes 10 with that status .. Without error the mode then is 4, or Rebooting"
abbrev pub finished : Device → Ran → Device
finished d ran =
    cond (eqb ran.status 0)
    (record { mode = cond ran.reboots Rebooting DownloadBusy; status = d.status; pointer = ran.pointer; pending = Nothing })
    (failed d ran.status)

-- "GETSTATUS": the state that it leaves, `ran` being what the pending command came to
unfoldable pub after_status : Device → Ran → Device
after_status d ran =
    cond (is_mode 3 d.mode) (finished d ran)
    (cond (is_mode 4 d.mode) (entered d DownloadIdle)
    (cond (is_mode 6 d.mode) (entered d Left)
    d))

-- a status and a mode, by their wire numbers
abbrev pub report : ℕ → ℕ → Report
report status state = record { status = status; state = state }

-- "GETSTATUS", mode 3: "on error .. the reply shows both; else it shows status 0 and mode 4"
abbrev pub ran_report : Ran → Report
ran_report ran = cond (eqb ran.status 0) (report 0 (wire_of DownloadBusy)) (report ran.status (wire_of Error))

-- "GETSTATUS": the status and the mode that it reports
unfoldable pub report_of : Device → Ran → Report
report_of d ran =
    cond (is_mode 3 d.mode) (ran_report ran)
    (cond (is_mode 4 d.mode) (report d.status (wire_of DownloadIdle))
    (cond (is_mode 6 d.mode) (report d.status manifest_wire)
    (report d.status (wire_of d.mode))))
