-- What a request comes to, before any buffer is touched. Document 01, "Events", "DNLOAD", "UPLOAD". Assumes nothing.
use Rattle.std.specs.Prelude.{Bool, true, false, cond, ℕ, eqb, leb}
use Rattle.request.specs.declared.Setup.{Setup}
use Rattle.request.specs.declared.Request.{Request}
use Rattle.request.specs.declared.Request.TheVariants.{Download, Upload, GetStatus, ClearStatus, GetState, Abort, Unknown}
use Rattle.request.specs.Request.{request_of}
use Rattle.mode.specs.declared.Mode.{Mode}
use Rattle.mode.specs.declared.Mode.TheVariants.{Idle, DownloadSync, ManifestSync}
use Rattle.device.specs.declared.Pending.{Pending}
use Rattle.device.specs.declared.Pending.TheVariants.{SetPointer, ErasePage, MassErase, ReadUnprotect, Write}
use Rattle.device.specs.declared.Device.{Device}
use Rattle.command.specs.declared.Command.{Command}
use Rattle.decision.specs.declared.Decision.{Decision}
use Rattle.decision.specs.declared.Decision.TheVariants.{Silent, Stall, Accept, Take, Commands, Read, State, Status}
use Rattle.mode.specs.Wire.{is_mode, err_stalledpkt}
use Rattle.mode.specs.Table.{allowed_of}
use Rattle.device.specs.State.{idled, entered, stalled}

-- "In Left or Rebooting a request is Silent": the modes without wire number
abbrev pub silent_of : Mode → Bool
silent_of mode = is_mode 0 mode

-- "A Stall": with the status that applies where no other is named
abbrev pub refused_of : Device → Decision
refused_of d = Stall (stalled d err_stalledpkt)

-- "Accepted data gives mode 3", with the command that waits there
abbrev pub waiting : Device → Pending → Device
waiting d pending = record { mode = DownloadSync; status = d.status; pointer = d.pointer; pending = pending }

-- "Other data .. stalls": a command is taken where its data has the length that it asks for
abbrev pub waiting_if : Bool → Device → Pending → Decision
waiting_if fits d pending = cond fits (Accept (waiting d pending)) (refused_of d)

-- "0x41 and four (erase page); 0x41 alone (mass erase)"
abbrev pub erasing_of : Device → ℕ → ℕ → Decision
erasing_of d count address = cond (eqb count 5) (Accept (waiting d (ErasePage address))) (waiting_if (eqb count 1) d MassErase)

-- "DNLOAD", wValue 0: the commands, by their first byte and the number of data bytes
unfoldable pub commanded_of : Device → ℕ → Command → Decision
commanded_of d count k =
    cond (eqb k.code 0x21) (waiting_if (eqb count 5) d (SetPointer k.address))
    (cond (eqb k.code 0x41) (erasing_of d count k.address)
    (cond (eqb k.code 0x92) (waiting_if (eqb count 1) d ReadUnprotect)
    (refused_of d)))

-- "DNLOAD", by its length and its wValue
unfoldable pub download_of : Device → Setup → Command → Decision
download_of d s k =
    cond (eqb s.length 0) (Accept (entered d ManifestSync))
    (cond (eqb s.value 0) (commanded_of d s.length k)
    (cond (eqb s.value 1) (refused_of d)
    (Take (waiting d (Write s.value s.length)))))

-- "the first wLength of 00 21 41 92, at most four"
abbrev pub listed_count : ℕ → ℕ
listed_count count = cond (leb count 4) count 4

-- "UPLOAD", by its wValue
unfoldable pub upload_of : Device → Setup → Decision
upload_of d s =
    cond (eqb s.value 0) (Commands (entered d Idle) (listed_count s.length))
    (cond (eqb s.value 1) (refused_of d)
    Read)

-- an allowed request
abbrev pub served_of : Request → Device → Setup → Command → Decision
served_of Download d s k = download_of d s k
served_of Upload d s k = upload_of d s
served_of GetStatus d s k = Status
served_of ClearStatus d s k = Accept (idled d)
served_of GetState d s k = State
served_of Abort d s k = Accept (idled d)
served_of Unknown d s k = refused_of d

-- "Events": a request in any mode
unfoldable pub decide_of : Device → Setup → Command → Decision
decide_of d s k =
    cond (silent_of d.mode) Silent
    (cond (allowed_of (request_of s) d.mode) (served_of (request_of s) d s k)
    (refused_of d))

-- "GETSTATUS": a request that comes to it
abbrev pub is_status : Decision → Bool
is_status Silent = false
is_status (Stall next) = false
is_status (Accept next) = false
is_status (Take next) = false
is_status (Commands next count) = false
is_status Read = false
is_status State = false
is_status Status = true
