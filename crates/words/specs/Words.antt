-- What each word for people is. Names by document 01, "The board" and "Events". Assumes nothing.
use Rattle.std.specs.Prelude.{cond, List, ℕ, eqb}
use Rattle.laws.specs.Ascii.{ascii}
use Rattle.request.specs.declared.Request.{Request}
use Rattle.request.specs.declared.Request.TheVariants as request
use Rattle.mode.specs.declared.Mode.{Mode}
use Rattle.mode.specs.declared.Mode.TheVariants as mode
use Rattle.mode.specs.Wire.{err_target, err_write, err_vendor, err_stalledpkt}
use Rattle.decimal.specs.Decimal.{decimal_of}

-- the requests, by the names of the table in "Events"
abbrev pub request_name : Request → List ℕ
request_name request.Download = ascii "DNLOAD"
request_name request.Upload = ascii "UPLOAD"
request_name request.GetStatus = ascii "GETSTATUS"
request_name request.ClearStatus = ascii "CLRSTATUS"
request_name request.GetState = ascii "GETSTATE"
request_name request.Abort = ascii "ABORT"
request_name request.Unknown = ascii "a request that the loader does not know"

-- "Modes: 2 dfuIDLE, .."
abbrev pub mode_name : Mode → List ℕ
mode_name mode.Idle = ascii "dfuIDLE"
mode_name mode.DownloadSync = ascii "dfuDNLOAD-SYNC"
mode_name mode.DownloadBusy = ascii "dfuDNBUSY"
mode_name mode.DownloadIdle = ascii "dfuDNLOAD-IDLE"
mode_name mode.ManifestSync = ascii "dfuMANIFEST-SYNC"
mode_name mode.UploadIdle = ascii "dfuUPLOAD-IDLE"
mode_name mode.Error = ascii "dfuERROR"
mode_name mode.Left = ascii "left"
mode_name mode.Rebooting = ascii "rebooting"

-- the statuses that the loader gives, by name; any other by its number
abbrev pub status_name : ℕ → List ℕ
status_name n =
    cond (eqb n 0) (ascii "OK")
    (cond (eqb n err_target) (ascii "errTARGET")
    (cond (eqb n err_write) (ascii "errWRITE")
    (cond (eqb n err_vendor) (ascii "errVENDOR")
    (cond (eqb n err_stalledpkt) (ascii "errSTALLEDPKT") (decimal_of n)))))
