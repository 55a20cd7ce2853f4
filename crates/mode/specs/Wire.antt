-- Wire numbers. Document 01, "The board", the list of modes; status numbers of USB DFU 1.1. Assumes nothing.
use Rattle.std.specs.Prelude.{Bool, ℕ, eqb}
use Rattle.mode.specs.declared.Mode.{Mode}
use Rattle.mode.specs.declared.Mode.TheVariants.{Idle, DownloadSync, DownloadBusy, DownloadIdle, ManifestSync, UploadIdle, Error, Left, Rebooting}

-- "Modes: 2 dfuIDLE, .."; Left and Rebooting have no wire number: they answer nothing, so that their 0 is never sent
abbrev pub wire_of : Mode → ℕ
wire_of Idle = 2
wire_of DownloadSync = 3
wire_of DownloadBusy = 4
wire_of DownloadIdle = 5
wire_of ManifestSync = 6
wire_of UploadIdle = 9
wire_of Error = 10
wire_of Left = 0
wire_of Rebooting = 0

-- the mode is the one of this wire number
abbrev pub is_mode : ℕ → Mode → Bool
is_mode k mode = eqb (wire_of mode) k

-- "reports 7": dfuMANIFEST, which a GETSTATUS reports and the device never stays in
abbrev pub manifest_wire : ℕ
manifest_wire = 7

-- the statuses, by the names that the paper gives them. 1: the address or the length is not one of the board's
abbrev pub err_target : ℕ
err_target = 1

-- 3: what is to be written is not erased
abbrev pub err_write : ℕ
err_write = 3

-- 11: read protection is on
abbrev pub err_vendor : ℕ
err_vendor = 11

-- 15: a request that is not taken
abbrev pub err_stalledpkt : ℕ
err_stalledpkt = 15
