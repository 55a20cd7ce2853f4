-- The device that a decision carries is well formed, and memory is read in a calm mode only. Assumes nothing.
use mathlib.Core.Path.{refl}
use mathlib.Core.Bool.{true}
use lib.Dec.{T}
use Rattle.request.specs.declared.Setup.{Setup}
use Rattle.mode.specs.declared.Mode.TheVariants.{Idle, ManifestSync}
use Rattle.device.specs.declared.Pending.TheVariants.{SetPointer, ErasePage, MassErase, ReadUnprotect, Write}
use Rattle.device.specs.declared.Device.{Device}
use Rattle.mode.specs.Wire.{err_stalledpkt}
use Rattle.states.proofs.Form.{Form, Calm, idled-form, stalled-form, entered-form, waiting-form, download_calm, upload_calm}
use Rattle.command.specs.declared.Command.{Command}
use Rattle.decision.specs.declared.Decision.{Decision}
use Rattle.decision.specs.declared.Decision.TheVariants.{Silent, Stall, Accept, Take, Commands, Read, State, Status}
use Rattle.decision.specs.Decide.{decide_of}
use Rattle.decision.proofs.Cases.{decide_case}
use Rattle.board.specs.declared.Board.{Board}

abbrev pub Formed : Board → Device → Decision → Type 0
Formed board d Silent = T true
Formed board d (Stall next) = Form board next
Formed board d (Accept next) = Form board next
Formed board d (Take next) = Form board next
Formed board d (Commands next count) = Form board next
Formed board d Read = Calm d.mode
Formed board d State = T true
Formed board d Status = T true

pub decide_formed : (board : Board) (d : Device) → Form board d → (s : Setup) (k : Command) → Formed board d (decide_of d s k)
decide_formed board d f s k =
    decide_case (Formed board d) d s k
    (record {
      silent = tt;
      refused = stalled-form board d f err_stalledpkt refl;
      leaves = λ t. entered-form board d f ManifestSync (download_calm d.mode t.allowed) (record { sync = refl; error = refl });
      points = λ t address. waiting-form board d f (SetPointer address) (download_calm d.mode t.allowed) refl;
      erases = λ t address. waiting-form board d f (ErasePage address) (download_calm d.mode t.allowed) refl;
      erases_all = λ t. waiting-form board d f MassErase (download_calm d.mode t.allowed) refl;
      unprotects = λ t. waiting-form board d f ReadUnprotect (download_calm d.mode t.allowed) refl;
      takes = λ t w. waiting-form board d f (Write s.value s.length) (download_calm d.mode t.allowed) w;
      lists = λ t count h. entered-form board d f Idle (upload_calm d.mode t.allowed) (record { sync = refl; error = refl });
      reads = λ t. upload_calm d.mode t.allowed;
      clears = idled-form board d f;
      state = λ t. tt;
      status = λ t. tt;
    })
