-- Which requests come to Status. Assumes nothing.
use mathlib.Core.Path.{◌≡◌, refl}
use mathlib.Core.Bool.{true, false, cond, false≢true}
use Rattle.request.specs.declared.Setup.{Setup}
use Rattle.request.specs.declared.Request.TheVariants.{GetStatus}
use Rattle.request.specs.Request.{request_of}
use Rattle.mode.specs.declared.Mode.{Mode}
use Rattle.mode.specs.declared.Mode.TheVariants.{Idle, DownloadSync, DownloadBusy, DownloadIdle, ManifestSync, UploadIdle, Error, Left, Rebooting}
use Rattle.device.specs.declared.Device.{Device}
use Rattle.mode.specs.Table.{allowed_of}
use Rattle.command.specs.declared.Command.{Command}
use Rattle.decision.specs.declared.Decision.{Decision}
use Rattle.decision.specs.declared.Decision.TheVariants.{Silent, Stall, Accept, Take, Commands, Read, State, Status}
use Rattle.decision.specs.Decide.{silent_of, refused_of, decide_of, is_status}
use Rattle.decision.proofs.Cases.{decide_case}

module _ (d : Device) (s : Setup) (k : Command) where
  -- no silent mode takes it
  pub taken : request_of s ≡ GetStatus → is_status (decide_of d s k) ≡ allowed_of GetStatus d.mode
  unfolding decide_of allowed_of
  taken e = rw e (go d.mode)
    where
      go : (mode : Mode) → is_status (cond (silent_of mode) Silent (cond (allowed_of GetStatus mode) Status (refused_of d))) ≡ allowed_of GetStatus mode
      go Idle = refl
      go DownloadSync = refl
      go DownloadBusy = refl
      go DownloadIdle = refl
      go ManifestSync = refl
      go UploadIdle = refl
      go Error = refl
      go Left = refl
      go Rebooting = refl

  pub other : (request_of s ≡ GetStatus → ⊥) → is_status (decide_of d s k) ≡ false
  other differs =
      decide_case (λ x. is_status x ≡ false) d s k
      (record {
        silent = refl;
        refused = refl;
        leaves = λ t. refl;
        points = λ t address. refl;
        erases = λ t address. refl;
        erases_all = λ t. refl;
        unprotects = λ t. refl;
        takes = λ t f. refl;
        lists = λ t count h. refl;
        reads = λ t. refl;
        clears = refl;
        state = λ t. refl;
        status = λ t. absurd (differs t.asked);
      })

pub only_status : (x : Decision) → is_status x ≡ true → x ≡ Status
only_status Silent e = absurd (false≢true e)
only_status (Stall next) e = absurd (false≢true e)
only_status (Accept next) e = absurd (false≢true e)
only_status (Take next) e = absurd (false≢true e)
only_status (Commands next count) e = absurd (false≢true e)
only_status Read e = absurd (false≢true e)
only_status State e = absurd (false≢true e)
only_status Status e = refl
