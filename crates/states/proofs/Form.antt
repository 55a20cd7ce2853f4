-- Each way from one state to the next keeps it well formed. Assumes nothing.
use mathlib.Core.Path.{◌≡◌, refl, ◌∙◌, sym}
use mathlib.Core.Bool.{true, false, ◌&&◌, false≢true}
use Prim.Native.Nat.{ℕ}
use lib.Dec.{eqb}
use borrow.Author.Tests.{eqb-true}
use Rattle.laws.proofs.Split.{by_bool, and_true}
use Rattle.board.specs.declared.Board.{Board}
use Rattle.board.specs.Sound.{Sound}
use Rattle.board.proofs.Span.{first_placed}
use Rattle.request.specs.declared.Request.TheVariants.{Download, Upload}
use Rattle.mode.specs.declared.Mode.{Mode}
use Rattle.mode.specs.declared.Mode.TheVariants.{Idle, DownloadSync, DownloadBusy, DownloadIdle, ManifestSync, UploadIdle, Error, Left, Rebooting}
use Rattle.device.specs.declared.Pending.{Pending}
use Rattle.device.specs.declared.Pending.TheVariants.{Nothing, SetPointer, ErasePage, MassErase, ReadUnprotect, Write}
use Rattle.device.specs.declared.Device.{Device}
use Rattle.device.specs.declared.Ran.{Ran}
use Rattle.mode.specs.Wire.{wire_of, is_mode}
use Rattle.mode.specs.Table.{allowed_of}
use Rattle.device.specs.State.{started, idled, failed, stalled, entered, finished, after_status}
use Rattle.states.specs.WellFormed.{in_region, write_fits, pending_fits, status_fits, well_formed}

-- well-formedness, by its parts
pub record Form (board : Board) (d : Device) : Type 0 where
  pub pointer : in_region board d.pointer ≡ true
  pub pending : pending_fits d.mode d.pending ≡ true
  pub status : status_fits d.mode d.status ≡ true

pub form_of : (board : Board) (d : Device) → well_formed board d ≡ true → Form board d
unfolding well_formed
form_of board d w =
    let p = and_true (in_region board d.pointer) (pending_fits d.mode d.pending && status_fits d.mode d.status) w in
    let q = and_true (pending_fits d.mode d.pending) (status_fits d.mode d.status) p.1 in
    record { pointer = p.0; pending = q.0; status = q.1 }

pub well_formed_lem : (board : Board) (d : Device) → Form board d → well_formed board d ≡ true
unfolding well_formed
well_formed_lem board d f = rw (f.pointer, f.pending, f.status)

-- a mode in which nothing is pending and the status is 0
pub record Calm (mode : Mode) : Type 0 where
  pub sync : is_mode 3 mode ≡ false
  pub error : is_mode 10 mode ≡ false

calm_wire : (mode : Mode) (k : ℕ) → is_mode k mode ≡ true → eqb k 3 ≡ false → eqb k 10 ≡ false → Calm mode
calm_wire mode k e a b =
    let w : wire_of mode ≡ k = eqb-true (wire_of mode) k e in
    record { sync = rw w a; error = rw w b }

-- a mode that takes DNLOAD or UPLOAD is calm
pub download_calm : (mode : Mode) → allowed_of Download mode ≡ true → Calm mode
unfolding allowed_of
download_calm Idle a = record { sync = refl; error = refl }
download_calm DownloadSync a = absurd (false≢true a)
download_calm DownloadBusy a = absurd (false≢true a)
download_calm DownloadIdle a = record { sync = refl; error = refl }
download_calm ManifestSync a = absurd (false≢true a)
download_calm UploadIdle a = absurd (false≢true a)
download_calm Error a = absurd (false≢true a)
download_calm Left a = absurd (false≢true a)
download_calm Rebooting a = absurd (false≢true a)

pub upload_calm : (mode : Mode) → allowed_of Upload mode ≡ true → Calm mode
unfolding allowed_of
upload_calm Idle a = record { sync = refl; error = refl }
upload_calm DownloadSync a = absurd (false≢true a)
upload_calm DownloadBusy a = absurd (false≢true a)
upload_calm DownloadIdle a = absurd (false≢true a)
upload_calm ManifestSync a = absurd (false≢true a)
upload_calm UploadIdle a = record { sync = refl; error = refl }
upload_calm Error a = absurd (false≢true a)
upload_calm Left a = absurd (false≢true a)
upload_calm Rebooting a = absurd (false≢true a)

-- where no command can be pending, none is
none_pending : (mode : Mode) (pending : Pending) → is_mode 3 mode ≡ false → pending_fits mode pending ≡ true → pending ≡ Nothing
none_pending mode Nothing s p = refl
none_pending mode (SetPointer address) s p = absurd (false≢true (sym s ∙ p))
none_pending mode (ErasePage address) s p = absurd (false≢true (sym s ∙ p))
none_pending mode MassErase s p = absurd (false≢true (sym s ∙ p))
none_pending mode ReadUnprotect s p = absurd (false≢true (sym s ∙ p))
none_pending mode (Write block count) s p = absurd (false≢true (sym s ∙ (and_true (is_mode 3 mode) (write_fits block count) p).0))

-- outside mode 10 the status is 0
status_zero : (mode : Mode) (status : ℕ) → is_mode 10 mode ≡ false → status_fits mode status ≡ true → eqb status 0 ≡ true
status_zero mode status e s = rw e at s

module _ (board : Board) (d : Device) (f : Form board d) where
  pub idled-form : Form board (idled d)
  idled-form = record { pointer = f.pointer; pending = refl; status = refl }

  failed-form : (status : ℕ) → status_fits Error status ≡ true → Form board (failed d status)
  failed-form status s = record { pointer = f.pointer; pending = refl; status = s }

  -- the error mode keeps its own status, which fits
  pub stalled-form : (status : ℕ) → status_fits Error status ≡ true → Form board (stalled d status)
  stalled-form status s =
      by_bool (is_mode 10 d.mode) (λ e. rw e (failed-form d.status (rw e at f.status)))
      (λ e. rw e (failed-form status s))

  pub entered-form : (mode : Mode) → Calm d.mode → Calm mode → Form board (entered d mode)
  entered-form mode c k =
      record {
        pointer = f.pointer;
        pending = rw (none_pending d.mode d.pending c.sync f.pending, k.sync);
        status = rw k.error (status_zero d.mode d.status c.error f.status);
      }

  -- a command that waits, where the mode was calm
  pub waiting-form : (pending : Pending) → Calm d.mode → pending_fits DownloadSync pending ≡ true → Form board (record { mode = DownloadSync; status = d.status; pointer = d.pointer; pending = pending })
  waiting-form pending c p =
      record { pointer = f.pointer; pending = p; status = status_zero d.mode d.status c.error f.status }

-- what running a command may come to: a pointer in a region where it went well, else a status of the error mode
pub record Sane (board : Board) (ran : Ran) : Type 0 where
  pub well : eqb ran.status 0 ≡ true → in_region board ran.pointer ≡ true
  pub ill : eqb ran.status 0 ≡ false → status_fits Error ran.status ≡ true

-- mode 3 is not mode 10
sync_no_error : (mode : Mode) → is_mode 3 mode ≡ true → is_mode 10 mode ≡ false
sync_no_error mode e = rw (eqb-true (wire_of mode) 3 e)

module _ (board : Board) (d : Device) (ran : Ran) (f : Form board d) (s : Sane board ran) where
  finished-form : is_mode 3 d.mode ≡ true → Form board (finished d ran)
  finished-form m =
      let zero = status_zero d.mode d.status (sync_no_error d.mode m) f.status in
      by_bool (eqb ran.status 0)
      (λ e.
      by_bool ran.reboots
      (λ b. rw (e, b) (record { pointer = s.well e; pending = refl; status = zero }))
      (λ b. rw (e, b) (record { pointer = s.well e; pending = refl; status = zero })))
      (λ e. rw e (failed-form board d f ran.status (s.ill e)))

  pub after-status-form : Form board (after_status d ran)
  unfolding after_status
  after-status-form =
      by_bool (is_mode 3 d.mode) (λ a. rw a (finished-form a))
      (λ a.
      by_bool (is_mode 4 d.mode) (λ b. rw (a, b) (entered-form board d f DownloadIdle (calm_wire d.mode 4 b refl refl) (record { sync = refl; error = refl })))
      (λ b.
      by_bool (is_mode 6 d.mode) (λ c. rw (a, b, c) (entered-form board d f Left (calm_wire d.mode 6 c refl refl) (record { sync = refl; error = refl })))
      (λ c. rw (a, b, c) f)))

-- after a GETSTATUS nothing is pending
pub after-status-none : (board : Board) (d : Device) (ran : Ran) → Form board d → (after_status d ran).pending ≡ Nothing
unfolding after_status
after-status-none board d ran f =
    by_bool (is_mode 3 d.mode)
    (λ a. rw a (by_bool (eqb ran.status 0) (λ z. rw z) (λ z. rw z)))
    (λ a.
    let none : d.pending ≡ Nothing = none_pending d.mode d.pending a f.pending in
    by_bool (is_mode 4 d.mode) (λ b. rw (a, b) none)
    (λ b. by_bool (is_mode 6 d.mode) (λ c. rw (a, b, c) none) (λ c. rw (a, b, c) none)))

-- the first flash address lies in a region
pub started-form : (board : Board) → Sound board → Form board (started board)
unfolding in_region
started-form board sound = record { pointer = rw (first_placed board sound); pending = refl; status = refl }
