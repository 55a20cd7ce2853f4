-- Whatever a request comes to, it is one of ten things: to show a fact of a decision is to show it of these. Assumes nothing.
use mathlib.Core.Path.{◌≡◌, refl, ap, ◌∙◌, sym}
use mathlib.Core.Bool.{Bool, true, false, false≢true}
use mathlib.Core.Logic.{⊎_elim}
use Prim.Native.Nat.{ℕ, ◌≤◌}
use native.Mathlib.Omega.{arith}
use lib.Dec.{eqb, leb}
use borrow.Author.Tests.{eqb-false, le-leb, leb-true}
use Rattle.laws.proofs.Split.{by_bool}
use Rattle.request.specs.declared.Setup.{Setup}
use Rattle.request.specs.declared.Request.{Request}
use Rattle.request.specs.declared.Request.TheVariants.{Download, Upload, GetStatus, ClearStatus, GetState, Abort, Unknown}
use Rattle.request.specs.Request.{transfer_bytes, request_of}
use Rattle.request.proofs.Known.{known_short}
use Rattle.mode.specs.declared.Mode.TheVariants.{Idle, ManifestSync}
use Rattle.device.specs.declared.Pending.{Pending}
use Rattle.device.specs.declared.Pending.TheVariants.{SetPointer, ErasePage, MassErase, ReadUnprotect, Write}
use Rattle.device.specs.declared.Device.{Device}
use Rattle.mode.specs.Table.{allowed_of}
use Rattle.device.specs.State.{idled, entered}
use Rattle.states.specs.WellFormed.{write_fits}
use Rattle.command.specs.declared.Command.{Command}
use Rattle.decision.specs.declared.Decision.{Decision}
use Rattle.decision.specs.declared.Decision.TheVariants.{Silent, Accept, Take, Commands, Read, State, Status}
use Rattle.decision.specs.Decide.{decide_of, served_of, download_of, commanded_of, upload_of, refused_of, waiting, waiting_if, listed_count, silent_of}

-- the setup asks for this request, and the mode takes it
pub record Taken (d : Device) (s : Setup) (r : Request) : Type 0 where
  pub asked : request_of s ≡ r
  pub allowed : allowed_of r d.mode ≡ true
  pub short : s.length ≤ transfer_bytes

-- the ten
pub record Cases (P : Decision → Type 0) (d : Device) (s : Setup) (k : Command) : Type 0 where
  pub silent : P Silent
  pub refused : P (refused_of d)
  pub leaves : Taken d s Download → P (Accept (entered d ManifestSync))
  pub points : Taken d s Download → (address : ℕ) → P (Accept (waiting d (SetPointer address)))
  pub erases : Taken d s Download → (address : ℕ) → P (Accept (waiting d (ErasePage address)))
  pub erases_all : Taken d s Download → P (Accept (waiting d MassErase))
  pub unprotects : Taken d s Download → P (Accept (waiting d ReadUnprotect))
  pub takes : Taken d s Download → write_fits s.value s.length ≡ true → P (Take (waiting d (Write s.value s.length)))
  pub lists : Taken d s Upload → (count : ℕ) → count ≤ 4 → P (Commands (entered d Idle) count)
  pub reads : Taken d s Upload → P Read
  pub clears : P (Accept (idled d))
  pub state : Taken d s GetState → P State
  pub status : Taken d s GetStatus → P Status

module _ (P : Decision → Type 0) (d : Device) (s : Setup) (k : Command) (c : Cases P d s k) where
  waiting_if_case : (fits : Bool) (pending : Pending) → P (Accept (waiting d pending)) → P (waiting_if fits d pending)
  waiting_if_case true pending p = p
  waiting_if_case false pending p = c.refused

  commanded_case : Taken d s Download → P (commanded_of d s.length k)
  unfolding commanded_of
  commanded_case t =
      by_bool (eqb k.code 0x21) (λ x. rw x (waiting_if_case (eqb s.length 5) (SetPointer k.address) (c.points t k.address)))
      (λ x.
      by_bool (eqb k.code 0x41)
      (λ y.
      rw (x, y)
      (by_bool (eqb s.length 5) (λ e. rw e (c.erases t k.address))
      (λ e. rw e (waiting_if_case (eqb s.length 1) MassErase (c.erases_all t)))))
      (λ y.
      by_bool (eqb k.code 0x92) (λ z. rw (x, y, z) (waiting_if_case (eqb s.length 1) ReadUnprotect (c.unprotects t)))
      (λ z. rw (x, y, z) c.refused)))

  fits-write : (eqb s.length 0 ≡ false) → (eqb s.value 0 ≡ false) → (eqb s.value 1 ≡ false) → s.length ≤ transfer_bytes → write_fits s.value s.length ≡ true
  fits-write x y z h =
      let x' : s.length ≡ 0 → ⊥ = eqb-false _ _ x in
      let y' : s.value ≡ 0 → ⊥ = eqb-false _ _ y in
      let z' : s.value ≡ 1 → ⊥ = eqb-false _ _ z in
      let block : 2 ≤ s.value = two s.value y' z' in
      let count : 1 ≤ s.length = one s.length x' in
      rw (le-leb 2 s.value block, le-leb 1 s.length count, le-leb s.length transfer_bytes h)
    where
      one : (k : ℕ) → (k ≡ 0 → ⊥) → 1 ≤ k
      one k a = omega arith

      two : (k : ℕ) → (k ≡ 0 → ⊥) → (k ≡ 1 → ⊥) → 2 ≤ k
      two k a b = omega arith

  download_case : Taken d s Download → P (download_of d s k)
  unfolding download_of
  download_case t =
      by_bool (eqb s.length 0) (λ x. rw x (c.leaves t))
      (λ x.
      by_bool (eqb s.value 0) (λ y. rw (x, y) (commanded_case t))
      (λ y.
      by_bool (eqb s.value 1) (λ z. rw (x, y, z) c.refused) (λ z. rw (x, y, z) (c.takes t (fits-write x y z t.short)))))

  listed-four : (count : ℕ) → listed_count count ≤ 4
  listed-four count = by_bool (leb count 4) (λ e. rw e (leb-true _ _ e)) (λ e. rw e (omega arith))

  upload_case : Taken d s Upload → P (upload_of d s)
  unfolding upload_of
  upload_case t =
      by_bool (eqb s.value 0) (λ x. rw x (c.lists t (listed_count s.length) (listed-four s.length)))
      (λ x. by_bool (eqb s.value 1) (λ y. rw (x, y) c.refused) (λ y. rw (x, y) (c.reads t)))

  served_case : (r : Request) → Taken d s r → P (served_of r d s k)
  served_case Download t = download_case t
  served_case Upload t = upload_case t
  served_case GetStatus t = c.status t
  served_case ClearStatus t = c.clears
  served_case GetState t = c.state t
  served_case Abort t = c.clears
  served_case Unknown t = c.refused

  -- an allowed request is a known one, and so a short one
  allowed_short : allowed_of (request_of s) d.mode ≡ true → s.length ≤ transfer_bytes
  unfolding allowed_of
  allowed_short e = ⊎_elim (λ u. absurd (false≢true (ap (λ (r : Request). allowed_of r d.mode) (sym u) ∙ e))) (λ h. h) (known_short s)

  pub decide_case : P (decide_of d s k)
  unfolding decide_of
  decide_case =
      by_bool (silent_of d.mode) (λ x. rw x c.silent)
      (λ x.
      by_bool (allowed_of (request_of s) d.mode)
      (λ y. rw (x, y) (served_case (request_of s) (record { asked = refl; allowed = y; short = allowed_short y })))
      (λ y. rw (x, y) c.refused))
