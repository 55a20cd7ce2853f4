-- An event moves every board as it moves the device and the work area. Assumes nothing.
use mathlib.Core.Path.{◌≡◌, refl, ap, ◌∙◌, sym}
use mathlib.Core.Bool.{Bool, true, false, true≢false}
use mathlib.Core.List.{List}
use Prim.Native.Nat.{ℕ}
use native.Mathlib.Omega.{arith}
use lib.Dec.{T, eqb}
use lib.ListN.{take}
use borrow.Author.Tests.{eqb-true}
use Rattle.laws.proofs.Split.{by_bool}
use Rattle.board.specs.declared.Board.{Board}
use Rattle.board.specs.Sound.{Sound}
use Rattle.board.specs.declared.Place.{Place}
use Rattle.board.specs.declared.Place.TheVariants.{Flash, Ram, Options, Outside}
use Rattle.board.specs.Span.{place_of}
use Rattle.protection.specs.Protection.{read_protected}
use Rattle.device.specs.declared.Pending.{Pending}
use Rattle.device.specs.declared.Pending.TheVariants.{Nothing, SetPointer, ErasePage, MassErase, ReadUnprotect, Write}
use Rattle.device.specs.declared.Device.{Device}
use Rattle.device.specs.declared.Ran.{Ran}
use Rattle.mode.specs.Wire.{is_mode}
use Rattle.device.specs.State.{after_status, report_of}
use Rattle.states.specs.WellFormed.{in_region}
use Rattle.states.proofs.Form.{Form, well_formed_lem}
use Rattle.action.specs.declared.Action.{Action}
use Rattle.action.specs.declared.Action.TheVariants.{Rest}
use Rattle.access.specs.declared.Access.{Access}
use Rattle.access.specs.declared.Access.TheVariants.{Denied, InFlash, InRam, InOptions}
use Rattle.access.specs.Access.{block_access}
use Rattle.action.specs.Action.{store_at, erase_at, action_in, action_of, status_action, ran_of, writes_of}
use Rattle.perform.specs.Perform.{performed_of}
use Rattle.loader.specs.Serve.{Run, run, run_of}
use Rattle.action.specs.Reach.{Fits}
use Rattle.action.proofs.Bounds.{status_action_fits}
use Rattle.marks.specs.Work.{Work}
use Rattle.cells.specs.Cells.{falls, goes, worked_of, reports, status_moves}
use Rattle.cells.proofs.Likeness.{Alike}
use Rattle.cells.proofs.Actions.{Zeros, protection_same}
use Rattle.judgement.proofs.Performs.{performs_well, performs_ill}

-- a pending write's bytes are in the board's block buffer and in the work area
abbrev pub Held : Pending → List ℕ → Work → Type 0
Held Nothing b w = T true
Held (SetPointer address) b w = T true
Held (ErasePage address) b w = T true
Held MassErase b w = T true
Held ReadUnprotect b w = T true
Held (Write block count) b w = take count b ≡ take count w.block

-- what an action takes from the block is held
module _ (board : Board) (b : List ℕ) (w : Work) where
  abbrev Has : Action → Type 0
  Has action = take (writes_of action).count b ≡ take (writes_of action).count w.block

  erase_has : (place : Place) → Has (erase_at board place)
  erase_has (Flash at) = refl
  erase_has (Ram at) = refl
  erase_has (Options at) = refl
  erase_has Outside = refl

  store_has : (count : ℕ) (access : Access) → take count b ≡ take count w.block → Has (store_at access count)
  store_has count (Denied status) h = refl
  store_has count (InFlash at) h = h
  store_has count (InRam at) h = h
  store_has count (InOptions at) h = h

  action_has : (protected : Bool) (pointer : ℕ) (pending : Pending) → Held pending b w → Has (action_in pending board protected pointer)
  action_has protected pointer Nothing h = refl
  action_has protected pointer (SetPointer address) h = by_bool (in_region board address) (λ e. rw e) (λ e. rw e)
  action_has true pointer (ErasePage address) h = refl
  action_has false pointer (ErasePage address) h = erase_has (place_of board address 1)
  action_has true pointer MassErase h = refl
  action_has false pointer MassErase h = refl
  action_has true pointer ReadUnprotect h = refl
  action_has false pointer ReadUnprotect h = refl
  action_has protected pointer (Write block count) h = store_has count (block_access board protected block count pointer) h

-- a GETSTATUS whose command went well on every board, or one with nothing to run
pub record Ran' (board : Board) (d : Device) (b m₀ m : List ℕ) (w : Work) (d' : Device) (w' : Work) : Type 0 where
  pub report : (report_of d (run_of board d b m).ran).status ≡ 0
  pub device : after_status d (run_of board d b m).ran ≡ d'
  pub alike : Alike board m₀ (run_of board d b m).memory w'

pub goes-device : (d d' : Device) (w w' : Work) → goes d w ≡ goes d' w' → d ≡ d'
goes-device d d' w w' e = cc

pub goes-work : (d d' : Device) (w w' : Work) → goes d w ≡ goes d' w' → w ≡ w'
goes-work d d' w w' e = cc

pub falls-not : (d : Device) (w : Work) → falls ≡ goes d w → ⊥
falls-not d w e = let z : ◌≡◌ {A = ℕ} 0 1 = cc in omega arith

-- what `reports` tells
reports_zero : (d d' : Device) (ran : Ran) (w w' : Work) → reports d ran w ≡ goes d' w' → ((report_of d ran).status ≡ 0) × (after_status d ran ≡ d') × (w ≡ w')
reports_zero d d' ran w w' e =
    by_bool (eqb (report_of d ran).status 0)
    (λ z. (eqb-true _ _ z, goes-device _ _ _ _ (rw z at e), goes-work _ _ _ _ (rw z at e)))
    (λ z. absurd (falls-not d' w' (rw z at e)))

reports-falls : (d : Device) (ran : Ran) (w : Work) → reports d ran w ≡ falls → eqb (report_of d ran).status 0 ≡ false
reports-falls d ran w e =
    by_bool (eqb (report_of d ran).status 0) (λ z. absurd (falls-not (after_status d ran) w (sym (rw z at e)))) (λ z. z)

-- in mode 3 the report shows the status of the command
module _ (d : Device) (ran : Ran) (sync : is_mode 3 d.mode ≡ true) where
  sync_well : (report_of d ran).status ≡ 0 → ran.status ≡ 0
  unfolding report_of
  sync_well e =
      by_bool (eqb ran.status 0) (λ z. eqb-true _ _ z) (λ z. rw (sync, z) at e)

  sync_ill : eqb (report_of d ran).status 0 ≡ false → eqb ran.status 0 ≡ false
  unfolding report_of
  sync_ill e = by_bool (eqb ran.status 0) (λ z. absurd (true≢false (rw (sync, z) at e))) (λ z. z)

module _ (board : Board) (sound : Sound board) (d : Device) (b m₀ m : List ℕ) (w : Work) (f : Form board d) (held : Held d.pending b w) (s : Alike board m₀ m w) where
  action : Action
  action = status_action board (read_protected board w.values) d

  fits : Fits board action
  unfolding action
  fits = status_action_fits board sound (read_protected board w.values) d (well_formed_lem board d f)

  has : take (writes_of action).count b ≡ take (writes_of action).count w.block
  unfolding action status_action action_of
  has =
      by_bool (is_mode 3 d.mode) (λ e. rw e (action_has board b w (read_protected board w.values) d.pointer d.pending held)) (λ e. rw e)

  rests : is_mode 3 d.mode ≡ false → action ≡ Rest
  unfolding action status_action
  rests e = rw e

  -- the board runs the action that was decided for all
  run_acts : run_of board d b m ≡ run (ran_of action d.pointer (performed_of board action b m).status) (performed_of board action b m).memory
  unfolding run_of action
  run_acts = rw (protection_same board sound m₀ m w s)

  -- what running it came to for all
  abbrev ran : Ran
  ran = ran_of action d.pointer (worked_of board action w).status

  acts_well : (report_of d ran).status ≡ 0 → (worked_of board action w).status ≡ 0
  acts_well e = by_bool (is_mode 3 d.mode) (λ y. sync_well d ran y e) (λ y. rw (rests y))

  acts_ill : Zeros board m₀ → eqb (report_of d ran).status 0 ≡ false → (performed_of board action b m).status ≡ (worked_of board action w).status
  acts_ill z e =
      by_bool (is_mode 3 d.mode) (λ y. performs_ill board sound b m₀ m w s z action fits has (sync_ill d ran y e)) (λ y. rw (rests y))

  pub status-goes : (d' : Device) (w' : Work) → status_moves board d w ≡ goes d' w' → Ran' board d b m₀ m w d' w'
  unfolding status_moves action
  status-goes d' w' e =
      let r = reports_zero d d' ran (worked_of board action w).work w' e in
      let well = acts_well r.0 in
      let p = performs_well board sound b m₀ m w s action fits has well in
      let same : (run_of board d b m).ran ≡ ran = ap (λ (x : Run). x.ran) run_acts ∙ ap (ran_of action d.pointer) (p.status ∙ sym well) in
      record {
        report = ap (λ (x : Ran). (report_of d x).status) same ∙ r.0;
        device = ap (after_status d) same ∙ r.1;
        alike = rw (ap (λ (x : Run). x.memory) run_acts, sym r.2) p.alike;
      }

  pub status-falls : Zeros board m₀ → status_moves board d w ≡ falls → eqb (report_of d (run_of board d b m).ran).status 0 ≡ false
  unfolding status_moves action
  status-falls z e =
      let ill = reports-falls d ran (worked_of board action w).work e in
      let same : (run_of board d b m).ran ≡ ran = ap (λ (x : Run). x.ran) run_acts ∙ ap (ran_of action d.pointer) (acts_ill z ill) in
      ap (λ (x : Ran). eqb (report_of d x).status 0) same ∙ ill
