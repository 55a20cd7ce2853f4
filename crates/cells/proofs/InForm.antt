-- An event on every board leads from a well-formed state to one. Assumes nothing.
use mathlib.Core.Path.{◌≡◌, refl}
use mathlib.Core.Bool.{true}
use mathlib.Core.List.{List}
use Prim.Native.Nat.{ℕ}
use lib.Dec.{T, eqb}
use lib.ListN.{drop}
use Rattle.laws.proofs.Split.{by_bool}
use Rattle.board.specs.Sound.{Sound}
use Rattle.protection.specs.Protection.{read_protected, word_of}
use Rattle.request.specs.declared.Setup.{Setup}
use Rattle.request.specs.Setup.{setup_of}
use Rattle.mode.specs.declared.Mode.TheVariants.{UploadIdle}
use Rattle.device.specs.declared.Device.{Device}
use Rattle.device.specs.declared.Ran.{Ran}
use Rattle.device.specs.State.{report_of}
use Rattle.states.specs.WellFormed.{in_region}
use Rattle.states.proofs.Form.{Form, Sane, Calm, started-form, entered-form, after-status-form}
use Rattle.decision.specs.declared.Decision.{Decision}
use Rattle.decision.specs.declared.Decision.TheVariants as decided
use Rattle.command.specs.Command.{command_of}
use Rattle.decision.specs.Decide.{decide_of}
use Rattle.decision.proofs.Form.{Formed, decide_formed}
use Rattle.access.specs.declared.Access.{Access}
use Rattle.access.specs.declared.Access.TheVariants.{Denied, InFlash, InRam, InOptions}
use Rattle.action.specs.declared.Action.{Action}
use Rattle.action.specs.declared.Action.TheVariants.{Rest, Fail, Point, Erase, EraseAll, Unprotect, ClearRam, StoreFlash, StoreRam, StoreOptions}
use Rattle.access.specs.Access.{block_access}
use Rattle.action.specs.Action.{status_action, ran_of}
use Rattle.action.proofs.Proper.{Proper, status_action_proper, went_well}
use Rattle.line.specs.Event.{Event, attach, request}
use Rattle.marks.specs.Work.{Work}
use Rattle.cells.specs.Cells.{surely, worked_of, Moved, falls, goes, reports, status_moves, read_moves, reads_moves, decision_moves, request_moves, moves}
use Rattle.board.specs.declared.Board.{Board}

-- where all boards go on, their device is well formed
abbrev InForm : Board → Moved → Type 0
InForm board falls = T true
InForm board (goes d w) = Form board d

module _ (board : Board) (pointer : ℕ) (w : Work) (p : in_region board pointer ≡ true) where
  worked_sane : (action : Action) → Proper board action → Sane board (ran_of action pointer (worked_of board action w).status)
  worked_sane Rest h = went_well board pointer Rest p
  worked_sane (Fail status) h = record { well = λ e. p; ill = λ e. h }
  worked_sane (Point address) h = went_well board pointer (Point address) h
  worked_sane (Erase page) h = went_well board pointer (Erase page) p
  worked_sane EraseAll h = went_well board pointer EraseAll p
  worked_sane Unprotect h = went_well board pointer Unprotect p
  worked_sane ClearRam h = went_well board pointer ClearRam p
  worked_sane (StoreFlash at count) h =
      by_bool (surely board (word_of board w.values) at count w) (λ e. rw e (went_well board pointer (StoreFlash at count) p))
      (λ e. rw e (record { well = λ z. p; ill = λ z. refl }))
  worked_sane (StoreRam at count) h = went_well board pointer (StoreRam at count) p
  worked_sane (StoreOptions at count) h = went_well board pointer (StoreOptions at count) p

module _ (board : Board) (d : Device) (f : Form board d) where
  reports_in_form : (ran : Ran) (w : Work) → Sane board ran → InForm board (reports d ran w)
  reports_in_form ran w s =
      by_bool (eqb (report_of d ran).status 0) (λ e. rw e (after-status-form board d ran f s)) (λ e. rw e tt)

  status_in_form : (w : Work) → InForm board (status_moves board d w)
  unfolding status_moves
  status_in_form w =
      let action = status_action board (read_protected board w.values) d in
      reports_in_form (ran_of action d.pointer (worked_of board action w).status) (worked_of board action w).work
      (worked_sane board d.pointer w f.pointer action (status_action_proper board (read_protected board w.values) d))

  read_in_form : (access : Access) (w : Work) → Calm d.mode → InForm board (read_moves access d w)
  read_in_form (Denied status) w c = tt
  read_in_form (InFlash at) w c = entered-form board d f UploadIdle c (record { sync = refl; error = refl })
  read_in_form (InRam at) w c = entered-form board d f UploadIdle c (record { sync = refl; error = refl })
  read_in_form (InOptions at) w c = entered-form board d f UploadIdle c (record { sync = refl; error = refl })

  decision_in_form : (decision : Decision) (s : Setup) (xs : List ℕ) (w : Work) → Formed board d decision → InForm board (decision_moves decision board d s xs w)
  unfolding reads_moves
  decision_in_form decided.Silent s xs w h = tt
  decision_in_form (decided.Stall next) s xs w h = tt
  decision_in_form (decided.Accept next) s xs w h = h
  decision_in_form (decided.Take next) s xs w h = h
  decision_in_form (decided.Commands next count) s xs w h = h
  decision_in_form decided.Read s xs w h = read_in_form (block_access board (read_protected board w.values) s.value s.length d.pointer) w h
  decision_in_form decided.State s xs w h = f
  decision_in_form decided.Status s xs w h = status_in_form w

  request_in_form : (s : Setup) (xs : List ℕ) (w : Work) → InForm board (request_moves board d s xs w)
  unfolding request_moves
  request_in_form s xs w = decision_in_form (decide_of d s (command_of xs)) s xs w (decide_formed board d f s (command_of xs))

  moves_in_form : (e : Event) (w : Work) → Sound board → InForm board (moves board d w e)
  unfolding moves
  moves_in_form attach w h = started-form board h
  moves_in_form (request q) w h = request_in_form (setup_of q) (drop 8 q) w

pub moves-form : (board : Board) (d : Device) (w : Work) (e : Event) (d' : Device) (w' : Work) → Sound board → Form board d → moves board d w e ≡ goes d' w' → Form board d'
moves-form board d w e d' w' some f h = go (moves board d w e) h (moves_in_form board d f e w some)
  where
    go : (v : Moved) → v ≡ goes d' w' → InForm board v → Form board d'
    go v i g = rw i at g
