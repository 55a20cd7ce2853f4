-- A step from a well-formed state leads to one. Assumes nothing.
use mathlib.Core.Path.{refl}
use mathlib.Core.List.{List}
use Prim.Native.Nat.{ℕ}
use lib.ListN.{drop}
use Rattle.std.specs.Prelude.{⊤, Result, Ok, Err}
use Rattle.board.specs.declared.Board.{Board}
use Rattle.board.specs.Sound.{Sound}
use Rattle.protection.specs.Protection.{read_protected}
use Rattle.request.specs.Setup.{setup_of}
use Rattle.mode.specs.declared.Mode.TheVariants.{UploadIdle}
use Rattle.device.specs.declared.Device.{Device}
use Rattle.states.proofs.Form.{Form, Sane, Calm, started-form, stalled-form, entered-form, after-status-form}
use Rattle.decision.specs.declared.Decision.{Decision}
use Rattle.decision.specs.declared.Decision.TheVariants as decided
use Rattle.command.specs.Command.{command_of}
use Rattle.decision.specs.Decide.{decide_of}
use Rattle.decision.proofs.Form.{Formed, decide_formed}
use Rattle.access.specs.declared.Access.{Access}
use Rattle.access.specs.declared.Access.TheVariants.{Denied, InFlash, InRam, InOptions}
use Rattle.access.specs.Access.{block_access}
use Rattle.action.proofs.Denials.{Refusing, block_refusing}
use Rattle.action.proofs.Proper.{status_action_proper}
use Rattle.action.specs.Action.{status_action}
use Rattle.perform.proofs.Sane.{performed_sane}
use Rattle.loader.specs.declared.Event.{Event}
use Rattle.loader.specs.declared.Event.TheVariants as event
use Rattle.loader.specs.Serve.{run_of, status_of, read_at, uploaded_of, acted_of, serve_of}
use Rattle.loader.specs.Step.{sizes_of, admitted_of, steps, step_of}
use Rattle.refusal.specs.declared.Refusal.{Refusal}

module _ (board : Board) (d : Device) (m b y : List ℕ) (f : Form board d) where
  run_sane : Sane board (run_of board d b m).ran
  unfolding run_of
  run_sane =
      performed_sane board d.pointer b m f.pointer (status_action board (read_protected board m) d) (status_action_proper board (read_protected board m) d)

  status-form : Form board (status_of board d m b y).device
  unfolding status_of
  status-form = after-status-form board d (run_of board d b m).ran f run_sane

  read_at_form : (access : Access) (count : ℕ) → Refusing access → Calm d.mode → Form board (read_at access count d m b y).device
  read_at_form (Denied status) count r c = stalled-form board d f status r
  read_at_form (InFlash at) count r c = entered-form board d f UploadIdle c (record { sync = refl; error = refl })
  read_at_form (InRam at) count r c = entered-form board d f UploadIdle c (record { sync = refl; error = refl })
  read_at_form (InOptions at) count r c = entered-form board d f UploadIdle c (record { sync = refl; error = refl })

  acted_form : (decision : Decision) (q : List ℕ) → Formed board d decision → Form board (acted_of decision board d q m b y).device
  unfolding uploaded_of
  acted_form decided.Silent q h = f
  acted_form (decided.Stall next) q h = h
  acted_form (decided.Accept next) q h = h
  acted_form (decided.Take next) q h = h
  acted_form (decided.Commands next count) q h = h
  acted_form decided.Read q h = read_at_form (block_access board (read_protected board m) _ _ _) (setup_of q).length (block_refusing _ _ _ _ _) h
  acted_form decided.State q h = f
  acted_form decided.Status q h = status-form

  serve_form : (q : List ℕ) → Form board (serve_of board d q m b y).device
  unfolding serve_of
  serve_form q = acted_form (decide_of d (setup_of q) (command_of (drop 8 q))) q (decide_formed board d f (setup_of q) (command_of (drop 8 q)))

pub step_form : (board : Board) → Sound board → (d : Device) (e : Event) (q m b y : List ℕ) → Form board d → Form board (step_of board d e q m b y).device
unfolding step_of
step_form board sound d e q m b y f = go (admitted_of board d e q (sizes_of m b y)) e
  where
    go : (a : Result ⊤ Refusal) (e : Event) → Form board (steps a e board d q m b y).device
    go (Ok _) event.Attach = started-form board sound
    go (Ok _) event.Request = serve_form board d m b y f q
    go (Err r) e = f
