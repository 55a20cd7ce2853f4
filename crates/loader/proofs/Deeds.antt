-- What a request does to memory is what its action does: the one that `action::due` tells beforehand, by value. Assumes nothing.
use mathlib.Core.Path.{◌≡◌, refl}
use mathlib.Core.List.{List}
use Prim.Native.Nat.{ℕ}
use lib.ListN.{drop}
use Rattle.std.specs.Prelude.{Ok}
use Rattle.board.specs.declared.Board.{Board}
use Rattle.protection.specs.Protection.{read_protected}
use Rattle.request.specs.Setup.{setup_of}
use Rattle.device.specs.declared.Device.{Device}
use Rattle.command.specs.Command.{command_of}
use Rattle.decision.specs.declared.Decision.{Decision}
use Rattle.decision.specs.declared.Decision.TheVariants as decided
use Rattle.decision.specs.Decide.{decide_of}
use Rattle.access.specs.declared.Access.{Access}
use Rattle.access.specs.declared.Access.TheVariants.{Denied, InFlash, InRam, InOptions}
use Rattle.access.specs.Access.{block_access}
use Rattle.action.specs.declared.Action.{Action}
use Rattle.action.specs.Action.{due_of}
use Rattle.perform.specs.Perform.{performed_of}
use Rattle.loader.specs.declared.Event.TheVariants as event
use Rattle.loader.specs.Serve.{run_of, status_of, read_at, uploaded_of, acted_of, serve_of}
use Rattle.loader.specs.Step.{sizes_of, admitted_of, step_of}

module _ (board : Board) (d : Device) (q m b y : List ℕ) where
  read_keeps : (access : Access) (count : ℕ) → (read_at access count d m b y).memory ≡ m
  read_keeps (Denied status) count = refl
  read_keeps (InFlash at) count = refl
  read_keeps (InRam at) count = refl
  read_keeps (InOptions at) count = refl

  decided_does : (x : Decision) → (acted_of x board d q m b y).memory ≡ (performed_of board (due_of board (read_protected board m) d x) b m).memory
  unfolding due_of uploaded_of status_of run_of
  decided_does decided.Silent = refl
  decided_does (decided.Stall next) = refl
  decided_does (decided.Accept next) = refl
  decided_does (decided.Take next) = refl
  decided_does (decided.Commands next count) = refl
  decided_does decided.Read = read_keeps (block_access board (read_protected board m) (setup_of q).value (setup_of q).length d.pointer) (setup_of q).length
  decided_does decided.State = refl
  decided_does decided.Status = refl

  -- the action of the request q
  abbrev pub due : Action
  due = due_of board (read_protected board m) d (decide_of d (setup_of q) (command_of (drop 8 q)))

  pub request_does_its_action : (serve_of board d q m b y).memory ≡ (performed_of board due b m).memory
  unfolding serve_of
  request_does_its_action = decided_does (decide_of d (setup_of q) (command_of (drop 8 q)))

  -- and so does a step that no refusal stops
  pub step_does_its_action : admitted_of board d event.Request q (sizes_of m b y) ≡ Ok tt → (step_of board d event.Request q m b y).memory ≡ (performed_of board due b m).memory
  unfolding step_of
  step_does_its_action a = rw a request_does_its_action
