-- What a request does to what is known is what its action does: the one that `action::due` tells beforehand. Assumes nothing.
use mathlib.Core.Path.{◌≡◌, refl}
use mathlib.Core.Bool.{true}
use mathlib.Core.List.{List}
use Prim.Native.Nat.{ℕ}
use lib.Dec.{T, eqb}
use lib.ListN.{drop}
use Rattle.laws.proofs.Split.{by_bool}
use Rattle.board.specs.declared.Board.{Board}
use Rattle.protection.specs.Protection.{read_protected}
use Rattle.request.specs.declared.Setup.{Setup}
use Rattle.request.specs.Setup.{setup_of}
use Rattle.device.specs.declared.Device.{Device}
use Rattle.device.specs.declared.Ran.{Ran}
use Rattle.device.specs.State.{report_of}
use Rattle.command.specs.Command.{command_of}
use Rattle.decision.specs.declared.Decision.{Decision}
use Rattle.decision.specs.declared.Decision.TheVariants as decided
use Rattle.decision.specs.Decide.{decide_of}
use Rattle.access.specs.declared.Access.{Access}
use Rattle.access.specs.declared.Access.TheVariants.{Denied, InFlash, InRam, InOptions}
use Rattle.access.specs.Access.{block_access}
use Rattle.action.specs.Action.{status_action, due_of, ran_of}
use Rattle.line.specs.Event.{request}
use Rattle.marks.specs.Work.{Work, known}
use Rattle.marks.proofs.Known.{blocked-known}
use Rattle.cells.specs.Cells.{worked_of, Moved, falls, goes, reports, status_moves, read_moves, reads_moves, decision_moves, request_moves, moves}

-- the same values, and the same bytes known; only the block may be another
pub record Same (v w : Work) : Type 0 where
  pub values : v.values ≡ w.values
  pub knows : (i : ℕ) → known v i ≡ known w i

-- where all boards go on, they are left so
abbrev Leaves : Moved → Work → Type 0
Leaves falls w = T true
Leaves (goes d v) w = Same v w

module _ (board : Board) (d : Device) (s : Setup) (xs : List ℕ) (w : Work) where
  reports_leave : (ran : Ran) (v : Work) → Leaves (reports d ran v) v
  reports_leave ran v = by_bool (eqb (report_of d ran).status 0) (λ e. rw e (record { values = refl; knows = λ i. refl })) (λ e. rw e tt)

  read_leaves : (access : Access) → Leaves (read_moves access d w) w
  read_leaves (Denied status) = tt
  read_leaves (InFlash at) = record { values = refl; knows = λ i. refl }
  read_leaves (InRam at) = record { values = refl; knows = λ i. refl }
  read_leaves (InOptions at) = record { values = refl; knows = λ i. refl }

  decided_does : (x : Decision) → Leaves (decision_moves x board d s xs w) (worked_of board (due_of board (read_protected board w.values) d x) w).work
  unfolding due_of reads_moves status_moves
  decided_does decided.Silent = tt
  decided_does (decided.Stall next) = tt
  decided_does (decided.Accept next) = record { values = refl; knows = λ i. refl }
  decided_does (decided.Take next) = record { values = refl; knows = λ i. blocked-known _ w i }
  decided_does (decided.Commands next count) = record { values = refl; knows = λ i. refl }
  decided_does decided.Read = read_leaves (block_access board (read_protected board w.values) s.value s.length d.pointer)
  decided_does decided.State = record { values = refl; knows = λ i. refl }
  decided_does decided.Status =
      let action = status_action board (read_protected board w.values) d in
      reports_leave (ran_of action d.pointer (worked_of board action w).status) (worked_of board action w).work

pub request_does_its_action : (board : Board) (d : Device) (q : List ℕ) (w : Work) (d' : Device) (w' : Work) → moves board d w (request q) ≡ goes d' w' → Same w' (worked_of board (due_of board (read_protected board w.values) d (decide_of d (setup_of q) (command_of (drop 8 q)))) w).work
unfolding moves request_moves
request_does_its_action board d q w d' w' e = go (moves board d w (request q)) e (decided_does board d (setup_of q) (drop 8 q) w (decide_of d (setup_of q) (command_of (drop 8 q))))
  where
    go : (v : Moved) → v ≡ goes d' w' → Leaves v (worked_of board (due_of board (read_protected board w.values) d (decide_of d (setup_of q) (command_of (drop 8 q)))) w).work → Same w' (worked_of board (due_of board (read_protected board w.values) d (decide_of d (setup_of q) (command_of (drop 8 q)))) w).work
    go v i g = rw i at g
