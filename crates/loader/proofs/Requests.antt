-- Laws of `run_of`, `status_of`, `uploaded_of` and `serve_of`, in the terms in which the code meets them. Assumes nothing.
use mathlib.Core.Path.{◌≡◌, ap, ◌∙◌}
use mathlib.Core.Bool.{Bool, true, false}
use mathlib.Core.List.{List}
use Prim.Native.Nat.{ℕ, ◌+◌, ◌-◌, ◌≤◌}
use native.Mathlib.Omega.{arith}
use lib.ListN.{length, take, drop}
use Rattle.laws.specs.Bytes.{put}
use Rattle.laws.proofs.Bytes.{rest_is, take_at_most}
use Rattle.board.specs.declared.Board.{Board}
use Rattle.board.specs.Sound.{Sound}
use Rattle.protection.specs.Protection.{read_protected}
use Rattle.request.specs.declared.Setup.{Setup}
use Rattle.request.specs.Request.{transfer_bytes}
use Rattle.request.specs.Setup.{setup_of, data_length, fits_of}
use Rattle.request.proofs.Lengths.{fits_data, data_at_most}
use Rattle.device.specs.declared.Device.{Device}
use Rattle.device.specs.declared.Ran.{Ran}
use Rattle.device.specs.declared.Report.{Report}
use Rattle.mode.specs.Wire.{is_mode}
use Rattle.device.specs.State.{after_status, report_of}
use Rattle.command.specs.declared.Command.{Command}
use Rattle.decision.specs.declared.Decision.{Decision}
use Rattle.decision.specs.declared.Decision.TheVariants.{Read}
use Rattle.command.specs.Command.{command_of}
use Rattle.decision.specs.Decide.{decide_of}
use Rattle.access.specs.declared.Access.{Access}
use Rattle.action.specs.declared.Action.{Action}
use Rattle.action.specs.declared.Action.TheVariants.{Rest}
use Rattle.access.specs.Access.{block_access}
use Rattle.action.specs.Action.{action_of, status_action, ran_of}
use Rattle.access.proofs.Spans.{Reached, block_granted, granted_reached}
use Rattle.perform.specs.Perform.{Performed, performed, performed_of}
use Rattle.loader.specs.declared.Answer.TheVariants.{Reply}
use Rattle.loader.specs.Answer.{outcome}
use Rattle.loader.specs.Serve.{Run, run, run_of, status_bytes, reported, status_of, read_at, uploaded_of, acted_of, serve_of}

-- nothing runs outside mode 3
pub run_rests : (board : Board) (d : Device) (b m : List ℕ) (ran : Ran) → is_mode 3 d.mode ≡ false → ran ≡ ran_of Rest d.pointer 0 → run ran m ≡ run_of board d b m
unfolding run_of status_action
run_rests board d b m ran h r = rw (r, h)

-- in mode 3 the action of the pending command does
pub run-performs : (board : Board) (d : Device) (b m m' : List ℕ) (protected : Bool) (action : Action) (status : ℕ) (ran : Ran) → is_mode 3 d.mode ≡ true → protected ≡ read_protected board m → action ≡ action_of board protected d → performed status m' ≡ performed_of board action b m → ran ≡ ran_of action d.pointer status → run ran m' ≡ run_of board d b m
unfolding run_of status_action
run-performs board d b m m' protected action status ran w p a f r =
    rw (w, ← p, ← a, r) (ap (λ (x : Performed). run (ran_of action d.pointer x.status) x.memory) f)

pub status_is : (board : Board) (d d' : Device) (m m' b y y' : List ℕ) (ran : Ran) (report : Report) → run ran m' ≡ run_of board d b m → report ≡ report_of d ran → y' ≡ put 0 (status_bytes report) y → d' ≡ after_status d ran → outcome (Reply 6) d' m' b y' ≡ status_of board d m b y
unfolding status_of
status_is board d d' m m' b y y' ran report r t w s = rw (w, t, s) (ap (λ (x : Run). reported x d b y) r)

-- x is the access that was found
pub read_is : (board : Board) (d : Device) (s : Setup) (m b y : List ℕ) (protected : Bool) (access x : Access) → protected ≡ read_protected board m → access ≡ block_access board protected s.value s.length d.pointer → access ≡ x → read_at x s.length d m b y ≡ uploaded_of board d s m b y
unfolding uploaded_of
read_is board d s m b y protected access x p e t = rw (← t, e, p)

pub read_reached : (board : Board) → Sound board → (protected : Bool) (block count pointer : ℕ) (access x : Access) → access ≡ block_access board protected block count pointer → access ≡ x → Reached board count x
read_reached board sound protected block count pointer access x e t = rw (← t, e) (granted_reached board sound count (block_access board protected block count pointer) (block_granted board sound protected block count pointer))

-- x is the decision that was made
module _ (board : Board) (d : Device) (q m b y : List ℕ) (setup : Setup) (command : Command) (decision x : Decision) where
  pub serve_is : setup ≡ setup_of q → command ≡ command_of (take (length q - 8) (drop 8 q)) → decision ≡ decide_of d setup command → decision ≡ x → acted_of x board d q m b y ≡ serve_of board d q m b y
  unfolding serve_of
  serve_is s k e t = rw (← t, e, k, s, rest_is 8 q)

-- memory is read by the setup that was taken from the request
pub serve_reads : (board : Board) (d : Device) (q m b y : List ℕ) (setup : Setup) (command : Command) (decision : Decision) → setup ≡ setup_of q → command ≡ command_of (take (length q - 8) (drop 8 q)) → decision ≡ decide_of d setup command → decision ≡ Read → uploaded_of board d setup m b y ≡ serve_of board d q m b y
serve_reads board d q m b y setup command decision s k e t =
    ap (λ (x : Setup). uploaded_of board d x m b y) s ∙ serve_is board d q m b y setup command decision Read s k e t

-- the data stage is no longer than what the setup allows
pub stage_short : (q : List ℕ) (setup : Setup) → setup ≡ setup_of q → fits_of q ≡ true → setup.length ≤ transfer_bytes → 0 + length (take (length q - 8) (drop 8 q)) ≤ transfer_bytes
stage_short q setup s f h =
    let data-most : data_length setup ≤ setup.length = data_at_most setup in
    let all : length q ≡ 8 + data_length setup = fits_data q f ∙ rw (← s) in
    omega (arith, take_at_most (length q - 8) (drop 8 q))
