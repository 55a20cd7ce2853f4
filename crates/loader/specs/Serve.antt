-- A request that a loader in order takes. Document 01, "Events", "GETSTATUS", "UPLOAD". Assumes nothing.
use Rattle.std.specs.Prelude.{cond, List, [], ◌∷◌, ℕ, eqb, take, drop}
use Rattle.laws.specs.Bytes.{put}
use Rattle.board.specs.declared.Board.{Board}
use Rattle.protection.specs.Protection.{read_protected}
use Rattle.request.specs.declared.Setup.{Setup}
use Rattle.request.specs.Setup.{setup_of}
use Rattle.device.specs.declared.Device.{Device}
use Rattle.mode.specs.declared.Mode.TheVariants.{UploadIdle}
use Rattle.device.specs.declared.Ran.{Ran}
use Rattle.device.specs.declared.Report.{Report}
use Rattle.mode.specs.Wire.{wire_of}
use Rattle.device.specs.State.{entered, stalled, after_status, report_of}
use Rattle.decision.specs.declared.Decision.{Decision}
use Rattle.decision.specs.declared.Decision.TheVariants as decided
use Rattle.command.specs.Command.{command_of}
use Rattle.decision.specs.Decide.{decide_of}
use Rattle.access.specs.declared.Access.{Access}
use Rattle.access.specs.declared.Access.TheVariants.{Denied, InFlash, InRam, InOptions}
use Rattle.action.specs.declared.Action.{Action}
use Rattle.access.specs.Access.{block_access}
use Rattle.action.specs.Action.{status_action, ran_of}
use Rattle.perform.specs.Perform.{performed_of}
use Rattle.loader.specs.declared.Answer.TheVariants.{Accepted, Reply, Stall, Silent}
use Rattle.loader.specs.Answer.{Outcome, outcome}

-- "The poll time is 100 when mode 4 is reported, else 0"
abbrev pub poll_of : ℕ → ℕ
poll_of state = cond (eqb state 4) 100 0

-- "GETSTATUS replies status, poll time (three bytes, low first), mode, 0"
abbrev pub status_bytes : Report → List ℕ
status_bytes report = report.status ∷ poll_of report.state ∷ 0 ∷ 0 ∷ report.state ∷ 0 ∷ []

-- what the pending command came to, and the memory after it
pub record Run : Type 0 where
  pub ran : Ran
  pub memory : List ℕ

-- the two in one
abbrev pub run : Ran → List ℕ → Run
run r m = record { ran = r; memory = m }

-- an action, run on memory m
abbrev pub performs : Board → Action → Device → List ℕ → List ℕ → Run
performs board action d b m = run (ran_of action d.pointer (performed_of board action b m).status) (performed_of board action b m).memory

-- "the command runs first"
unfoldable pub run_of : Board → Device → List ℕ → List ℕ → Run
run_of board d b m = performs board (status_action board (read_protected board m) d) d b m

-- "GETSTATUS", r being what ran
abbrev pub reported : Run → Device → List ℕ → List ℕ → Outcome
reported r d b y = outcome (Reply 6) (after_status d r.ran) r.memory b (put 0 (status_bytes (report_of d r.ran)) y)

-- "GETSTATUS" in any mode
unfoldable pub status_of : Board → Device → List ℕ → List ℕ → List ℕ → Outcome
status_of board d m b y = reported (run_of board d b m) d b y

-- "UPLOAD": memory from place `at` on
abbrev pub sent_of : ℕ → ℕ → Device → List ℕ → List ℕ → List ℕ → Outcome
sent_of at count d m b y = outcome (Reply count) (entered d UploadIdle) m b (put 0 (take count (drop at m)) y)

-- "From 2 on it reads memory and enters mode 9; its errors are Stalls with the status below"
abbrev pub read_at : Access → ℕ → Device → List ℕ → List ℕ → List ℕ → Outcome
read_at (Denied status) count d m b y = outcome Stall (stalled d status) m b y
read_at (InFlash at) count d m b y = sent_of at count d m b y
read_at (InRam at) count d m b y = sent_of at count d m b y
read_at (InOptions at) count d m b y = sent_of at count d m b y

-- "UPLOAD" of memory, with the block address and the checks
unfoldable pub uploaded_of : Board → Device → Setup → List ℕ → List ℕ → List ℕ → Outcome
uploaded_of board d s m b y = read_at (block_access board (read_protected board m) s.value s.length d.pointer) s.length d m b y

-- "00 21 41 92"
abbrev pub command_codes : List ℕ
command_codes = 0x00 ∷ 0x21 ∷ 0x41 ∷ 0x92 ∷ []

-- what a decision comes to; q is the request, and "the data stage is the part of the event after its eighth byte"
abbrev pub acted_of : Decision → Board → Device → List ℕ → List ℕ → List ℕ → List ℕ → Outcome
acted_of decided.Silent board d q m b y = outcome Silent d m b y
acted_of (decided.Stall next) board d q m b y = outcome Stall next m b y
acted_of (decided.Accept next) board d q m b y = outcome Accepted next m b y
acted_of (decided.Take next) board d q m b y = outcome Accepted next m (put 0 (drop 8 q) b) y
acted_of (decided.Commands next count) board d q m b y = outcome (Reply count) next m b (put 0 (take count command_codes) y)
acted_of decided.Read board d q m b y = uploaded_of board d (setup_of q) m b y
acted_of decided.State board d q m b y = outcome (Reply 1) d m b (put 0 (wire_of d.mode ∷ []) y)
acted_of decided.Status board d q m b y = status_of board d m b y

-- "Events": a request
unfoldable pub serve_of : Board → Device → List ℕ → List ℕ → List ℕ → List ℕ → Outcome
serve_of board d q m b y = acted_of (decide_of d (setup_of q) (command_of (drop 8 q))) board d q m b y
