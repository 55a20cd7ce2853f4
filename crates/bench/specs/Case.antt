-- What a bench case does, and what is found then. Document 01, "Bench cases". Assumes nothing.
use Rattle.std.specs.Prelude.{List, [], ◌∷◌, ◌++◌, map, ℕ, take, get_or, replicate}
use Rattle.laws.specs.Bytes.{put, filled}
use Rattle.board.specs.Layout.{logger, flash_pages, page_bytes, page_offset, flash_bytes, flash_first, flash_from, ram_first, ram_bytes, ram_from, options_first, options_from, memory_bytes, page_at}
use Rattle.board.specs.Memory.{options_of}
use Rattle.board.specs.Span.{spans, place_of}
use Rattle.protection.specs.Protection.{locked_from, word_from, read_protected, word_of, write_protected}
use Rattle.request.specs.Request.{transfer_bytes, outward_of, inward_of, request_of}
use Rattle.request.specs.Setup.{setup_of, data_length, fits_of}
use Rattle.mode.specs.declared.Mode.{Mode}
use Rattle.mode.specs.Table.{allowed_of}
use Rattle.device.specs.State.{started, after_status, report_of}
use Rattle.states.specs.WellFormed.{in_region, well_formed}
use Rattle.command.specs.Command.{command_of}
use Rattle.decision.specs.Decide.{commanded_of, download_of, upload_of, decide_of}
use Rattle.access.specs.Access.{block_address, access_of, block_access}
use Rattle.action.specs.Action.{action_of, status_action}
use Rattle.flash.specs.Flash.{each, blank, laid, stored, erased}
use Rattle.loader.specs.declared.Event.TheVariants as event
use Rattle.loader.specs.Answer.{Outcome}
use Rattle.loader.specs.Serve.{run_of, status_of, uploaded_of, serve_of}
use Rattle.loader.specs.Step.{admitted_of, step_of}
use Rattle.refusal.specs.Order.{first_of}
use Rattle.line.specs.Event.{Event}
use Rattle.verdict.specs.declared.Verdict.{Verdict}
use Rattle.demand.specs.Verdict.{end_fails}
use Rattle.marks.specs.Area.{work_bytes}
use Rattle.marks.specs.Work.{work_of}
use Rattle.judgement.specs.Judgement.{over_of, lowest_from, end_number, end_verdict, verdict_of}

-- compute the address of a block, by wValue and pointer; make requests of a board with this memory; check a job, for an image and a card
pub data Deed : Type 0 where
  locate : ℕ → ℕ → Deed
  ask : List (List ℕ) → List ℕ → Deed
  check : List Event → List ℕ → List ℕ → Deed

-- an address; the last answer with the bytes replied, the status, the mode, and all of memory; a verdict
pub data Finding : Type 0 where
  address : ℕ → Finding
  state : List ℕ → ℕ → Mode → List ℕ → Finding
  judgement : Verdict → Finding

-- a board with the memory m, just attached: in mode 2, its pointer at 0x08000000
abbrev pub attached : List ℕ → Outcome
attached m = step_of logger (started logger) event.Attach [] m (replicate transfer_bytes 0x11) (replicate transfer_bytes 0x22)

-- requests, one after the other
abbrev pub asked : List (List ℕ) → Outcome → Outcome
asked [] o = o
asked (q ∷ qs) o = asked qs (step_of logger o.device event.Request q o.memory o.block o.reply)

-- what there is to see of an outcome
abbrev pub state_of : Outcome → Finding
state_of o = state (o.answer ++ take (get_or o.answer 1 0) o.reply) o.device.status o.device.mode o.memory

-- what a deed comes to: by the promises' own definitions, and by `verdict_of`, which the law `judged` ties to the promised verdict
unfoldable pub found : Deed → Finding
unfolding put filled flash_pages page_bytes page_offset flash_bytes flash_first flash_from ram_first ram_bytes ram_from options_first options_from memory_bytes page_at options_of spans place_of locked_from word_from read_protected word_of write_protected outward_of inward_of request_of setup_of data_length fits_of allowed_of after_status report_of in_region well_formed command_of commanded_of download_of upload_of decide_of block_address access_of block_access action_of status_action each blank laid stored erased run_of status_of uploaded_of serve_of first_of admitted_of step_of over_of end_fails lowest_from end_number end_verdict verdict_of
found (locate value pointer) = address (block_address transfer_bytes value pointer)
found (ask qs m) = state_of (asked qs (attached m))
found (check es image card) = judgement (verdict_of logger es image card (work_of logger (replicate (work_bytes logger) 0)))

-- a deed, and what is to be found then
pub record Check : Type 0 where
  pub deed : Deed
  pub finding : Finding

infix 70 ◌⇒◌
-- a deed with what it has to come to
abbrev pub ◌⇒◌ : Deed → Finding → Check
d ⇒ f = record { deed = d; finding = f }

-- a case: a check, or several where it has parts
abbrev pub Case : Type 0
Case = List Check

-- what is found in a case
abbrev pub found_in : Case → List Finding
found_in checks = map (λ (c : Check). found c.deed) checks

-- and what is expected there
abbrev pub expected_in : Case → List Finding
expected_in checks = map (λ (c : Check). c.finding) checks
