-- One event. Document 01, "Events" and the rows of "Refusal numbers" that name step. Assumes nothing.
use Rattle.std.specs.Prelude.{Bool, false, not, List, [], ◌∷◌, ℕ, eqb, length, ⊤, Result, Ok, Err}
use Rattle.board.specs.declared.Board.{Board}
use Rattle.board.specs.Layout.{memory_bytes}
use Rattle.refusal.specs.declared.Refusal.{Refusal}
use Rattle.refusal.specs.declared.Refusal.TheVariants as refusal
use Rattle.refusal.specs.Order.{first_of}
use Rattle.request.specs.Request.{transfer_bytes}
use Rattle.request.specs.Setup.{fits_of}
use Rattle.device.specs.declared.Device.{Device}
use Rattle.device.specs.State.{started}
use Rattle.states.specs.WellFormed.{well_formed}
use Rattle.loader.specs.declared.Event.{Event}
use Rattle.loader.specs.declared.Event.TheVariants as event
use Rattle.loader.specs.declared.Answer.TheVariants.{Accepted, Refused}
use Rattle.loader.specs.declared.Sizes.{Sizes}
use Rattle.loader.specs.Answer.{Outcome, outcome}
use Rattle.loader.specs.Serve.{serve_of}

-- row 5, which is of requests alone: "request under 8 bytes, or wrong data length"
abbrev pub misfits : Event → List ℕ → Bool
misfits event.Attach q = false
misfits event.Request q = not (fits_of q)

-- rows 1 to 5
abbrev pub step_refusals : Board → Device → Event → List ℕ → Sizes → List (Refusal × Bool)
step_refusals board d e q s =
    (refusal.Memory, not (eqb s.memory (memory_bytes board)))
    ∷ (refusal.Block, not (eqb s.block transfer_bytes))
    ∷ (refusal.Reply, not (eqb s.reply transfer_bytes))
    ∷ (refusal.State, not (well_formed board d))
    ∷ (refusal.Request, misfits e q)
    ∷ []

-- the first of them
unfoldable pub admitted_of : Board → Device → Event → List ℕ → Sizes → Result ⊤ Refusal
admitted_of board d e q s = first_of (step_refusals board d e q s)

-- "Attach .. its answer is Accepted and all buffers stay", or a request
abbrev pub happens : Event → Board → Device → List ℕ → List ℕ → List ℕ → List ℕ → Outcome
happens event.Attach board d q m b y = outcome Accepted (started board) m b y
happens event.Request board d q m b y = serve_of board d q m b y

-- "A refusal leaves state and every buffer unchanged"
abbrev pub steps : Result ⊤ Refusal → Event → Board → Device → List ℕ → List ℕ → List ℕ → List ℕ → Outcome
steps (Ok _) e board d q m b y = happens e board d q m b y
steps (Err r) e board d q m b y = outcome (Refused r) d m b y

-- the lengths of the three buffers
abbrev pub sizes_of : List ℕ → List ℕ → List ℕ → Sizes
sizes_of m b y = record { memory = length m; block = length b; reply = length y }

-- an event e on a board, with the device d, the request q, the memory m, the block buffer b and the reply buffer y
unfoldable pub step_of : Board → Device → Event → List ℕ → List ℕ → List ℕ → List ℕ → Outcome
step_of board d e q m b y = steps (admitted_of board d e q (sizes_of m b y)) e board d q m b y
