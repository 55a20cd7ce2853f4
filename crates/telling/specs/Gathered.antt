-- What is gathered to explain a verdict: no rule of the paper. Assumes nothing.
use Rattle.std.specs.Prelude.{Bool, true, false, cond, List, ℕ, Ok}
use Rattle.refusal.specs.Delivery.{Delivery, delivery}
use Rattle.job.specs.Calls.{read_of}
use Rattle.verdict.specs.declared.Verdict.{Verdict}
use Rattle.verdict.specs.declared.Verdict.TheVariants.{Pass, Event, End, Flash, Refused}

-- a verdict that is explained without a board that lives through the job
abbrev pub told_at_once : Verdict → Bool
told_at_once Pass = true
told_at_once (Event k) = false
told_at_once (End c) = false
told_at_once (Flash f) = false
told_at_once (Refused r) = true

-- nothing, and the room as it was; or what the reader makes of the job
unfoldable pub gathered_of : Verdict → List ℕ → List ℕ → Delivery
gathered_of v job room = cond (told_at_once v) (delivery (Ok 0) room) (read_of job room)
