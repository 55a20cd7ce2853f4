-- The call: its refusals, then its verdict. Document 01, "Refusal numbers", rows that name the checker. Assumes nothing.
use Rattle.std.specs.Prelude.{◌≡◌, Bool, not, List, ◌∷◌, ◌++◌, ℕ, eqb, length, ⊤, Result, Ok, Err}
use Rattle.refusal.specs.declared.Refusal.{Refusal}
use Rattle.refusal.specs.declared.Refusal.TheVariants.{Work}
use Rattle.refusal.specs.Order.{first_of}
use Rattle.board.specs.declared.Board.{Board}
use Rattle.board.specs.Supply.{supply_refusals}
use Rattle.marks.specs.Area.{work_bytes}
use Rattle.text.specs.Text.{events_of}
use Rattle.job.specs.Calls.{text_refusals}
use Rattle.verdict.specs.declared.Verdict.{Verdict}
use Rattle.verdict.specs.declared.Verdict.TheVariants as verdict
use Rattle.demand.specs.Verdict.{Judged}
use Rattle.verdict.specs.Report.{Fields, in_fields}

-- rows 6 to 10, for the text t and the lengths of image, card and work area
abbrev pub check_refusals : Board → List ℕ → ℕ → ℕ → ℕ → List (Refusal × Bool)
check_refusals board t image card work = (Work, not (eqb work (work_bytes board))) ∷ (supply_refusals board image card ++ text_refusals t)

-- the first of them
unfoldable pub checkable : Board → List ℕ → ℕ → ℕ → ℕ → Result ⊤ Refusal
checkable board t image card work = first_of (check_refusals board t image card work)

-- "A refusal leaves state and every buffer unchanged"; otherwise the fields are those of the verdict on the text's events
abbrev pub Ruled : Result ⊤ Refusal → Board → List ℕ → List ℕ → List ℕ → List ℕ → Fields → List ℕ → Type 0
Ruled (Ok _) board t image card w f w' = (v : Verdict) × (f ≡ in_fields v) × Judged board (events_of t) image card v
Ruled (Err r) board t image card w f w' = (f ≡ in_fields (verdict.Refused r)) × (w' ≡ w)

-- what a check of the text t answers, by the fields of its report line, and how it leaves the work area w
abbrev pub Checked : Board → List ℕ → List ℕ → List ℕ → List ℕ → Fields → List ℕ → Type 0
Checked board t image card w f w' = Ruled (checkable board t (length image) (length card) (length w)) board t image card w f w'
