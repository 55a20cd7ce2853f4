-- The call from end to end: its refusals, and the verdict of what they let through. Assumes nothing.
use mathlib.Core.Path.{◌≡◌, refl, ap, ◌∙◌, sym}
use mathlib.Core.Bool.{true}
use mathlib.Core.List.{List, [], ◌∷◌}
use Prim.Native.Nat.{ℕ}
use lib.ListN.{length}
use Rattle.std.specs.Prelude.{⊤, Result, Ok, Err}
use Rattle.board.specs.declared.Board.{Board}
use Rattle.board.specs.Sound.{Sound}
use Rattle.refusal.specs.declared.Refusal.{Refusal}
use Rattle.device.specs.declared.Device.{Device}
use Rattle.device.specs.State.{started}
use Rattle.laws.specs.Lists.{all_bytes}
use Rattle.line.specs.Event.{Event, attach, request, fits}
use Rattle.text.specs.Text.{proper, events_of}
use Rattle.text.proofs.EventText.{proper_parts, good_proper}
use Rattle.verdict.specs.declared.Verdict.{Verdict}
use Rattle.verdict.specs.declared.Verdict.TheVariants as verdict
use Rattle.verdict.specs.Report.{in_fields}
use Rattle.demand.specs.Checked.{checkable, Checked}
use Rattle.demand.proofs.Supply.{Checkable, checkable_parts}
use Rattle.marks.specs.Work.{Work, work_of}
use Rattle.marks.proofs.View.{work_sized}
use Rattle.judgement.specs.Judgement.{over_of, end_verdict, over_verdict, begun, verdict_of}
use Rattle.judgement.proofs.Events.{Fitting}
use Rattle.judgement.proofs.Runs.{AllFit}
use Rattle.judgement.proofs.Judgement.{judged}
use Rattle.checker.specs.Walk.{over_as}

-- a run's outcome r with the work area w₂, from the work area w₁ that begins with the card
module _ (board : Board) (es : List Event) (image card : List ℕ) (w w₁ w₂ : Work) (r : Result Device ℕ) (start : w₁ ≡ begun board card w) (ran : over_as r w₂ ≡ over_of board es (started board) w₁ 0) where
  over_is : over_of board es (started board) (begun board card w) 0 ≡ over_as r w₂
  over_is = ap (λ (x : Work). over_of board es (started board) x 0) (sym start) ∙ sym ran

  pub judged_fell : (k : ℕ) → r ≡ Err k → verdict.Event k ≡ verdict_of board es image card w
  unfolding verdict_of
  judged_fell k is = sym (ap (over_verdict board image card) (over_is ∙ ap (λ (x : Result Device ℕ). over_as x w₂) is))

  pub judged_ended : (d : Device) (v : Verdict) → r ≡ Ok d → v ≡ end_verdict board image card d w₂ → v ≡ verdict_of board es image card w
  unfolding verdict_of
  judged_ended d v is so = so ∙ sym (ap (over_verdict board image card) (over_is ∙ ap (λ (x : Result Device ℕ). over_as x w₂) is))

event_fits : (e : Event) → fits e ≡ true → Fitting e
unfolding fits
event_fits attach h = tt
event_fits (request q) h = h

proper-fits : (es : List Event) → proper es ≡ true → AllFit es
proper-fits [] h = tt
proper-fits (e ∷ es) h = let p = proper_parts e es h in (event_fits e p.0, proper-fits es p.2)

-- what an admission a of the call comes to
module _ (board : Board) (t image card w : List ℕ) (a : Result ⊤ Refusal) (is : a ≡ checkable board t (length image) (length card) (length w)) where
  pub checked_refused : (why : Refusal) (w' : List ℕ) → a ≡ Err why → w' ≡ w → Checked board t image card w (in_fields (verdict.Refused why)) w'
  checked_refused why w' so kept = rw (sym is ∙ so) (refl, kept)

  pub checked_parts : a ≡ Ok tt → Checkable board t (length image) (length card) (length w)
  checked_parts so = checkable_parts board t (length image) (length card) (length w) (sym is ∙ so)

  pub checked_judged : (v : Verdict) (w' : List ℕ) → a ≡ Ok tt → Sound board → all_bytes card ≡ true → v ≡ verdict_of board (events_of t) image card (work_of board w) → Checked board t image card w (in_fields v) w'
  checked_judged v w' so sound bytes j =
      let c = checked_parts so in
      rw (sym is ∙ so) (v, refl, rw j (judged board (events_of t) image card (work_of board w) sound (work_sized board w c.area) c.supply.options bytes (proper-fits (events_of t) (good_proper t c.clean))))
