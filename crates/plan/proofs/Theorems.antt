-- What the plan writer's promise amounts to, and that the checker passes what it writes. Document 01, "The checker and the plan", its last paragraph. Assumes nothing.
use mathlib.Core.Path.{◌≡◌, ◌∙◌, sym}
use mathlib.Core.Bool.{true, false}
use mathlib.Core.List.{List}
use Prim.Native.Nat.{ℕ, ◌≤◌}
use native.Mathlib.Omega.{arith}
use lib.ListN.{length, replicate, length-replicate}
use Rattle.std.specs.Prelude.{Result, Ok}
use Rattle.board.specs.declared.Board.{Board}
use Rattle.board.specs.Layout.{logger, flash_bytes, option_bytes}
use Rattle.board.specs.Sound.{Sound}
use Rattle.board.proofs.Logger.{logger-sound}
use Rattle.refusal.specs.declared.Refusal.{Refusal}
use Rattle.refusal.specs.Delivery.{delivery}
use Rattle.refusal.proofs.Delivery.{delivery_injective}
use Rattle.laws.specs.Lists.{all_bytes}
use Rattle.text.specs.Text.{limit, events_of}
use Rattle.text.proofs.EventText.{text_events}
use Rattle.verdict.specs.declared.Verdict.{Verdict}
use Rattle.verdict.specs.declared.Verdict.TheVariants as verdict
use Rattle.verdict.specs.Report.{in_fields}
use Rattle.marks.specs.Area.{work_bytes}
use Rattle.marks.specs.Work.{Work, work_of, Sized}
use Rattle.marks.proofs.View.{work_sized}
use Rattle.demand.specs.Verdict.{Judged}
use Rattle.demand.specs.Checked.{Checked}
use Rattle.demand.proofs.Theorems.{one_verdict, checked_verdict}
use Rattle.judgement.proofs.Judgement.{judged}
use Rattle.plan.specs.Plan.{plan_events, plan_of, barred, planable, planned}
use Rattle.plan.proofs.Passes.{plan_verdict}
use Rattle.plan.proofs.Proper.{plan_fits, plan_proper}
use Rattle.plan.proofs.Admitted.{planable-supplied, planable_lengths, planable_free}
use Rattle.plan.proofs.Call.{plan_checkable}
use Rattle.plan.proofs.Length.{plan_length, bytes_most}
use Rattle.plan.proofs.Logger.{logger_short}

-- "any two outcomes allowed by a promise are equal"
pub one_plan : (board : Board) (image card out x y : List ℕ) (r s : Result ℕ Refusal) → delivery r x ≡ planned board image card out → delivery s y ≡ planned board image card out → (r ≡ s) × (x ≡ y)
one_plan board image card out x y r s p q = delivery_injective r s x y (p ∙ sym q)

-- The text of a plan gives its events back.
pub plan_spells : (board : Board) → Sound board → (image : List ℕ) → all_bytes image ≡ true → events_of (plan_of board image) ≡ plan_events board image
unfolding plan_of
plan_spells board sound image y = text_events (plan_events board image) (plan_proper board sound image y)

module _ (board : Board) (sound : Sound board) (image card : List ℕ) where
  -- a work area to begin with: what it says does not matter
  blank_work : Work
  blank_work = work_of board (replicate (work_bytes board) 0)

  blank_sized : Sized board blank_work
  unfolding blank_work
  blank_sized = work_sized board (replicate (work_bytes board) 0) (length-replicate {A = ℕ} (work_bytes board) 0)

  -- The events of a plan pass, on every board of this layout with a card that does not bar the image.
  pub plan_passes : length image ≤ flash_bytes board → length card ≡ option_bytes → all_bytes card ≡ true → barred board image card ≡ false → Judged board (plan_events board image) image card verdict.Pass
  plan_passes most lc bytes free =
      rw (plan_verdict board sound image card blank_work blank_sized most lc free) at (judged board (plan_events board image) image card blank_work sound blank_sized lc bytes (plan_fits board sound image))

  -- So the text passes too: what the plan writer does not refuse, the checker passes.
  pub planable_passes : all_bytes image ≡ true → all_bytes card ≡ true → planable board image card ≡ Ok tt → Judged board (events_of (plan_of board image)) image card verdict.Pass
  planable_passes y bytes e =
      let s = planable_lengths board image card e in
      rw (plan_spells board sound image y) (plan_passes s.most s.options bytes (planable_free board image card e))

-- The logger's checker, given a text that its plan writer wrote and a work area of the right size, answers Pass: its promise allows nothing else.
pub checker_passes : (image card w w' : List ℕ) (v : Verdict) → all_bytes image ≡ true → all_bytes card ≡ true → planable logger image card ≡ Ok tt → length w ≡ work_bytes logger → Checked logger (plan_of logger image) image card w (in_fields v) w' → v ≡ verdict.Pass
checker_passes image card w w' v y bytes e lw c =
    let short : length (plan_of logger image) ≤ limit = omega (arith, plan_length logger logger-sound image, bytes_most logger logger-sound (length image) (planable_lengths logger image card e).most, logger_short) in
    let admitted = plan_checkable logger logger-sound image card w y short (planable-supplied logger image card e) lw in
    one_verdict logger (events_of (plan_of logger image)) image card v verdict.Pass (checked_verdict logger (plan_of logger image) image card w v w' c admitted) (planable_passes logger logger-sound image card y bytes e)
