-- The checker's call, given a plan, is admitted. Assumes nothing.
use mathlib.Core.Path.{◌≡◌, ◌∙◌}
use mathlib.Core.Bool.{true}
use mathlib.Core.List.{List}
use Prim.Native.Nat.{ℕ, ◌≤◌}
use lib.ListN.{length}
use Rattle.std.specs.Prelude.{Ok}
use Rattle.laws.specs.Lists.{all_bytes}
use Rattle.text.specs.Text.{limit, first_bad}
use Rattle.text.proofs.EventText.{text-clean}
use Rattle.job.proofs.Refusals.{text_good}
use Rattle.board.specs.declared.Board.{Board}
use Rattle.board.specs.Sound.{Sound}
use Rattle.board.specs.Supply.{supplied}
use Rattle.marks.specs.Area.{work_bytes}
use Rattle.demand.specs.Checked.{checkable}
use Rattle.demand.proofs.Supply.{checkable_then}
use Rattle.plan.specs.Plan.{plan_events, plan_of}
use Rattle.plan.proofs.Proper.{plan_proper}

plan_clean : (board : Board) → Sound board → (image : List ℕ) → all_bytes image ≡ true → first_bad (plan_of board image) ≡ 0
unfolding plan_of
plan_clean board sound image y = text-clean (plan_events board image) (plan_proper board sound image y)

-- with a work area of the right size
pub plan_checkable : (board : Board) → Sound board → (image card w : List ℕ) → all_bytes image ≡ true → length (plan_of board image) ≤ limit → supplied board (length image) (length card) ≡ Ok tt → length w ≡ work_bytes board → checkable board (plan_of board image) (length image) (length card) (length w) ≡ Ok tt
plan_checkable board sound image card w y short s lw =
    checkable_then board (plan_of board image) (length image) (length card) (length w) lw (Ok tt) s ∙ text_good (plan_of board image) short (plan_clean board sound image y)
