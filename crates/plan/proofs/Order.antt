-- The refusals of the plan writer stand in document 01's order: 12 before 11, which comes last. Assumes nothing.
use mathlib.Core.Path.{◌≡◌, refl}
use mathlib.Core.Bool.{true}
use mathlib.Core.List.{List}
use Prim.Native.Nat.{ℕ}
use Rattle.refusal.specs.Order.{met, before, before_all, in_order}
use Rattle.refusal.specs.Delivery.{with_output}
use Rattle.plan.specs.Plan.{plan_of, plan_refusals}
use Rattle.board.specs.declared.Board.{Board}

pub plan_in_order : (board : Board) (image card out : List ℕ) → in_order (with_output (plan_refusals board image card) (plan_of board image) out) ≡ true
unfolding met before before_all in_order
plan_in_order board image card out = refl
