-- The refusals of a check stand in document 01's order. Assumes nothing.
use mathlib.Core.Path.{◌≡◌, refl}
use mathlib.Core.Bool.{true}
use mathlib.Core.List.{List}
use Prim.Native.Nat.{ℕ}
use Rattle.refusal.specs.Order.{met, before, before_all, in_order}
use Rattle.demand.specs.Checked.{check_refusals}
use Rattle.board.specs.declared.Board.{Board}

pub check_in_order : (board : Board) (t : List ℕ) (image card work : ℕ) → in_order (check_refusals board t image card work) ≡ true
unfolding met before before_all in_order
check_in_order board t image card work = refl
