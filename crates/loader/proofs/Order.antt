-- The refusals of a step stand in document 01's order. Assumes nothing.
use mathlib.Core.Path.{◌≡◌, refl}
use mathlib.Core.Bool.{true}
use mathlib.Core.List.{List}
use Prim.Native.Nat.{ℕ}
use Rattle.refusal.specs.Order.{met, before, before_all, in_order}
use Rattle.device.specs.declared.Device.{Device}
use Rattle.loader.specs.declared.Event.{Event}
use Rattle.loader.specs.declared.Sizes.{Sizes}
use Rattle.loader.specs.Step.{step_refusals}
use Rattle.board.specs.declared.Board.{Board}

pub step_in_order : (board : Board) (d : Device) (e : Event) (q : List ℕ) (s : Sizes) → in_order (step_refusals board d e q s) ≡ true
unfolding met before before_all in_order
step_in_order board d e q s = refl
