-- The test of each byte, known or kept, as a list of its places. Assumes nothing.
use mathlib.Core.Path.{◌≡◌, refl, ap}
use mathlib.Core.Bool.{Bool, ◌&&◌, ◌||◌}
use Prim.Native.Nat.{ℕ, zero, suc, ◌+◌}
use native.Mathlib.Numerals.{add-one}
use Rattle.std.specs.List.{list_all, range_with_len}
use Rattle.board.specs.declared.Board.{Board}
use Rattle.flash.specs.Flash.{kept}
use Rattle.marks.specs.Work.{Work, known}
use Rattle.cells.specs.Cells.{sure_from}

pub sure_listed : (board : Board) (word : ℕ) (w : Work) (at count : ℕ) → list_all (λ i. known w i || kept board word i) (range_with_len at count) ≡ sure_from board word count at w
unfolding sure_from
sure_listed board word w at zero = refl
sure_listed board word w at (suc count) =
    let later : list_all (λ i. known w i || kept board word i) (range_with_len (at + 1) count) ≡ sure_from board word count (suc at) w = rw (← add-one at) (sure_listed board word w (at + 1) count) in
    ap (λ (b : Bool). (known w at || kept board word at) && b) later
