-- What bars an image, by its two tests. Assumes nothing.
use mathlib.Core.Path.{◌≡◌}
use mathlib.Core.Bool.{false}
use mathlib.Core.List.{List}
use Prim.Native.Nat.{ℕ}
use lib.ListN.{length}
use Rattle.laws.proofs.Split.{or_false}
use Rattle.board.specs.declared.Board.{Board}
use Rattle.board.specs.Layout.{pages_of}
use Rattle.protection.specs.Protection.{locked_from, word_from, any_protected}
use Rattle.plan.specs.Plan.{barred}

module _ (board : Board) (image card : List ℕ) where
  pub barred_parts : barred board image card ≡ false → (locked_from 0 card ≡ false) × (any_protected (word_from board 0 card) (pages_of board (length image)) 0 ≡ false)
  unfolding barred
  barred_parts e = or_false (locked_from 0 card) (any_protected (word_from board 0 card) (pages_of board (length image)) 0) e
