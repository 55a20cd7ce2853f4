-- Laws of addresses in flash, for any board. Assumes nothing.
use mathlib.Core.Path.{◌≡◌}
use mathlib.Core.Bool.{true}
use Prim.Native.Nat.{ℕ, ◌+◌, ◌-◌, ◌≤◌}
use Rattle.board.specs.declared.Board.{Board}
use Rattle.board.specs.Layout.{flash_first, flash_bytes}
use Rattle.board.specs.Span.{in_flash}
use Rattle.board.proofs.Span.{spans-ends, spans-within}

-- a span in flash begins and ends there
pub flash_ends : (board : Board) (address count : ℕ) → in_flash board address count ≡ true → (flash_first board ≤ address) × (address - flash_first board + count ≤ flash_bytes board)
unfolding in_flash
flash_ends board address count o = spans-ends (flash_first board) (flash_bytes board) address count o

-- what begins and ends there is a span in flash
pub flash_spans : (board : Board) (offset count : ℕ) → offset + count ≤ flash_bytes board → in_flash board (flash_first board + offset) count ≡ true
unfolding in_flash
flash_spans board offset count h = spans-within (flash_first board) (flash_bytes board) offset count h
