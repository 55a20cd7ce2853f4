-- What CR 3 says of a block's address, for a reader who takes `block_address` from specs/ as what AN3156 says. Assumes nothing.
use mathlib.Core.Path.{◌≡◌, ap}
use mathlib.Core.Bool.{Bool}
use Prim.Native.Nat.{ℕ, suc, ◌+◌, ◌-◌, ◌≤◌}
use native.Mathlib.Omega.{arith}
use native.Mathlib.Nat.{suc-mul}
use Rattle.access.specs.Access.{block_address, access_of, block_access}
use Rattle.access.proofs.Address.{address_at_pointer}
use Rattle.board.specs.declared.Board.{Board}

-- block number 2 is the pointer itself under any transfer size
pub second_block_at_pointer : (transfer pointer : ℕ) → block_address transfer 2 pointer ≡ pointer
second_block_at_pointer transfer pointer = address_at_pointer transfer 2 pointer (omega arith)

-- so what block number 2 may be used for, and a plan writes no other, has no transfer size in it
pub second_access_at_pointer : (board : Board) (protected : Bool) (count pointer : ℕ) → block_access board protected 2 count pointer ≡ access_of board protected pointer count
unfolding block_access
second_access_at_pointer board protected count pointer = ap (λ (address : ℕ). access_of board protected address count) (second_block_at_pointer _ pointer)

-- a block begins where a full one with the number before it ends
pub block_follows_block : (transfer block pointer : ℕ) → 2 ≤ block → block_address transfer (suc block) pointer ≡ block_address transfer block pointer + transfer
unfolding block_address
block_follows_block transfer block pointer h =
    let one_more : suc block - 2 ≡ suc (block - 2) = omega arith in
    rw (one_more, suc-mul) (omega arith)
