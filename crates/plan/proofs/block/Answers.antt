-- `plan::block` meets its contract. Assumes nothing.
use native.Mathlib.Omega.{arith}
use mathlib.Core.Path.{◌≡◌}
use Prim.Native.Nat.{◌≤◌, ◌/◌, ◌%◌}
use lib.ListN.{get_or}
use Rattle.std.proofs.Common.{rules}
use Rattle.request.specs.Request.{transfer_bytes}
use Rattle.plan.proofs.Lines.{padded_at_most}
use Rattle.plan.proofs.BlockBytes.{block-laid}
use Rattle.plan.proofs.block.Goals as goal

-- a transfer takes a padded byte
two : 2 ≤ transfer_bytes
two = omega arith

pub slice_bounds-send-end : goal.slice_bounds-send-end
slice_bounds-send-end c =
    let h = padded_at_most _ _ two c.requires.0 in
    omega arith

pub returns : goal.returns
returns c =
    let n = c.padded_length-count.result in
    let low : get_or c.to_le_bytes.result 0 0 ≡ n % 256 = search rules in
    let high : get_or c.to_le_bytes.result 1 0 ≡ n / 256 % 256 = search rules in
    block-laid _ _ _ _ c.padded_length-count.ensures (rw (low, high) at c.put.ensures) c.put-2.ensures _ _ _ _ c.send.ensures
