-- Laws of `block_address`: the blocks at the pointer. Assumes nothing.
use mathlib.Core.Path.{◌≡◌}
use Prim.Native.Nat.{ℕ, ◌-◌, ◌≤◌}
use native.Mathlib.Omega.{arith}
use native.Mathlib.Nat.{zero-mul, zero-add}
use Rattle.access.specs.Access.{block_address}

pub address_at_pointer : (transfer block pointer : ℕ) → block ≤ 2 → block_address transfer block pointer ≡ pointer
unfolding block_address
address_at_pointer transfer block pointer h =
    let none : block - 2 ≡ 0 = omega arith in
    rw (none, zero-mul, zero-add)
