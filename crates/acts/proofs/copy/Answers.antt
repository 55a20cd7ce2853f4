-- `acts::copy` meets its contract. Assumes nothing.
use native.Mathlib.Omega.{arith}
use Rattle.acts.proofs.Copying.{Given, copy_is}
use Rattle.marks.proofs.View.{values-room, block_room}
use Prim.Native.Nat.{◌+◌, ◌-◌}
use mathlib.Core.Path.{◌≡◌}
use Rattle.acts.proofs.copy.Goals as goal

pub overflow_add-block : goal.overflow_add-block
overflow_add-block c = omega (arith, block_room c.args.board c.args.work.now c.requires.2)

pub overflow_add-values : goal.overflow_add-values
overflow_add-values c = omega (arith, values-room c.args.board c.args.work.now c.requires.2)

pub copy_within-requires-clause-in_bounds : goal.copy_within-requires-clause-in_bounds
copy_within-requires-clause-in_bounds c = omega (arith, block_room c.args.board c.args.work.now c.requires.2)

pub copy_within-requires-clause-dest_in_bounds : goal.copy_within-requires-clause-dest_in_bounds
copy_within-requires-clause-dest_in_bounds c =
    let n : c.block_from-block.result + c.args.count - c.block_from-block.result ≡ c.args.count = omega arith in
    rw n (omega (arith, values-room c.args.board c.args.work.now c.requires.2))

pub returns : goal.returns
returns c =
    let g : Given c.args.board c.args.work.now c.args.at c.args.count c.values_from-values.result c.block_from-block.result = record { size = c.requires.2; room = c.requires.0; short = c.requires.1; values_there = c.values_from-values.ensures; block_there = c.block_from-block.ensures } in
    copy_is _ _ _ _ _ _ _ g c.copy_within.ensures.after
