-- `wide::four` meets its contract. Assumes nothing.
use Rattle.std.proofs.Common.{rules, arith}
use Rattle.wide.proofs.Eight.{most_eight, bytes_eight}
use Rattle.wide.proofs.four.Goals as goal

pub overflow_mul-w : goal.overflow_mul-w
overflow_mul-w c = omega (arith, most_eight _ _ (search rules) c.requires c.values-v.ensures)

pub overflow_add-w : goal.overflow_add-w
overflow_add-w c = omega (arith, most_eight _ _ (search rules) c.requires c.values-v.ensures)

pub returns : goal.returns
returns c = rw c.to_le_bytes.ensures (bytes_eight _ _ (search rules) c.requires c.values-v.ensures)
