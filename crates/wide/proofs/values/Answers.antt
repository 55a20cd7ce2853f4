-- `wide::values` meets its contract. Assumes nothing.
use Rattle.std.proofs.Common.{rules, ◌≡◌, arith, length}
use Rattle.wide.proofs.Eight.{number_eight, values_eight}
use Rattle.wide.proofs.values.Goals as goal

pub returns : goal.returns
returns c =
    let l : length c.args.field.now ≡ 8 = search rules in
    let e = number_eight c.args.field.now l in
    values_eight _ _ l c.requires (omega (arith, e, c.from_le_bytes-x.ensures))
