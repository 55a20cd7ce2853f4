-- `record::spell` meets its contract. Assumes nothing.
use Rattle.std.proofs.Common.{refl, arith, length-set}
use Rattle.record.proofs.Writing.{line-spelled}
use Rattle.record.proofs.spell.Goals as goal

pub encode-requires : goal.encode-requires
encode-requires c = simp length-set (omega arith)

pub returns : goal.returns
returns c = line-spelled _ c.args.out.now _ _ _ c.requires refl c.encode.ensures
