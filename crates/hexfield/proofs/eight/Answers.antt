-- `hexfield::eight` meets its contract. Assumes nothing.
use Rattle.std.proofs.Common.{rules}
use Rattle.hexfield.proofs.Eights.{eight_listed}
use Rattle.hexfield.proofs.eight.Goals as goal

pub returns : goal.returns
returns c = eight_listed _ (search rules) _ _ _ _ _ _ _ _ c.byte.ensures c.byte-2.ensures c.byte-3.ensures c.byte-4.ensures c.byte-5.ensures c.byte-6.ensures c.byte-7.ensures c.byte-8.ensures
