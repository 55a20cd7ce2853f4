-- `ihex::address` meets its contract. Assumes nothing.
use Rattle.ihex.proofs.Laying.{address_is}
use Rattle.ihex.proofs.address.Goals as goal

pub returns : goal.returns
returns c = address_is _ _ _ c.word.ensures
