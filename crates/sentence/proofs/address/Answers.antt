-- `sentence::address` meets its contract. Assumes nothing.
use Rattle.std.proofs.Common.{◌∙◌, arith}
use Rattle.sentence.proofs.Numbers.{be_bytes, address_said}
use Rattle.sentence.proofs.address.Goals as goal

pub returns : goal.returns
returns c = address_said _ _ _ _ _ _ (c.to_be_bytes.ensures ∙ be_bytes c.args.address (omega arith)) c.encode.ensures c.say.ensures
