-- `sentence::digits` meets its contract. Assumes nothing.
use Rattle.sentence.proofs.Numbers.{digits_said}
use Rattle.sentence.proofs.digits.Goals as goal

pub returns : goal.returns
returns c = digits_said _ _ _ _ _ c.encode.ensures c.say.ensures
