-- `plan::size` meets its contract. Assumes nothing.
use Rattle.plan.proofs.Length.{size-more}
use Rattle.plan.proofs.size.Goals as goal

pub returns : goal.returns
returns c = size-more _ c.requires.0 _ _ _ c.pages_of.ensures c.page_rest.ensures c.if-page_rest-eq1.false
