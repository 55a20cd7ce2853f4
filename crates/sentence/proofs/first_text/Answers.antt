-- `sentence::first_text` meets its contract. Assumes nothing.
use Rattle.std.proofs.Common.{rules, tests, eqb}
use Rattle.std.proofs.lemmas.Iterator.{YieldsList-from_slice}
use Rattle.std.proofs.lemmas.Iterator.Search.{position_from_yields_List}
use Rattle.sentence.specs.Sentence.{bar}
use Rattle.sentence.proofs.Texts.{first_found}
use Rattle.sentence.proofs.first_text.Goals as goal

pub returns : goal.returns
returns c =
    first_found c.args.texts.now _ _ (position_from_yields_List (λ x. eqb x bar) _ _ c.position.result c.position.ensures.ran (YieldsList-from_slice c.args.texts.now cc) (λ x b q k. search (rules, tests))) c.unwrap_or-end.ensures
