-- `hexfield::few_digits` meets its contract. Assumes nothing.
use Rattle.std.proofs.Common.{rules, tests, ◌∙◌}
use Rattle.std.proofs.lemmas.Iterator.{YieldsList-from_slice}
use Rattle.std.proofs.lemmas.Iterator.Search.{all_from_yields_List}
use Rattle.hexfield.proofs.Looking.{list_all_digits}
use Rattle.hexfield.proofs.few_digits.Goals as goal

pub returns : goal.returns
returns c =
    all_from_yields_List _ _ _ c.all.result c.all.ensures.ran (YieldsList-from_slice c.args.field.now cc) (λ x b q k. search (rules, tests)) ∙ list_all_digits c.args.field.now
