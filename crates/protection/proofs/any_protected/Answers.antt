-- `protection::any_protected` meets its contract. Assumes nothing.
use Rattle.std.proofs.Common.{◌∙◌, refl, rules, arith}
use Rattle.std.proofs.lemmas.Iterator.{YieldsList-from_range}
use Rattle.std.proofs.lemmas.Iterator.Search.{any_from_yields_List}
use Rattle.protection.specs.Protection.{write_protected}
use Rattle.protection.proofs.Protection.{any_listed}
use Rattle.protection.proofs.any_protected.Goals as goal

pub returns : goal.returns
returns c =
    any_from_yields_List (write_protected c.args.word) _ _ _ c.any.ensures.ran (YieldsList-from_range 0 c.args.count c.args.count refl (omega arith)) (λ x b q h. search rules)
    ∙ any_listed _ _ _
