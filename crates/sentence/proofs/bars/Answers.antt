-- `sentence::bars` meets its contract. Assumes nothing.
use Rattle.std.proofs.Common.{rules, tests, eqb, not, take, ◌∙◌}
use Rattle.std.specs.List.{prefix_len}
use Rattle.std.proofs.lemmas.Iterator.{YieldsList-from_slice}
use Rattle.std.proofs.lemmas.Iterator.Search.{YieldsList-from_take_while}
use Rattle.std.proofs.lemmas.Iterator.Consumers.{YieldsList-at, YieldsList-from_filter, count_from_yields_List}
use Rattle.std.proofs.lemmas.List.Sums.{length-filter}
use Rattle.sentence.specs.Sentence.{bar, closes}
use Rattle.sentence.proofs.Parts.{bars_counted}
use Rattle.sentence.proofs.bars.Goals as goal

pub returns : goal.returns
returns c =
    let l = c.args.rest.now in
    let n = prefix_len (λ x. not (eqb x closes)) l in
    count_from_yields_List c.filter.result c.count.result c.count.ensures.ran (YieldsList-from_filter _ (λ x. eqb x bar) (YieldsList-at c.filter.ensures.source (YieldsList-from_take_while _ (λ x. not (eqb x closes)) (YieldsList-from_slice l cc) c.take_while.ensures.closure c.take_while.ensures.done (λ x b q k. search (rules, tests)))) c.filter.ensures.closure (λ x b q k. search (rules, tests)))
    ∙ length-filter (λ x. eqb x bar) (take n l)
    ∙ bars_counted l
