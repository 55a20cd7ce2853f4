-- `trial::first_written` meets its contract. Assumes nothing.
use Rattle.std.proofs.Common.{◌≡◌, ◌∙◌, ◌+◌, ◌-◌, length, refl, rules, tests, arith}
use Rattle.std.proofs.lemmas.Iterator.{YieldsList-from_range}
use Rattle.std.proofs.lemmas.Iterator.Search.{find_from_yields_List}
use Rattle.trial.proofs.Places.{in_way, found_written}
use Rattle.trial.proofs.first_written.Goals as goal

pub returns : goal.returns
returns c =
    let m = c.args.memory.now in
    let from = c.args.from in
    let n = length m - from in
    let end : from + n ≡ c.max.result = grind (arith, tests, c.max.ensures) in
    c.unwrap_or.ensures ∙ found_written m _ from n c.max.result end (find_from_yields_List (in_way m) _ _ _ c.find.ensures.ran (YieldsList-from_range from (length m) n refl refl) (λ x b q h. search rules))
