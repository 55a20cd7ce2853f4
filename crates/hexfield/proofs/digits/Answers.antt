-- `hexfield::digits` meets its contract. Assumes nothing.
use Rattle.std.proofs.Common.{rules, tests, refl, ◌∙◌}
use Rattle.std.proofs.lemmas.Iterator.{YieldsList-from_slice}
use Rattle.std.proofs.lemmas.Iterator.Search.{all_from_yields_List}
use Rattle.hexfield.specs.Hex.{all_digits}
use Rattle.hexfield.proofs.Looking.{by_sixteen}
use Rattle.hexfield.proofs.digits.Goals as goal

pub returns-then-all : goal.returns-then-all
returns-then-all c =
    let all = all_from_yields_List all_digits _ _ c.all.result c.all.ensures.ran (YieldsList-from_slice c.as_chunks.result.0.now cc) (λ x b q k. search (rules, tests)) in
    let e = by_sixteen c.args.field.now _ _ _ _ c.in-Some.ensures.cases.0 c.as_chunks.ensures.front c.in-Some.ensures.cases.1.same all c.sixteen_digits.ensures in
    rw c.if-all.true at e

pub returns-else-all : goal.returns-else-all
returns-else-all c =
    let all = all_from_yields_List all_digits _ _ c.all.result c.all.ensures.ran (YieldsList-from_slice c.as_chunks.result.0.now cc) (λ x b q k. search (rules, tests)) in
    let e = by_sixteen c.args.field.now _ _ _ _ c.in-Some.ensures.cases.0 c.as_chunks.ensures.front c.in-Some.ensures.cases.1.same all refl in
    c.if-all.false ∙ (rw c.if-all.false at e)
