-- `line::request_length` meets its contract. Assumes nothing.
use Rattle.line.proofs.LineLength.{too_short, no_tab, no_second_tab, no_setup, data_short, no_data, request-line, told, told_some}
use Rattle.std.proofs.Common.{◌≡◌, ◌+◌, ◌*◌, get_or, arith}
use mathlib.Core.Path.{refl, sym, ◌∙◌}
use borrow.Author.Rules.{rules}
use Rattle.line.proofs.request_length.Goals as goal

pub returns-then-rest-lt-SHORTEST-clause-length : goal.returns-then-rest-lt-SHORTEST-clause-length
returns-then-rest-lt-SHORTEST-clause-length c = too_short _ c.requires c.if-rest-lt-SHORTEST.true

pub returns-then-rest-ne9-clause-length : goal.returns-then-rest-ne9-clause-length
returns-then-rest-ne9-clause-length c = no_tab _ c.requires c.if-rest-ne9.true

pub returns-then-rest-ne9-2-clause-length : goal.returns-then-rest-ne9-2-clause-length
returns-then-rest-ne9-2-clause-length c = no_second_tab _ c.requires c.if-rest-ne9-2.true

pub returns-then-not-digits-clause-length : goal.returns-then-not-digits-clause-length
returns-then-not-digits-clause-length c = no_setup _ c.requires (sym c.digits.ensures ∙ c.if-not-digits.true)

pub data_length-count-requires : goal.data_length-count-requires
data_length-count-requires c = search (rules, sym c.digits.ensures ∙ c.if-not-digits.false)

pub returns-then-rest-count-clause-length : goal.returns-then-rest-count-clause-length
returns-then-rest-count-clause-length c = data_short _ c.requires _ _ c.data_length-count.ensures refl c.if-rest-count.true

pub returns-clause-length : goal.returns-clause-length
returns-clause-length c =
    let n : get_or c.args.rest.now (19 + c.data_length-count.result * 2) 0 ≡ 10 = omega arith in
    rw c.then_some.ensures
    (told c.digits-2.result _ _ (λ t. request-line _ c.requires _ _ c.data_length-count.ensures refl c.if-rest-lt-SHORTEST.false c.if-rest-ne9.false c.if-rest-ne9-2.false (sym c.digits.ensures ∙ c.if-not-digits.false) c.if-rest-count.false n (sym c.digits-2.ensures ∙ t))
    (λ f. no_data _ c.requires _ _ c.data_length-count.ensures refl (sym c.digits-2.ensures ∙ f)))

pub returns-clause-some : goal.returns-clause-some
returns-clause-some c = rw c.then_some.ensures (told_some c.digits-2.result _ (omega arith))
