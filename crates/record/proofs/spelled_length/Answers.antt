-- `record::spelled_length` meets its contract. Assumes nothing.
use Rattle.record.proofs.Spelling.{too_short, if_spelled, told-spelled, told_digits, cut_off, no_digits, ends_there}
use Rattle.std.proofs.Common.{◌≡◌, sym, ◌∙◌, get_or, arith}
use Rattle.record.proofs.spelled_length.Goals as goal

pub returns-then-rest-le-SHORTEST-clause-length : goal.returns-then-rest-le-SHORTEST-clause-length
returns-then-rest-le-SHORTEST-clause-length c = too_short _ c.if-rest-le-SHORTEST.true

pub returns-then-rest-end-clause-length : goal.returns-then-rest-end-clause-length
returns-then-rest-end-clause-length c =
    let u = c.args.rest.now in
    if_spelled u (λ q. cut_off u _ (told-spelled u _ c.told.ensures.1 q) c.if-rest-end.true)

pub returns-then-not-digits-clause-length : goal.returns-then-not-digits-clause-length
returns-then-not-digits-clause-length c =
    let u = c.args.rest.now in
    if_spelled u (λ q. no_digits u _ (told-spelled u _ c.told.ensures.1 q) (sym c.digits.ensures ∙ c.if-not-digits.true))

pub returns-clause-length : goal.returns-clause-length
returns-clause-length c =
    let u = c.args.rest.now in
    let d = sym c.digits.ensures ∙ c.if-not-digits.false in
    let e = told_digits u _ c.told.ensures.1 c.if-rest-end.false d in
    let m : get_or u 0 0 ≡ 58 = omega arith in
    c.line_end.ensures.length ∙ ends_there u _ e c.if-rest-end.false m d
