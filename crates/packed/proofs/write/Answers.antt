-- `packed::write` meets its contract. Assumes nothing.
use Rattle.std.proofs.lemmas.Result.{err_from_is_err_and}
use Rattle.packed.proofs.Answers.{write_refused, sized_packs, write_too_long, sized_room, write_short, write_done}
use Rattle.packed.proofs.write.Goals as goal

pub returns-then-size-gt-LIMIT : goal.returns-then-size-gt-LIMIT
returns-then-size-gt-LIMIT c = write_too_long _ _ _ c.spelled_size.ensures _ c.in_ok-size.was c.if-size-gt-LIMIT.true

pub returns-then-out-size : goal.returns-then-out-size
returns-then-out-size c = write_short _ _ _ c.spelled_size.ensures _ c.in_ok-size.was c.if-size-gt-LIMIT.false c.if-out-size.true

pub spell-requires : goal.spell-requires
spell-requires c =
    let is = c.spelled_size.ensures in
    let e = c.in_ok-size.was in
    let out = c.args.out.now in
    (sized_packs _ out _ is _ e, sized_room _ out _ is _ e c.if-size-gt-LIMIT.false c.if-out-size.false)

pub returns-in_err-size : goal.returns-in_err-size
returns-in_err-size c =
    let p = err_from_is_err_and c.from_residual.result c.from_residual.ensures.1 in
    rw (p.1, p.2) (write_refused _ _ _ c.spelled_size.ensures _ c.in_err-size.was)

pub returns : goal.returns
returns c = write_done _ _ _ c.spelled_size.ensures _ c.in_ok-size.was c.if-size-gt-LIMIT.false _ c.if-out-size.false c.spell.ensures
