-- `area::decided` meets its contract. Assumes nothing.
use Rattle.area.proofs.Answers.{taken_short, block_taken}
use Rattle.cells.specs.Cells.{request_moves}
use Rattle.marks.proofs.View.{block_room}
use native.Mathlib.Omega.{arith}
use Rattle.std.proofs.lemmas.Grind.{common_steps}
use Rattle.area.proofs.decided.Goals as goal

pub decode-requires : goal.decode-requires
decode-requires c =
    let short = taken_short _ _ _ _ _ _ c.decide.ensures c.in-Take.is c.requires.1 in
    (omega (arith, c.block_from.ensures, block_room c.args.board c.args.work.now c.requires.0), c.requires.2)

pub returns-in-Take : goal.returns-in-Take
unfolding request_moves
returns-in-Take c =
    let short = taken_short _ _ _ _ _ _ c.decide.ensures c.in-Take.is c.requires.1 in
    grind (arith, common_steps, block_taken _ _ _ _ _ c.requires.0 c.block_from.ensures short c.decode.ensures)
