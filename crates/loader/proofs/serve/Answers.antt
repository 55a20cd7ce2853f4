-- `loader::serve` meets its contract. Assumes nothing.
use Rattle.loader.proofs.Requests.{serve_is, serve_reads, stage_short}
use Rattle.decision.proofs.Bounds.{decided_bounded}
use Rattle.request.proofs.Lengths.{fits_eight}
use Rattle.laws.proofs.Bytes.{rest_is}
use native.Mathlib.Omega.{arith}
use mathlib.Core.Path.{◌∙◌}
use Rattle.loader.proofs.serve.Goals as goal

pub slice_bounds-of-count : goal.slice_bounds-of-count
slice_bounds-of-count c = fits_eight _ c.requires.request

pub slice_bounds-of-start : goal.slice_bounds-of-start
slice_bounds-of-start c = fits_eight _ c.requires.request

pub slice_bounds-put-count : goal.slice_bounds-put-count
slice_bounds-put-count c = fits_eight _ c.requires.request

pub slice_bounds-put-start : goal.slice_bounds-put-start
slice_bounds-put-start c = fits_eight _ c.requires.request

pub put-requires : goal.put-requires
put-requires c =
    omega (arith, c.requires.block, stage_short _ _ c.of-setup.ensures c.requires.request (decided_bounded _ _ _ _ _ c.decide.ensures c.in-Take.is))

pub list_commands-requires : goal.list_commands-requires
list_commands-requires c = (decided_bounded _ _ _ _ _ c.decide.ensures c.in-Commands.is, c.requires.reply)

pub upload-requires : goal.upload-requires
upload-requires c =
    (c.requires.sound, c.requires.memory, c.requires.reply, decided_bounded _ _ _ _ _ c.decide.ensures c.in-Read.is)

pub returns-in-Silent : goal.returns-in-Silent
returns-in-Silent c = rw c.answered.ensures (serve_is _ _ _ _ _ _ _ _ _ _ c.of-setup.ensures c.of-command.ensures c.decide.ensures c.in-Silent.is)

pub returns-in-Stall : goal.returns-in-Stall
returns-in-Stall c = rw c.answered-in-Stall.ensures (serve_is _ _ _ _ _ _ _ _ _ _ c.of-setup.ensures c.of-command.ensures c.decide.ensures c.in-Stall.is)

pub returns-in-Accept : goal.returns-in-Accept
returns-in-Accept c = rw c.answered-in-Accept.ensures (serve_is _ _ _ _ _ _ _ _ _ _ c.of-setup.ensures c.of-command.ensures c.decide.ensures c.in-Accept.is)

pub returns-in-Take : goal.returns-in-Take
returns-in-Take c = rw (c.answered-in-Take.ensures, c.put.ensures, rest_is) (serve_is _ _ _ _ _ _ _ _ _ _ c.of-setup.ensures c.of-command.ensures c.decide.ensures c.in-Take.is)

pub returns-in-Commands : goal.returns-in-Commands
returns-in-Commands c = rw (c.answered-in-Commands.ensures, c.list_commands.ensures) (serve_is _ _ _ _ _ _ _ _ _ _ c.of-setup.ensures c.of-command.ensures c.decide.ensures c.in-Commands.is)

pub returns-in-Read : goal.returns-in-Read
returns-in-Read c =
    c.upload.ensures c.args.block.now ∙ serve_reads _ _ _ _ _ _ _ _ _ c.of-setup.ensures c.of-command.ensures c.decide.ensures c.in-Read.is

pub returns-in-State : goal.returns-in-State
returns-in-State c =
    rw (c.answered-in-State.ensures, c.put-in-State.ensures, c.wire.ensures) (serve_is _ _ _ _ _ _ _ _ _ _ c.of-setup.ensures c.of-command.ensures c.decide.ensures c.in-State.is)

pub returns-in-Status : goal.returns-in-Status
returns-in-Status c = c.get_status.ensures ∙ serve_is _ _ _ _ _ _ _ _ _ _ c.of-setup.ensures c.of-command.ensures c.decide.ensures c.in-Status.is
