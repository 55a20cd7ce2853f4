-- `line::write_request` meets its contract. Assumes nothing.
use Rattle.line.proofs.SpellLine.{request-spelled}
use Rattle.line.proofs.write_request.Goals as goal

pub returns : goal.returns
returns c = request-spelled _ c.args.out.now _ _ _ c.requires.0 c.requires.1 c.encode.ensures c.encode-2.ensures
