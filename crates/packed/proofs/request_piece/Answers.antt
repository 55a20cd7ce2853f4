-- `packed::request_piece` meets its contract. Assumes nothing.
use Rattle.packed.proofs.PieceLength.{piece_short, piece_ends, piece_whole}
use Rattle.request.specs.Setup.{data_length}
use mathlib.Core.Path.{◌∙◌, ap}
use Rattle.packed.proofs.request_piece.Goals as goal

pub returns-then-rest-lt-HEAD-clause-length : goal.returns-then-rest-lt-HEAD-clause-length
returns-then-rest-lt-HEAD-clause-length c = piece_short _ c.requires c.if-rest-lt-HEAD.true

pub returns-then-rest-count-clause-length : goal.returns-then-rest-count-clause-length
returns-then-rest-count-clause-length c = piece_ends _ c.requires _ (c.data_length-count.ensures ∙ ap data_length c.of.ensures) c.if-rest-lt-HEAD.false c.if-rest-count.true

pub returns-clause-length : goal.returns-clause-length
returns-clause-length c = piece_whole _ c.requires _ (c.data_length-count.ensures ∙ ap data_length c.of.ensures) c.if-rest-lt-HEAD.false c.if-rest-count.false
