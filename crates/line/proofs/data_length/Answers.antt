-- `line::data_length` meets its contract. Assumes nothing.
use Rattle.std.proofs.Common.{sym, ap, ◌∙◌}
use Rattle.request.specs.declared.Setup.{Setup}
use Rattle.line.proofs.Fields.{length_fields, length_none}
use Rattle.line.proofs.data_length.Goals as goal

pub returns-then-data_length-eq0 : goal.returns-then-data_length-eq0
returns-then-data_length-eq0 c =
    length_none _ c.requires.0 _ (ap (λ (x : Setup). x.kind) c.asking.ensures ∙ c.byte-kind.ensures) (ap (λ (x : Setup). x.length) c.asking.ensures) (sym c.data_length.ensures ∙ c.if-data_length-eq0.true)

pub returns : goal.returns
returns c =
    c.data_length-2.ensures ∙ length_fields _ c.requires.0 _ (ap (λ (x : Setup). x.kind) c.asking-2.ensures ∙ c.byte-kind.ensures) (ap (λ (x : Setup). x.length) c.asking-2.ensures ∙ c.word.ensures)
