-- `record::sound` meets its contract. Assumes nothing.
use Rattle.std.proofs.Common.{sym, ◌∙◌}
use Rattle.record.proofs.Sums.{unsuited, suited}
use Rattle.record.proofs.sound.Goals as goal

pub returns-then-suits : goal.returns-then-suits
returns-then-suits c = suited _ _ c.word.ensures _ (sym c.suits.ensures ∙ c.if-suits.true) c.sum.ensures

pub returns-else-suits : goal.returns-else-suits
returns-else-suits c = c.if-suits.false ∙ unsuited _ _ c.word.ensures (sym c.suits.ensures ∙ c.if-suits.false)
