-- `hexfield::encode` meets its contract. Assumes nothing.
use Rattle.std.proofs.Common.{sym, ◌∙◌}
use Rattle.hexfield.proofs.Fields.{spell_turn, spell_end}
use Rattle.hexfield.proofs.encode.Goals as goal

pub loop-i-preserved : goal.loop-i-preserved
loop-i-preserved c =
    let l = c.loop-i in
    sym (spell_turn _ _ _ _ _ _ c.loop-i-test.true c.of.ensures c.of-in-loop-i.ensures) ∙ l.invariant

pub returns : goal.returns
returns c = spell_end _ _ _ _ _ c.loop-i-test.false c.loop-i.invariant c.requires
