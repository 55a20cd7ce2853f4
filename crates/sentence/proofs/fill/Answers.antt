-- `sentence::fill` meets its contract. Assumes nothing.
use Rattle.std.proofs.Common.{rules, ◌≡◌, refl, ◌∙◌, get_or, arith}
use Rattle.sentence.specs.Sentence.{sentence_of}
use Rattle.sentence.proofs.Turns.{fill_turn, fill_end}
use Rattle.sentence.proofs.fill.Goals as goal

pub loop-i-init : goal.loop-i-init
unfolding sentence_of
loop-i-init c = (refl, omega arith)

pub loop-i-preserved : goal.loop-i-preserved
loop-i-preserved c =
    let l = c.loop-i in
    let number : c.unwrap_or-number.result ≡ get_or l.numbers.now 0 0 = search rules in (
      fill_turn _ _ _ l.i l.part l.picked c.loop-i-test.true _ _ _ _ _ _ number c.first_text-text.ensures c.part_after-part.ensures.0 c.picked_after-picked.ensures c.numbers_after-numbers.ensures c.texts_after-texts.ensures _ _ _ _ c.spell-end.ensures ∙ l.invariant.0,
      omega arith,
    )

pub returns : goal.returns
returns c = fill_end _ _ _ _ _ _ _ _ c.loop-i-test.false ∙ c.loop-i.invariant.0
