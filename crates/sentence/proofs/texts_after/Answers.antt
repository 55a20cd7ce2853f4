-- `sentence::texts_after` meets its contract. Assumes nothing.
use Rattle.std.proofs.Common.{refl, ◌∙◌}
use Rattle.sentence.proofs.Texts.{behind_first, rest_got}
use Rattle.sentence.proofs.texts_after.Goals as goal

pub returns-then-byte-eq36 : goal.returns-then-byte-eq36
returns-then-byte-eq36 c =
    rw c.if-byte-eq36.true (rest_got c.args.texts.now _ _ _ _ c.get.ensures.lookup c.unwrap_or.ensures refl ∙ rw c.requires (behind_first c.args.texts.now))
