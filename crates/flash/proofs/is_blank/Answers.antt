-- `flash::is_blank` meets its contract. Assumes nothing.
use Rattle.std.proofs.Common.{◌∙◌, ◌||◌, ℕ, ◌+◌, eqb, get_or, refl, rules, arith}
use Rattle.std.proofs.lemmas.Iterator.{YieldsList-from_range}
use Rattle.std.proofs.lemmas.Iterator.Search.{all_from_yields_List}
use Rattle.flash.specs.Flash.{kept, blank}
use Rattle.flash.proofs.Flash.{each_listed}
use Rattle.flash.proofs.is_blank.Goals as goal

pub returns : goal.returns
unfolding blank
returns c =
    let test = λ (i : ℕ). eqb (get_or c.args.memory.now i 0) 0xFF || kept c.args.board c.args.word i in
    all_from_yields_List test _ _ _ c.all.ensures.ran (YieldsList-from_range c.args.at (c.args.at + c.args.count) c.args.count refl (omega arith)) (λ x b q h. search rules)
    ∙ each_listed _ _ _ _ _ _ c.requires
