-- `acts::is_sure` meets its contract. Assumes nothing.
use Rattle.std.proofs.Common.{◌∙◌, ◌||◌, ℕ, ◌+◌, refl, rules, arith}
use Rattle.std.proofs.lemmas.Iterator.{YieldsList-from_range}
use Rattle.std.proofs.lemmas.Iterator.Search.{all_from_yields_List}
use Rattle.flash.specs.Flash.{kept}
use Rattle.marks.specs.Work.{work_of, known}
use Rattle.acts.proofs.Sureness.{sure_listed}
use Rattle.acts.proofs.is_sure.Goals as goal

pub returns : goal.returns
returns c =
    let test = λ (i : ℕ). known (work_of c.args.board c.args.work.now) i || kept c.args.board c.args.word i in
    all_from_yields_List test _ _ _ c.all.ensures.ran (YieldsList-from_range c.args.at (c.args.at + c.args.count) c.args.count refl (omega arith)) (λ x b q h. search rules)
    ∙ sure_listed _ _ _ _ _
