-- `checker::search` meets its contract. Assumes nothing.
use Rattle.std.proofs.Common.{refl, rules}
use Rattle.std.proofs.lemmas.Iterator.{YieldsList-from_range}
use Rattle.std.proofs.lemmas.Iterator.Search.{find_from_yields_List}
use Rattle.board.specs.Layout.{flash_bytes}
use Rattle.marks.specs.Work.{work_of}
use Rattle.judgement.specs.Judgement.{suspect}
use Rattle.checker.proofs.Walking.{found_lowest}
use Rattle.checker.proofs.search.Goals as goal

pub returns : goal.returns
returns c =
    let test = suspect c.args.board c.args.image.now (work_of c.args.board c.args.work.now) in
    let n = flash_bytes c.args.board in
    found_lowest test _ n (find_from_yields_List test _ _ _ c.find.ensures.ran (YieldsList-from_range 0 c.flash_bytes.result n refl (search rules)) (λ x b q h. search rules))
