-- `record::sum` meets its contract. Assumes nothing.
use Rattle.std.proofs.Common.{rules, tests, ◌+◌, ◌%◌, ◌∙◌, arith, zero-add}
use Rattle.std.proofs.lemmas.Iterator.{YieldsList-from_slice}
use Rattle.std.proofs.lemmas.Iterator.Consumers.{fold_from_yields_List}
use Rattle.record.proofs.Sums.{sum_fold}
use Rattle.record.proofs.sum.Goals as goal

pub returns : goal.returns
returns c =
    fold_from_yields_List _ (λ a x. (a + x) % 256) 0 c.fold.result c.fold.ensures.ran (YieldsList-from_slice c.args.bytes.now cc) (λ a x b q k. search (rules, tests)) ∙ sum_fold 0 c.args.bytes.now (omega arith) ∙ rw zero-add
