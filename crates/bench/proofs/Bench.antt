-- The bench cases marked P, computed. Document 01, "Bench cases". Assumes nothing.
use mathlib.Core.Path.{◌≡◌, refl}
use mathlib.Core.Bool.{true}
use mathlib.Core.List.{List, [], map}
use Prim.Native.Nat.{ℕ}
use lib.ListN.{length, replicate, length-replicate}
use Rattle.board.specs.Layout.{logger, option_bytes}
use Rattle.board.proofs.Logger.{logger-sound}
use Rattle.laws.specs.Lists.{all_bytes}
use Rattle.verdict.specs.declared.Verdict.TheVariants.{End}
use Rattle.demand.specs.Verdict.{end_fails, Judged}
use Rattle.marks.specs.Area.{work_bytes}
use Rattle.marks.specs.Work.{work_of}
use Rattle.marks.proofs.View.{work_sized}
use Rattle.judgement.specs.Judgement.{over_of, lowest_from, end_number, end_verdict, verdict_of}
use Rattle.judgement.proofs.Judgement.{judged}
use Rattle.bench.specs.Case.{found, found_in, expected_in}
use Rattle.bench.specs.Table.{table}

-- every case finds what it is to find
pub bench : map found_in table ≡ map expected_in table
unfolding found
bench = refl

-- "empty job: End 1", as the promised relation says it, for every image and every card of 16 bytes
pub empty_job : (image card : List ℕ) → length card ≡ option_bytes → all_bytes card ≡ true → Judged logger [] image card (End 1)
unfolding verdict_of over_of end_verdict end_number lowest_from end_fails
empty_job image card lc bytes =
    let work : List ℕ = replicate (work_bytes logger) 0 in
    judged logger [] image card (work_of logger work) logger-sound (work_sized logger work (length-replicate {A = ℕ} (work_bytes logger) 0)) lc bytes tt
