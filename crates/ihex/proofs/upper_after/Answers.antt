-- `ihex::upper_after` meets its contract. Assumes nothing.
use native.Mathlib.Omega.{arith}
use Rattle.record.specs.Record.{type_of}
use Rattle.record.proofs.Sums.{upper_two}
use Rattle.ihex.proofs.Laying.{upper_here, upper_stays}
use Rattle.ihex.proofs.upper_after.Goals as goal

pub bounds-record-5 : goal.bounds-record-5
unfolding type_of
bounds-record-5 c =
    let l = c.requires.0 in
    let t = upper_two c.args.«record».now c.requires.1 c.if-record-eq-UPPER.true in
    omega arith

pub returns-then-record-eq-UPPER : goal.returns-then-record-eq-UPPER
returns-then-record-eq-UPPER c = upper_here _ _ _ c.if-record-eq-UPPER.true c.word.ensures

pub returns : goal.returns
returns c = upper_stays _ _ c.if-record-eq-UPPER.false
