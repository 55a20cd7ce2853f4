-- `ihex::ended` meets its contract. Assumes nothing.
use Rattle.ihex.specs.Ways.{ended_of}
use borrow.Author.Tests.{eq-eqb, ne_eqb}
use Rattle.ihex.proofs.ended.Goals as goal

pub returns-then-left-ne0 : goal.returns-then-left-ne0
unfolding ended_of
returns-then-left-ne0 c = rw (ne_eqb _ _ c.if-left-ne0.true) c.stopped.ensures

pub returns-then-end-eq0 : goal.returns-then-end-eq0
unfolding ended_of
returns-then-end-eq0 c = rw (eq-eqb _ _ c.if-left-ne0.false, eq-eqb _ _ c.if-end-eq0.true) c.stopped-then-end-eq0.ensures

pub returns : goal.returns
unfolding ended_of
returns c = simp (c.if-left-ne0.false, ne_eqb _ _ c.if-end-eq0.false)
