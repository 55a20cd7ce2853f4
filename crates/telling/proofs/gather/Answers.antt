-- `telling::gather` meets its contract. Assumes nothing.
use Rattle.telling.proofs.Gathering.{gathers_nothing, gathers_events}
use Rattle.telling.proofs.gather.Goals as goal

pub returns-then-told_at_once : goal.returns-then-told_at_once
returns-then-told_at_once c = gathers_nothing _ _ _ _ c.told_at_once.ensures c.if-told_at_once.true

pub returns : goal.returns
returns c =
    gathers_events _ _ _ _ c.told_at_once.ensures c.read.result _ c.if-told_at_once.false c.read.ensures
