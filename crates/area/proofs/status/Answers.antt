-- `area::status` meets its contract. Assumes nothing.
use Rattle.action.proofs.Bounds.{action_fits}
use Rattle.area.proofs.status.Goals as goal

pub act-status-requires : goal.act-status-requires
act-status-requires c =
    let f = action_fits _ c.requires.0 c.read_protected-protected.result c.args.device c.requires.2 in
    rw c.intend-action.ensures (c.requires.0, c.requires.1, f)
