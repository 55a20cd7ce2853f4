-- `loader::get_status` meets its contract. Assumes nothing.
use Rattle.loader.proofs.Requests.{status_is}
use Rattle.loader.proofs.get_status.Goals as goal

pub returns : goal.returns
returns c =
    rw c.answered.ensures (status_is _ _ _ _ _ _ _ _ _ _ c.run-ran.ensures c.report.ensures c.write_status.ensures c.status.ensures)
