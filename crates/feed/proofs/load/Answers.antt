-- `feed::load` meets its contract. Assumes nothing.
use Rattle.std.proofs.Common.{◌+◌, ◌≤◌, length, arith}
use Rattle.feed.proofs.Loading.{loaded_part}
use Rattle.feed.proofs.load.Goals as goal

pub returns : goal.returns
returns c =
    let a = c.args in
    let r = c.full in
    let f : a.at + a.count ≤ length a.buffer.now = omega arith in
    loaded_part _ r.new.out _ _ _ f r.auto.out r.ensures
