-- `buffer::bytes_at` meets its contract. Assumes nothing.
use Rattle.std.proofs.Common.{◌≡◌, ℕ, ◌+◌, ◌<◌, length, get_or}
use Rattle.buffer.proofs.bytes_at.Given as goal

abbrev pub invariant-loop-k : goal.invariant-loop-k
invariant-loop-k g l = (length l.these ≡ g.row.N) × ((j : ℕ) → j < l.k → get_or l.these j 0 ≡ get_or l.bytes (l.at + j) 0)
