-- How long a work area is. Document 01, "Refusal numbers", row 6. Assumes nothing.
use Rattle.std.specs.Prelude.{ℕ, ◌+◌}
use Rattle.board.specs.declared.Board.{Board}
use Rattle.board.specs.Layout.{memory_bytes}
use Rattle.request.specs.Request.{transfer_bytes}

-- row 6: the work area has room for memory twice and for a block
abbrev pub work_bytes : Board → ℕ
work_bytes board = memory_bytes board + memory_bytes board + transfer_bytes
