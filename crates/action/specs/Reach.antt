-- How far an action reaches, for who performs it: no rule of the paper, and the promise of no call that a customer makes names it. Assumes nothing.
use Rattle.std.specs.Prelude.{◌+◌, ◌≤◌}
use Rattle.board.specs.declared.Board.{Board}
use Rattle.board.specs.Layout.{flash_pages, memory_bytes}
use Rattle.request.specs.Request.{transfer_bytes}
use Rattle.action.specs.declared.Action.{Action}
use Rattle.action.specs.Action.{writes_of, erases_of}

-- an action that ends within memory and flash, and takes no more than a transfer
pub record Fits (board : Board) (action : Action) : Type 0 where
  pub ends : (writes_of action).at + (writes_of action).count ≤ memory_bytes board
  pub pages : (erases_of board action).first + (erases_of board action).count ≤ flash_pages board
  pub count : (writes_of action).count ≤ transfer_bytes
