-- A board, and events on it one after the other. Document 01, "Events"; the customer's third demand. Assumes nothing.
use Rattle.std.specs.Prelude.{List, [], ◌∷◌, ℕ}
use Rattle.device.specs.declared.Device.{Device}
use Rattle.line.specs.Event.{Event, attach, request}
use Rattle.loader.specs.declared.Event.TheVariants as event
use Rattle.loader.specs.Answer.{Outcome}
use Rattle.loader.specs.Step.{step_of}
use Rattle.board.specs.declared.Board.{Board}

-- a board at some moment: the loader's state, and what it was lent
pub record World : Type 0 where
  pub device : Device
  pub memory : List ℕ
  pub block : List ℕ
  pub reply : List ℕ

-- an event on a board: the loader's step
unfoldable pub stepped_of : Board → World → Event → Outcome
stepped_of board w attach = step_of board w.device event.Attach [] w.memory w.block w.reply
stepped_of board w (request q) = step_of board w.device event.Request q w.memory w.block w.reply

-- the board after a step
abbrev pub world_of : Outcome → World
world_of o = record { device = o.device; memory = o.memory; block = o.block; reply = o.reply }

-- the board after some events
unfoldable pub after : Board → List Event → World → World
after board [] w = w
after board (e ∷ es) w = after board es (world_of (stepped_of board w e))
