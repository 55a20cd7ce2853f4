-- A packed event on a board. Document 01, "Job text", last sentences, and "Events". Assumes nothing.
use Rattle.std.specs.Prelude.{List, ℕ}
use Rattle.board.specs.Layout.{logger}
use Rattle.device.specs.declared.Device.{Device}
use Rattle.loader.specs.Answer.{Outcome}
use Rattle.packed.specs.Packed.{event_in}
use Rattle.loader.specs.World.{World, stepped_of}

-- the board with this device, memory, block buffer and reply buffer
abbrev pub world : Device → List ℕ → List ℕ → List ℕ → World
world d m b y = record { device = d; memory = m; block = b; reply = y }

-- "a byte 0 for Attach, or a byte 1 and then setup and data": the event of a piece, on the logger's board
unfoldable pub played_of : Device → List ℕ → List ℕ → List ℕ → List ℕ → Outcome
played_of d piece m b y = stepped_of logger (world d m b y) (event_in piece)
