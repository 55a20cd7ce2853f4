-- What inner functions ask of their callers: no rule of the paper, and no public promise names it. Assumes nothing.
use Rattle.std.specs.Prelude.{◌≡◌, true, List, ℕ, length}
use Rattle.board.specs.declared.Board.{Board}
use Rattle.board.specs.Layout.{memory_bytes}
use Rattle.board.specs.Sound.{Sound}
use Rattle.request.specs.Request.{transfer_bytes}
use Rattle.request.specs.Setup.{fits_of}
use Rattle.device.specs.declared.Device.{Device}
use Rattle.states.specs.WellFormed.{well_formed}

-- a call that no refusal stops, on a board that proofs can be made about
pub record InOrder (board : Board) (d : Device) (q m b y : List ℕ) : Type 0 where
  pub sound : Sound board
  pub memory : length m ≡ memory_bytes board
  pub block : length b ≡ transfer_bytes
  pub reply : length y ≡ transfer_bytes
  pub device : well_formed board d ≡ true
  pub request : fits_of q ≡ true
