-- Fresh boards, and the events that fail on one. Document 01, "The checker and the plan"; the customer's third demand.
-- Assumes nothing.
use Rattle.std.specs.Prelude.{◌≡◌, Bool, true, false, not, ◌&&◌, ◌||◌, List, [], ◌∷◌, ℕ, zero, suc, eqb, length, get_or}
use Rattle.laws.specs.Lists.{all_bytes}
use Rattle.board.specs.declared.Board.{Board}
use Rattle.board.specs.Layout.{memory_bytes}
use Rattle.board.specs.Memory.{options_of}
use Rattle.request.specs.Request.{transfer_bytes, request_of, is_get_status}
use Rattle.request.specs.Setup.{setup_of}
use Rattle.device.specs.State.{started}
use Rattle.line.specs.Event.{Event, attach, request}
use Rattle.loader.specs.Answer.{reply_told, stall_told, silent_told, Outcome}
use Rattle.loader.specs.World.{World, world_of, stepped_of}

-- "every board of our layout with those option bytes, freshly attached, with any flash and RAM contents", whatever block
-- and reply buffer hold
pub record Fresh (board : Board) (card : List ℕ) (w : World) : Type 0 where
  pub device : w.device ≡ started board
  pub memory : length w.memory ≡ memory_bytes board
  pub bytes : all_bytes w.memory ≡ true
  pub options : options_of board w.memory ≡ card
  pub block : length w.block ≡ transfer_bytes
  pub reply : length w.reply ≡ transfer_bytes

-- the event is a GETSTATUS
abbrev pub asks_status : Event → Bool
asks_status attach = false
asks_status (request q) = is_get_status (request_of (setup_of q))

-- "a Stall, Silent or a GETSTATUS reply with nonzero status"
unfoldable pub fails : Event → Outcome → Bool
fails e o =
    (eqb (get_or o.answer 0 0) stall_told || eqb (get_or o.answer 0 0) silent_told)
    || (asks_status e && (eqb (get_or o.answer 0 0) reply_told && not (eqb (get_or o.reply 0 0) 0)))

-- event k, here counted from 0, fails on the board
unfoldable pub fails_at : Board → List Event → ℕ → World → Bool
fails_at board [] k w = false
fails_at board (e ∷ es) zero w = fails e (stepped_of board w e)
fails_at board (e ∷ es) (suc k) w = fails_at board es k (world_of (stepped_of board w e))
