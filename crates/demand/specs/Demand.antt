-- The customer's third demand, in plain words: what a board has to do with a job that passes. Assumes nothing.
use Rattle.std.specs.Prelude.{◌≡◌, true, false, List, ℕ, ◌≤◌, ◌<◌, length, get_or}
use Rattle.board.specs.declared.Board.{Board}
use Rattle.board.specs.Layout.{flash_first, flash_bytes}
use Rattle.board.specs.Memory.{flash_at, options_of}
use Rattle.line.specs.Event.{Event}
use Rattle.loader.specs.World.{World, after}
use Rattle.demand.specs.Boards.{Fresh, fails_at}
use Rattle.demand.specs.Verdict.{is_left, pages_end}

-- the board w "runs it without a stall, a silence or an error status, and is then started from the first flash address with the
-- image in place, the rest of its last page erased, and every other flash page and the option bytes as before"
pub record Works (board : Board) (es : List Event) (image card : List ℕ) (w : World) : Type 0 where
  pub clean : (k : ℕ) → fails_at board es k w ≡ false
  pub started : is_left (after board es w).device.mode ≡ true
  pub first : (after board es w).device.pointer ≡ flash_first board
  pub image_placed : (f : ℕ) → f < length image → flash_at board (after board es w).memory f ≡ get_or image f 0
  pub rest-erased : (f : ℕ) → length image ≤ f → f < pages_end board image → f < flash_bytes board → flash_at board (after board es w).memory f ≡ 0xFF
  pub others_kept : (f : ℕ) → pages_end board image ≤ f → f < flash_bytes board → flash_at board (after board es w).memory f ≡ flash_at board w.memory f
  pub options-kept : options_of board (after board es w).memory ≡ card

-- "every board of our layout with those option bytes, freshly attached, with any flash and RAM contents"
abbrev pub AllWork : Board → List Event → List ℕ → List ℕ → Type 0
AllWork board es image card = (w : World) → Fresh board card w → Works board es image card w
