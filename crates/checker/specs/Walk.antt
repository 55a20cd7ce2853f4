-- How what the checker's inner functions answer is read: a device of the proof, which no public promise names. Assumes nothing.
use Rattle.std.specs.Prelude.{◌≡◌, true, List, ℕ, suc, ◌≤◌, ◌<◌, length, drop, get_or, Option, None, Some, Result, Ok, Err}
use Rattle.board.specs.declared.Board.{Board}
use Rattle.board.specs.Memory.{flash_at}
use Rattle.device.specs.declared.Device.{Device}
use Rattle.states.specs.WellFormed.{well_formed}
use Rattle.text.specs.Text.{first_bad, events_of}
use Rattle.marks.specs.Work.{Work}
use Rattle.judgement.specs.Judgement.{Over, fell, ended, over_of}
use Rattle.checker.specs.declared.Onward.{Onward}

-- from a place on, the text has no malformed line
abbrev pub Ahead : List ℕ → ℕ → Type 0
Ahead t at = first_bad (drop at t) ≡ 0

-- one event further, with the device d' and the work area w', the events behind it come to the same
pub record Further (board : Board) (t : List ℕ) (at : ℕ) (d : Device) (w : Work) (d' : Device) (behind : ℕ) (w' : Work) : Type 0 where
  pub over : (k : ℕ) → over_of board (events_of (drop at t)) d w k ≡ over_of board (events_of (drop behind t)) d' w' (suc k)
  pub ahead : Ahead t behind
  pub more : at < behind
  pub within : behind ≤ length t
  pub form : well_formed board d' ≡ true

-- where the event falls, the whole does with it; otherwise it goes on behind the event
pub record Advanced (board : Board) (t : List ℕ) (at : ℕ) (d : Device) (w : Work) (r : Option Onward) (w' : Work) : Type 0 where
  pub fallen : r ≡ None → (k : ℕ) → over_of board (events_of (drop at t)) d w k ≡ fell (suc k)
  pub further : (o : Onward) → r ≡ Some o → Further board t at d w o.device o.behind w'

-- a run's outcome, with the work area that it left
abbrev pub over_as : Result Device ℕ → Work → Over
over_as (Ok d) w = ended d w
over_as (Err k) w = fell k

-- flash begins with the image, and is erased from there up to offset `end`
pub record InPlace (board : Board) (m image : List ℕ) (end : ℕ) : Type 0 where
  pub image_laid : (f : ℕ) → f < length image → flash_at board m f ≡ get_or image f 0
  pub rest-erased : (f : ℕ) → length image ≤ f → f < end → flash_at board m f ≡ 0xFF
