-- The event that a line spells. Document 01, "Job text"; document 02, CR 2. Assumes nothing.
use Rattle.std.specs.Prelude.{Bool, cond, ◌&&◌, ◌⊎◌, List, ◌++◌, ℕ, ◌+◌, ◌-◌, ◌≤◌, ◌<◌, eqb, length, take, drop, get_or}
use Rattle.hexfield.specs.Hex.{capital_part, bytes_of}
use Rattle.laws.specs.Lists.{same}
use Rattle.line.specs.Event.{Event, attach, request, fits, line_of}

-- where the hex fields of a request's line begin, and how many digits they have: the setup's behind `Q` and a tab
abbrev pub setup_from : ℕ
setup_from = 2

abbrev pub setup_digits : ℕ
setup_digits = 16

-- the data's behind the next tab, up to the line's last byte, which is the LF of a well-formed line
abbrev pub data_from : ℕ
data_from = 19

abbrev pub data_digits : List ℕ → ℕ
data_digits l = length l - 20

-- a place of a line lies in one of them
abbrev pub InField : List ℕ → ℕ → Type 0
InField l i =
    ((setup_from ≤ i) × (i < setup_from + setup_digits)) ⊎ ((data_from ≤ i) × (i < data_from + data_digits l))

-- the event that a line spells, if it spells one
unfoldable pub event_of : List ℕ → Event
event_of l =
    cond (eqb (get_or l 0 0) 65) attach
    (request (bytes_of (take setup_digits (drop setup_from l)) ++ bytes_of (take (data_digits l) (drop data_from l))))

-- "the capital spelling": the hex fields of a line of `Q` in capitals, and no other byte changed
unfoldable pub capital_line : List ℕ → List ℕ
capital_line l = cond (eqb (get_or l 0 0) 81) (capital_part setup_from setup_digits (capital_part data_from (data_digits l) l)) l

-- a line is well formed where its capital spelling is the line of the event that it spells, and "the data must have the length the event rule asks"
unfoldable pub well_spelled : List ℕ → Bool
well_spelled l = fits (event_of l) && same (capital_line l) (line_of (event_of l))
