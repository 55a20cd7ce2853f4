-- The text of events, and the events of a text. Document 01, "Job text" and "Refusal numbers", row 10; document 02, CR 2. Assumes nothing.
use Rattle.std.specs.Prelude.{Bool, true, cond, ◌&&◌, List, [], ◌∷◌, ◌++◌, ℕ, suc}
use Rattle.laws.specs.Lines.{lines_of}
use Rattle.line.specs.Event.{Event, fits, in_bytes, line_of}
use Rattle.line.specs.Line.{event_of, capital_line, well_spelled}

-- "At most 60,000 bytes"
abbrev pub limit : ℕ
limit = 60000

-- events that a job can have: each with the right data length, and of bytes
unfoldable pub proper : List Event → Bool
proper [] = true
proper (e ∷ es) = (fits e && in_bytes e) && proper es

-- "One event a line"; "Empty text is a job of no events"
unfoldable pub text_of : List Event → List ℕ
text_of [] = []
text_of (e ∷ es) = line_of e ++ text_of es

-- row 10: of lines that are counted from k on, the number of the first malformed one; 0 where there is none
unfoldable pub bad_from : ℕ → List (List ℕ) → ℕ
bad_from k [] = 0
bad_from k (l ∷ ls) = cond (well_spelled l) (bad_from (suc k) ls) k

-- row 10: "the first one's number, from 1"
unfoldable pub first_bad : List ℕ → ℕ
first_bad t = bad_from 1 (lines_of t)

-- the events of some lines
unfoldable pub events_in : List (List ℕ) → List Event
events_in [] = []
events_in (l ∷ ls) = event_of l ∷ events_in ls

-- the events of a text
unfoldable pub events_of : List ℕ → List Event
events_of t = events_in (lines_of t)

-- the capital spelling of some lines
unfoldable pub capital_lines : List (List ℕ) → List ℕ
capital_lines [] = []
capital_lines (l ∷ ls) = capital_line l ++ capital_lines ls

-- CR 2: "the capital spelling of the text"
unfoldable pub capital_text : List ℕ → List ℕ
capital_text t = capital_lines (lines_of t)
