-- The walk over a text in place: what stands where. Document 01, "Job text". Assumes nothing.
use Rattle.std.specs.Prelude.{cond, List, ℕ, ◌+◌, leb, length, drop}
use Rattle.request.specs.Setup.{setup_of}
use Rattle.text.specs.declared.Item.{Item}
use Rattle.text.specs.declared.Item.TheVariants as item
use Rattle.line.specs.Event.{Event, attach, request}
use Rattle.laws.specs.Lines.{first_line}
use Rattle.line.specs.Line.{data_from, event_of, well_spelled}

-- what stands at a place of a text: n is the length of its line
unfoldable pub item_for : ℕ → ℕ → Event → Item
item_for at n attach = item.Attach (at + n)
item_for at n (request q) = item.Request (setup_of q) (at + data_from) (at + n)

-- the walk: the event that begins at a place, where its data begin, and where the next line begins
unfoldable pub item_of : List ℕ → ℕ → Item
item_of t at =
    cond (leb (length t) at) item.End
    (cond (well_spelled (first_line (drop at t))) (item_for at (length (first_line (drop at t))) (event_of (first_line (drop at t)))) item.Bad)
