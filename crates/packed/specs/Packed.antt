-- Packed events: a list of them, and a packed list taken apart. Document 01, "Job text", last sentence, and "Refusal numbers", last sentence. Assumes nothing.
use Rattle.std.specs.Prelude.{Bool, true, cond, ◌&&◌, List, [], ◌∷◌, ◌++◌, ℕ, zero, suc, ◌+◌, ◌-◌, eqb, take, drop, get_or}
use Rattle.request.specs.Setup.{setup_of, data_length}
use Rattle.laws.specs.Lists.{same}
use Rattle.line.specs.Event.{Event, attach, request, fits}

-- "a byte 0 for Attach, or a byte 1 and then setup and data"
unfoldable pub pack_of : Event → List ℕ
pack_of attach = 0 ∷ []
pack_of (request q) = 1 ∷ q

-- "In memory a list of events is packed": each event stands behind the one before it
unfoldable pub packed_of : List Event → List ℕ
packed_of [] = []
packed_of (e ∷ es) = pack_of e ++ packed_of es

-- how many bytes the event at the front of a packed list asks for: "whose length follows from the setup"
unfoldable pub piece_size : List ℕ → ℕ
piece_size p = cond (eqb (get_or p 0 0) 1) (9 + data_length (setup_of (drop 1 p))) 1

-- the bytes of the first event; fewer than it asks for where the list ends inside it
unfoldable pub first_piece : List ℕ → List ℕ
first_piece p = take (piece_size p) p

-- the bytes of each event, after k bytes that are passed over
unfoldable pub pieces_after : ℕ → List ℕ → List (List ℕ)
pieces_after k [] = []
pieces_after zero (x ∷ p) = first_piece (x ∷ p) ∷ pieces_after (piece_size (x ∷ p) - 1) p
pieces_after (suc k) (x ∷ p) = pieces_after k p

-- the event that some packed bytes hold, if they hold one
unfoldable pub event_in : List ℕ → Event
event_in l = cond (eqb (get_or l 0 0) 0) attach (request (drop 1 l))

-- "another kind byte or one that ends inside an event" is not well packed
unfoldable pub well_packed : List ℕ → Bool
well_packed l = fits (event_in l) && same l (pack_of (event_in l))

-- each of some pieces is a whole event
unfoldable pub all_packed : List (List ℕ) → Bool
all_packed [] = true
all_packed (l ∷ ls) = well_packed l && all_packed ls

-- the events of some pieces
unfoldable pub events_among : List (List ℕ) → List Event
events_among [] = []
events_among (l ∷ ls) = event_in l ∷ events_among ls

-- the packed list has whole events only
unfoldable pub packs : List ℕ → Bool
packs p = all_packed (pieces_after 0 p)

-- the events of a packed list
unfoldable pub unpacked : List ℕ → List Event
unpacked p = events_among (pieces_after 0 p)
