-- An event and its line. Document 01, "Events" and "Job text". Assumes nothing.
use Rattle.std.specs.Prelude.{Bool, true, List, [], ◌∷◌, ◌++◌, ℕ, take, drop}
use Rattle.request.specs.Setup.{fits_of}
use Rattle.laws.specs.Lists.{all_bytes}
use Rattle.hexfield.specs.Hex.{hex_of}

-- "An event is Attach or a request": the request with its setup and its data
pub data Event : Type 0 where
  attach : Event
  request : List ℕ → Event

-- "followed by wLength data bytes if bit 7 of bmRequestType is clear, else none"
unfoldable pub fits : Event → Bool
fits attach = true
fits (request q) = fits_of q

-- the event holds bytes only
unfoldable pub in_bytes : Event → Bool
in_bytes attach = true
in_bytes (request q) = all_bytes q

-- "`A`, or `Q`, tab, 16 hex digits of setup, tab, data in hex", "each line ended by LF"
unfoldable pub line_of : Event → List ℕ
line_of attach = 65 ∷ 10 ∷ []
line_of (request q) = 81 ∷ 9 ∷ (hex_of (take 8 q) ++ (9 ∷ (hex_of (drop 8 q) ++ (10 ∷ []))))
