-- The setup packet. Document 01, "Events". Assumes nothing.
use Rattle.std.specs.Prelude.{Bool, cond, ◌&&◌, List, ℕ, ◌+◌, ◌*◌, eqb, leb, ltb, length, get_or}
use Rattle.request.specs.declared.Setup.{Setup}

-- two bytes of q from place i on, low byte first
abbrev pub pair_at : List ℕ → ℕ → ℕ
pair_at q i = get_or q i 0 + get_or q (i + 1) 0 * 256

-- "the setup bytes (bmRequestType, bRequest, then wValue, wIndex, wLength, low byte first)"
unfoldable pub setup_of : List ℕ → Setup
setup_of q = record { kind = get_or q 0 0; code = get_or q 1 0; value = pair_at q 2; index = pair_at q 4; length = pair_at q 6 }

-- "followed by wLength data bytes if bit 7 of bmRequestType is clear, else none"
unfoldable pub data_length : Setup → ℕ
data_length s = cond (ltb s.kind 128) s.length 0

-- "Refusal numbers", row 5, turned round: eight bytes or more, and the right data length
unfoldable pub fits_of : List ℕ → Bool
fits_of q = leb 8 (length q) && eqb (length q) (8 + data_length (setup_of q))
