-- What only the code of this crate goes by: a whole byte at a time where it can, else one bit. Assumes nothing.
use Rattle.std.specs.Prelude.{Bool, not, cond, ◌&&◌, ℕ, ◌-◌, ◌/◌, ◌%◌, ◌^◌, eqb, leb}
use Rattle.std.specs.Int.Bits.{bit_or}

-- how many bits are taken at once from place i on, up to place `to`
unfoldable pub stride_of : ℕ → ℕ → ℕ
stride_of i to = cond (eqb (i % 8) 0 && leb 8 (to - i)) 8 1

-- is one of these bits set in the byte that holds place i?
unfoldable pub hit_of : ℕ → ℕ → ℕ → Bool
hit_of byte i stride = cond (eqb stride 8) (not (eqb byte 0)) (eqb (byte / 2 ^ (i % 8) % 2) 1)

-- that byte with these bits set
unfoldable pub marked_of : ℕ → ℕ → ℕ → ℕ
marked_of byte i stride = cond (eqb stride 8) 255 (bit_or byte (2 ^ (i % 8)))
