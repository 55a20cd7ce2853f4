-- What the programs that play vectors make of buffers: no rule of the paper. Assumes nothing.
use Rattle.std.specs.Prelude.{ℕ, zero, suc, ◌+◌, ◌-◌, ◌*◌, ◌%◌, Bool, cond, not, ◌&&◌, ◌||◌, List, [], ◌∷◌, length, ◌==◌, nat_le, nat_lt, slice_index, slice_set}
use Rattle.laws.specs.Bytes.{put}
use Rattle.buffer.specs.Least.{least_of}

-- so many bytes, each by the step more than the one before, modulo 256
unfoldable pub ramp_of : ℕ → ℕ → ℕ → List ℕ
ramp_of zero seed step = []
ramp_of (suc n) seed step = seed ∷ ramp_of n ((seed + step) % 0x100) step

-- they go over the bytes from place `at` on, as far as there are any
unfoldable pub ramped_of : ℕ → ℕ → ℕ → ℕ → List ℕ → List ℕ
ramped_of at count seed step out = put at (ramp_of (least_of count (length out - at)) seed step) out

-- is there room for `count` bytes from place `at` on
unfoldable pub room_for : ℕ → ℕ → ℕ → Bool
room_for size at count = nat_le (at + count) size

-- what a call leaves: the place behind its bytes, and the buffer
pub record Repeated : Type 0 where
  pub place : ℕ
  pub out : List ℕ

-- the two in one
abbrev pub left : ℕ → List ℕ → Repeated
left place out = record { place = place; out = out }

-- n bytes from the i-th behind place `at` on become, one by one, those of the period at place `from`, over and over
unfoldable pub again_of : ℕ → ℕ → ℕ → ℕ → ℕ → List ℕ → List ℕ
again_of zero i from period at m = m
again_of (suc n) i from period at m = again_of n (suc i) from period at (slice_set m (at + i) (slice_index m (from + i % period)))

-- there is a period, and room for it and for the bytes
unfoldable pub repeats_of : ℕ → ℕ → ℕ → ℕ → ℕ → Bool
repeats_of size from period at count = nat_lt 0 period && (room_for size from period && room_for size at count)

-- so many bytes of it, or nothing at all
unfoldable pub repeated_of : ℕ → ℕ → ℕ → ℕ → List ℕ → Repeated
repeated_of from period at count m = cond (repeats_of (length m) from period at count) (left (at + count) (again_of count 0 from period at m)) (left at m)

-- a digest with one more number in it
abbrev pub mix_of : ℕ → ℕ → ℕ
mix_of digest n = (digest % 4294967291 * 257 + n % 4294967291 + 1) % 4294967291

-- a digest with more numbers in it, one after the other
unfoldable pub mixed_of : ℕ → List ℕ → ℕ
mixed_of digest [] = digest
mixed_of digest (n ∷ ns) = mixed_of (mix_of digest n) ns

-- the small letter of a capital among A to F; any other byte stays
unfoldable pub small_of : ℕ → ℕ
small_of b = cond (nat_le 65 b && nat_le b 70) (b + 32) b

-- a letter at place i becomes small: everywhere, or in mixed letters at the odd places
unfoldable pub small_at : Bool → ℕ → Bool
small_at mixed i = not mixed || i % 2 == 1

-- a byte in these letters; the first one of a line stays
unfoldable pub letter_of : Bool → Bool → ℕ → ℕ
letter_of first small b = cond first b (cond small (small_of b) b)

-- a text from place i on: a line begins where `first` says so, and behind each LF
unfoldable pub respelled_of : Bool → ℕ → Bool → List ℕ → List ℕ
respelled_of mixed i first [] = []
respelled_of mixed i first (b ∷ bs) = letter_of first (small_at mixed i) b ∷ respelled_of mixed (suc i) (b == 10) bs
