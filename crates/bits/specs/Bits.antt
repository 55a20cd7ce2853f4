-- Bits kept eight to a byte. Assumes nothing.
use Rattle.std.specs.Prelude.{◌≡◌, Bool, true, false, not, ◌&&◌, ◌||◌, List, ℕ, zero, suc, ◌+◌, ◌/◌, ◌%◌, ◌^◌, eqb, leb, ltb, length, get_or}
use Rattle.laws.specs.Lists.{all_bytes}

-- is the bit at this place set? The lowest of a byte comes first, and past the end none is set.
unfoldable pub bit_at : List ℕ → ℕ → Bool
bit_at bs i = eqb (get_or bs (i / 8) 0 / 2 ^ (i % 8) % 2) 1

-- does a test pass at one of `count` places from place `from` on?
unfoldable pub any_from : (ℕ → Bool) → ℕ → ℕ → Bool
any_from test from zero = false
any_from test from (suc count) = test from || any_from test (suc from) count

-- is one of `count` bits from place `from` on set?
unfoldable pub some_set : ℕ → ℕ → List ℕ → Bool
some_set from count bs = any_from (bit_at bs) from count

-- is place i one of `count` places from place `from` on?
unfoldable pub within : ℕ → ℕ → ℕ → Bool
within from count i = leb from i && ltb i (from + count)

-- `after` is `bs` with `count` bits set from place `from` on, and no other changed
pub record Marked (from count : ℕ) (bs after : List ℕ) : Type 0 where
  pub kept : length after ≡ length bs
  pub bits : (i : ℕ) → bit_at after i ≡ (bit_at bs i || within from count i)
  pub bytes : all_bytes bs ≡ true → all_bytes after ≡ true

-- so it is, and `clear` says whether none of them was set before
abbrev pub Takes : ℕ → ℕ → List ℕ → List ℕ → Bool → Type 0
Takes from count bs after clear = (clear ≡ not (some_set from count bs)) × Marked from count bs after
