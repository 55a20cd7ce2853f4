-- The law of `Loaded`: what reading into a part of a buffer leaves. Assumes nothing.
use mathlib.Core.Path.{◌≡◌, ◌∙◌}
use mathlib.Core.List.{List}
use Prim.Native.Nat.{ℕ, ◌+◌, ◌-◌, ◌≤◌}
use native.Mathlib.Omega.{arith}
use borrow.Rule.Slice.PartMut.{mid_of, mid_len, put_mid, take_put, drop_put}
use lib.ListN.{length}
use Rattle.feed.specs.Feed.{Loaded}

-- the part that was read into is back in its place
pub loaded_part : (m ys : List ℕ) (at count n : ℕ) → at + count ≤ length m → length ys ≡ length (mid_of at (at + count - at) m) → n ≤ length ys → Loaded at count (at + n) m (put_mid at (at + count - at) m ys)
loaded_part m ys at count n h l k =
    let a : at ≤ at + count = omega arith in
    let b : at ≤ length m = omega arith in
    let e : length ys ≡ at + count - at = l ∙ mid_len at (at + count) m h in
    record {
      first = omega arith;
      last = omega arith;
      front = take_put at (at + count - at) m ys b;
      rest = drop_put at (at + count) m ys a h e;
      none = λ few. let no : ⊥ = omega arith in absurd no;
    }
