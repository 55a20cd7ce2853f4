-- Laws of ramps, repeated bytes and digests: a turn of each loop, its end, and a digest as a fold. Assumes nothing.
use Rattle.std.proofs.Common.{◌≡◌, ℕ, zero, suc, ◌+◌, ◌-◌, ◌%◌, ◌^◌, ◌<◌, ◌≤◌, Bool, false, not, ◌&&◌, ltb, leb, List, [], ◌∷◌, fold, length, get_or, take, set, sym, refl, ap, ◌∙◌, append-nil, add-zero, add_assoc, add-one, arith, take-append-drop, ltb-true, leb-true}
use borrow.Author.Tests.{not-false}
use lib.Seq.{sets}
use Rattle.laws.specs.Bytes.{put}
use Rattle.laws.proofs.Bytes.{sets-put}
use Rattle.laws.proofs.Split.{by_lt, and_true}
use Rattle.buffer.specs.Least.{least_of}
use Rattle.vectors.specs.Vectors.{ramp_of, ramped_of, room_for, again_of, repeats_of, mix_of, mixed_of}

pub ramp_turn : (m : List ℕ) (at i n b b' step : ℕ) → i < n → b' ≡ (b + step) % 2 ^ 8 → sets m (at + i) (ramp_of (n - i) b step) ≡ sets (set m (at + i) b) (at + (i + 1)) (ramp_of (n - (i + 1)) b' step)
unfolding ramp_of
ramp_turn m at i n b b' step h e =
    let k : n - i ≡ suc (n - (i + 1)) = omega arith in
    rw (k, e, ← add_assoc at i 1, add-one (at + i))

pub ramp_end : (m : List ℕ) (at i n b step : ℕ) → n ≤ i → sets m at (ramp_of (n - i) b step) ≡ m
unfolding ramp_of
ramp_end m at i n b step h =
    let k : n - i ≡ 0 = omega arith in
    rw k

ramp_length : (n b step : ℕ) → length (ramp_of n b step) ≡ n
unfolding ramp_of
ramp_length zero b step = refl
ramp_length (suc n) b step = ap suc (ramp_length n ((b + step) % 0x100) step)

put_nothing : (m : List ℕ) (at : ℕ) → put at [] m ≡ m
unfolding put
put_nothing m at = rw (append-nil (take at m), add-zero at) (take-append-drop at m)

no_ramp : (m : List ℕ) (at b step : ℕ) → sets m at (ramp_of 0 b step) ≡ put at (ramp_of 0 b step) m
unfolding ramp_of
no_ramp m at b step = sym (put_nothing m at)

-- what the whole loop lays
pub ramp_laid : (m : List ℕ) (at count b step room end : ℕ) → room ≡ length m - at → end ≡ least_of count room → end ≤ room → sets m at (ramp_of end b step) ≡ ramped_of at count b step m
unfolding ramped_of
ramp_laid m at count b step room end r e few =
    let same : ramp_of end b step ≡ ramp_of (least_of count (length m - at)) b step = ap (λ (n : ℕ). ramp_of n b step) e ∙ ap (λ (n : ℕ). ramp_of (least_of count n) b step) r in
    let l : length (ramp_of end b step) ≡ end = ramp_length end b step in
    by_lt (length m) at
    (λ past. let none : end ≡ 0 = omega arith in ap (λ (n : ℕ). sets m at (ramp_of n b step)) none ∙ no_ramp m at b step ∙ ap (λ (n : ℕ). put at (ramp_of n b step) m) (sym none) ∙ ap (λ (xs : List ℕ). put at xs m) same)
    (λ h. let fit : at + length (ramp_of end b step) ≤ length m = omega arith in sets-put (ramp_of end b step) m at fit ∙ ap (λ (xs : List ℕ). put at xs m) same)

pub again_turn : (m : List ℕ) (i n from period at : ℕ) → i < n → again_of (n - i) i from period at m ≡ again_of (n - (i + 1)) (i + 1) from period at (set m (at + i) (get_or m (from + i % period) 0))
unfolding again_of
again_turn m i n from period at h =
    let k : n - i ≡ suc (n - (i + 1)) = omega arith in
    rw (k, add-one i)

pub again_end : (m : List ℕ) (i n from period at : ℕ) → n ≤ i → again_of (n - i) i from period at m ≡ m
unfolding again_of
again_end m i n from period at h =
    let k : n - i ≡ 0 = omega arith in
    rw k

-- what the test tells
pub repeats_told : (size from period at count : ℕ) (r : Bool) → r ≡ repeats_of size from period at count → not r ≡ false → (0 < period) × (from + period ≤ size) × (at + count ≤ size)
unfolding repeats_of room_for
repeats_told size from period at count r e t =
    let p = and_true (ltb 0 period) (leb (from + period) size && leb (at + count) size) (sym e ∙ not-false r t) in
    let q = and_true (leb (from + period) size) (leb (at + count) size) p.1 in
    (ltb-true _ _ p.0, leb-true _ _ q.0, leb-true _ _ q.1)

-- a digest is a fold
pub mixed_folded : (d : ℕ) (ns : List ℕ) → mixed_of d ns ≡ fold (λ a n. mix_of a n) d ns
unfolding mixed_of
mixed_folded d [] = refl
mixed_folded d (n ∷ ns) = mixed_folded (mix_of d n) ns
