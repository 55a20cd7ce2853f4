-- The code's strides: how far one goes, what it sees and what it marks. Assumes nothing.
use mathlib.Core.Path.{◌≡◌, refl, sym, ap, ◌∙◌}
use mathlib.Core.Bool.{Bool, true, false, not, ◌&&◌, ◌||◌, true≢false}
use mathlib.Core.List.{List}
use Prim.Native.Nat.{ℕ, ◌+◌, ◌-◌, ◌*◌, ◌/◌, ◌%◌, ◌^◌, ◌≤◌, ◌<◌}
use native.Mathlib.Nat.{le_refl, zero-lt-suc}
use native.Mathlib.Omega.{arith}
use lib.Bits.{or_lt}
use lib.Dec.{eqb, leb}
use lib.ListN.{length, get_or, set, length-set}
use lib.Pow.{pow-lt}
use lib.Seq.{get_or-set_same, get_or-set_other}
use borrow.Author.Tests.{eqb-true, eq-eqb, ne_eqb, le-leb}
use Rattle.laws.proofs.Lists.{byte_at, bytes_all}
use Rattle.laws.proofs.Split.{by_bool, by_eq, by_lt, and_true}
use Rattle.bits.specs.Bits.{bit_at, any_from, some_set, within, Marked, Takes}
use Rattle.bits.specs.Ways.{stride_of, hit_of, marked_of}
use Rattle.bits.proofs.Byte.{bit_of, bit_none, bit_or_lem, bit_power, bit_full, bits-same}
use Rattle.bits.proofs.Bits.{bit_at_lem, any_nowhere, any_split, some-set-none, some_set_by, within_in, within-before, within_behind, unmarked, marked_none, marked_join}

-- a whole byte
module _ (i to : ℕ) where
  pub stride_whole : i % 8 ≡ 0 → 8 ≤ to - i → stride_of i to ≡ 8
  unfolding stride_of
  stride_whole m h = rw (m, le-leb 8 (to - i) h)

by_stride : {C : Type 0} (i to : ℕ) → (stride_of i to ≡ 8 → i % 8 ≡ 0 → C) → (stride_of i to ≡ 1 → C) → C
unfolding stride_of
by_stride i to whole one =
    by_bool (eqb (i % 8) 0 && leb 8 (to - i)) (λ t. whole (rw t) (eqb-true (i % 8) 0 (and_true (eqb (i % 8) 0) (leb 8 (to - i)) t).0)) (λ f. one (rw f))

some_one : (i : ℕ) (bs : List ℕ) → some_set i 1 bs ≡ bit_at bs i
unfolding some_set any_from
some_one i bs = sym (unmarked (bit_at bs i) false refl)

or_right_true : (a : Bool) → (a || true) ≡ true
or_right_true true = refl
or_right_true false = refl

-- one bit is at its place only
one_bit : (i p : ℕ) → p / 8 ≡ i / 8 → eqb (p % 8) (i % 8) ≡ within i 1 p
one_bit i p d =
    by_eq (p % 8) (i % 8)
    (λ m.
    let l : i ≤ p = omega arith in
    let u : p < i + 1 = omega arith in
    eq-eqb (p % 8) (i % 8) m ∙ sym (within_in i 1 p l u))
    (λ m.
    ne_eqb (p % 8) (i % 8) m ∙ sym (by_lt p i (within-before i 1 p) (λ l. let u : i + 1 ≤ p = omega arith in within_behind i 1 p u)))

-- no stride leaves its byte
elsewhere : (i to p : ℕ) → (p / 8 ≡ i / 8 → ⊥) → within i (stride_of i to) p ≡ false
elsewhere i to p d =
    by_lt p i (within-before i (stride_of i to) p)
    (λ l. within_behind i (stride_of i to) p (by_stride i to (λ s m. rw s (omega arith)) (λ s. rw s (omega arith))))

marked_small : (byte i to : ℕ) → byte < 256 → marked_of byte i (stride_of i to) < 256
unfolding marked_of
marked_small byte i to h =
    by_stride i to (λ s m. rw s (le_refl 256))
    (λ s. let k : i % 8 < 8 = omega arith in rw s (or_lt 8 byte (2 ^ (i % 8)) h (pow-lt k)))

-- a bit that is shifted stays in its byte
pub one_shifted : (i : ℕ) → 1 * 2 ^ (i % 8) % 256 ≡ 2 ^ (i % 8)
one_shifted i =
    let k : i % 8 < 8 = omega arith in
    let h : 2 ^ (i % 8) < 256 = pow-lt k in
    omega arith

-- what a stride sees of a byte
module _ (bs : List ℕ) (i to stride byte : ℕ) (e : stride ≡ stride_of i to) (b : byte ≡ get_or bs (i / 8) 0) (small : byte < 256) where
  here : (j r : ℕ) → j / 8 ≡ i / 8 → j % 8 ≡ r → bit_at bs j ≡ bit_of byte r
  here j r d m = bit_at_lem bs j (i / 8) r d m ∙ ap (λ (n : ℕ). bit_of n r) (sym b)

  -- a whole byte has no bit set where it is 0, and only there
  whole_zero : i % 8 ≡ 0 → byte ≡ 0 → some_set i 8 bs ≡ false
  whole_zero m z =
      some_set_by i 8 bs (λ j. false)
      (λ j l u.
      let d : j / 8 ≡ i / 8 = omega arith in
      here j (j % 8) d refl ∙ ap (λ (n : ℕ). bit_of n (j % 8)) z ∙ bit_none (j % 8))
      ∙ any_nowhere i 8

  whole_some : i % 8 ≡ 0 → some_set i 8 bs ≡ false → byte ≡ 0
  whole_some m none =
      bits-same 8 byte 0 small (zero-lt-suc 255)
      (λ j h.
      let d : (i + j) / 8 ≡ i / 8 = omega arith in
      let f : (i + j) % 8 ≡ j = omega arith in
      let l : i ≤ i + j = omega arith in
      let u : i + j < i + 8 = omega arith in
      sym (here (i + j) j d f) ∙ some-set-none i 8 bs none (i + j) l u ∙ sym (bit_none j))

  pub hit_is : hit_of byte i stride ≡ some_set i stride bs
  unfolding hit_of bit_of
  hit_is =
      by_stride i to
      (λ s m. rw (e ∙ s)
      (by_bool (some_set i 8 bs) (λ t. rw (t, ne_eqb byte 0 (λ z. true≢false (sym t ∙ whole_zero m z)))) (λ f. rw (f, whole_some m f))))
      (λ s. rw (e ∙ s) (sym (here i (i % 8) refl refl) ∙ sym (some_one i bs)))

not_or : (a b : Bool) → (not a && not b) ≡ not (a || b)
not_or true b = refl
not_or false b = refl

-- behind what is marked so far, all is as it was
ahead : (first bs : List ℕ) (from i count : ℕ) → from ≤ i → Marked from (i - from) first bs → some_set i count bs ≡ some_set i count first
unfolding some_set
ahead first bs from i count l done =
    some_set_by i count bs (bit_at first)
    (λ j lj uj.
    let k : from + (i - from) ≤ j = omega arith in
    done.bits j ∙ sym (unmarked (bit_at first j) (within from (i - from) j) (within_behind from (i - from) j k)))

some_split : (first : List ℕ) (from i stride : ℕ) → from ≤ i → some_set from (i + stride - from) first ≡ (some_set from (i - from) first || some_set i stride first)
unfolding some_set
some_split first from i stride l =
    let k : i + stride - from ≡ (i - from) + stride = omega arith in
    let at : from + (i - from) ≡ i = omega arith in
    rw (k, any_split (bit_at first) from (i - from) stride, at)

-- a turn of the loop: what is known of the bits that were marked, and of those of one stride more
pub clear_turn : (first bs : List ℕ) (from i to stride byte : ℕ) (clear hit : Bool) → from ≤ i → stride ≡ stride_of i to → byte ≡ get_or bs (i / 8) 0 → byte < 256 → hit ≡ hit_of byte i stride → Marked from (i - from) first bs → clear ≡ not (some_set from (i - from) first) → (clear && not hit) ≡ not (some_set from (i + stride - from) first)
clear_turn first bs from i to stride byte clear hit l e b small h done c =
    let seen : hit ≡ some_set i stride first = h ∙ hit_is bs i to stride byte e b small ∙ ahead first bs from i stride l done in
    rw (c, seen, some_split first from i stride l) (not_or (some_set from (i - from) first) (some_set i stride first))

-- a byte with a stride's bits set, seen at a place p of the same byte
marked_bit : (byte i to p : ℕ) → p / 8 ≡ i / 8 → bit_of (marked_of byte i (stride_of i to)) (p % 8) ≡ (bit_of byte (p % 8) || within i (stride_of i to) p)
unfolding marked_of
marked_bit byte i to p d =
    by_stride i to
    (λ s m.
    let l : i ≤ p = omega arith in
    let u : p < i + 8 = omega arith in
    let low : p % 8 < 8 = omega arith in
    rw (s, within_in i 8 p l u, bit_full (p % 8) low) (sym (or_right_true (bit_of byte (p % 8)))))
    (λ s. rw s (bit_or_lem byte (2 ^ (i % 8)) (p % 8) ∙ ap (λ (t : Bool). bit_of byte (p % 8) || t) (bit_power (i % 8) (p % 8) ∙ one_bit i p d)))

-- a stride marks its bits in one byte of the list
module _ (bs : List ℕ) (i to : ℕ) (more : i < to) (room : to ≤ length bs * 8) where
  pub marked_step : Marked i (stride_of i to) bs (set bs (i / 8) (marked_of (get_or bs (i / 8) 0) i (stride_of i to)))
  marked_step =
      let byte : ℕ = get_or bs (i / 8) 0 in
      let new : ℕ = marked_of byte i (stride_of i to) in
      let inside : i / 8 < length bs = omega arith in
      record {
        kept = length-set bs (i / 8) new;
        bits = λ p. by_eq (p / 8) (i / 8)
            (λ d.
            bit_at_lem (set bs (i / 8) new) p (i / 8) (p % 8) d refl
            ∙ ap (λ (n : ℕ). bit_of n (p % 8)) (get_or-set_same bs (i / 8) new 0 inside)
            ∙ marked_bit byte i to p d
            ∙ ap (λ (t : Bool). t || within i (stride_of i to) p) (sym (bit_at_lem bs p (i / 8) (p % 8) d refl)))
            (λ d.
            bit_at_lem (set bs (i / 8) new) p (p / 8) (p % 8) refl refl
            ∙ ap (λ (n : ℕ). bit_of n (p % 8)) (get_or-set_other bs (i / 8) (p / 8) new 0 d)
            ∙ sym (bit_at_lem bs p (p / 8) (p % 8) refl refl)
            ∙ unmarked (bit_at bs p) (within i (stride_of i to) p) (elsewhere i to p d));
        bytes = λ h. bytes_all (set bs (i / 8) new)
            (λ q. by_eq q (i / 8)
            (λ k. rw (k, get_or-set_same bs (i / 8) new 0 inside) (marked_small byte i to (byte_at bs (i / 8) h)))
            (λ k. rw (get_or-set_other bs (i / 8) q new 0 k) (byte_at bs q h)));
      }

-- a turn of the loop that marks
pub mark_turn : (first bs : List ℕ) (from i to stride byte : ℕ) → from ≤ i → i < to → length bs ≡ length first → to ≤ length first * 8 → stride ≡ stride_of i to → byte ≡ marked_of (get_or bs (i / 8) 0) i stride → Marked from (i - from) first bs → Marked from (i + stride - from) first (set bs (i / 8) byte)
mark_turn first bs from i to stride byte l more same room e b done =
    let room' : to ≤ length bs * 8 = omega arith in
    let k : i + stride - from ≡ (i - from) + stride = omega arith in
    let at : from + (i - from) ≡ i = omega arith in
    rw k (marked_join from (i - from) stride first bs (set bs (i / 8) byte) done (rw (at, b, e) (marked_step bs i to more room')))

-- nothing is taken before the first turn, and all behind the last
pub takes_none : (from count : ℕ) (bs : List ℕ) → count ≡ 0 → Takes from count bs bs true
unfolding some_set any_from
takes_none from count bs e = (rw e, marked_none from count bs e)

pub takes_end : (first bs : List ℕ) (from i to : ℕ) (clear : Bool) → to ≤ i → i ≤ to → Takes from (i - from) first bs clear → Takes from (to - from) first bs clear
takes_end first bs from i to clear h k done =
    let e : to ≡ i = omega arith in
    rw e done

-- whole bytes: a turn of the loop over them, and its end
not-not : (b : Bool) → not (not b) ≡ b
not-not true = refl
not-not false = refl

module _ (first bs : List ℕ) (from i to byte : ℕ) (clear : Bool) (l : from ≤ i) (more : i < to) (same : length bs ≡ length first) (room : to ≤ length first) (b : byte ≡ get_or bs i 0) (small : byte < 256) (done : Takes (from * 8) (i * 8 - from * 8) first bs clear) where
  whole : 8 ≡ stride_of (i * 8) (to * 8)
  whole =
      let m : i * 8 % 8 ≡ 0 = omega arith in
      let h : 8 ≤ to * 8 - i * 8 = omega arith in
      sym (stride_whole (i * 8) (to * 8) m h)

  byte_of_lem : i * 8 / 8 ≡ i
  byte_of_lem = omega arith

  next : i * 8 + 8 - from * 8 ≡ (i + 1) * 8 - from * 8
  next = omega arith

  pub bytes_turn : Takes (from * 8) ((i + 1) * 8 - from * 8) first (set bs i 255) (clear && eqb byte 0)
  unfolding hit_of marked_of
  bytes_turn = (
    rw (next, not-not (eqb byte 0)) at (clear_turn first bs (from * 8) (i * 8) (to * 8) 8 byte clear (not (eqb byte 0)) (omega arith) whole (rw byte_of_lem b) small refl done.1 done.0),
    rw (next, byte_of_lem) at (mark_turn first bs (from * 8) (i * 8) (to * 8) 8 255 (omega arith) (omega arith) same (omega arith) whole refl done.1),
  )

pub bytes_end : (first bs : List ℕ) (from i to : ℕ) (clear : Bool) → to ≤ i → i ≤ to → Takes (from * 8) (i * 8 - from * 8) first bs clear → Takes (from * 8) (to * 8 - from * 8) first bs clear
bytes_end first bs from i to clear h k done = takes_end first bs (from * 8) (i * 8) (to * 8) clear (omega arith) (omega arith) done

-- places that are those of whole bytes
pub takes_whole : (first bs : List ℕ) (from to : ℕ) (clear : Bool) → from % 8 ≡ 0 → to % 8 ≡ 0 → Takes (from / 8 * 8) (to / 8 * 8 - from / 8 * 8) first bs clear → Takes from (to - from) first bs clear
takes_whole first bs from to clear f t done =
    let e : from / 8 * 8 ≡ from = omega arith in
    let g : to / 8 * 8 ≡ to = omega arith in
    rw (e, g) at done
