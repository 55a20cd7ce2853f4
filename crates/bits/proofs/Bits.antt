-- Laws of bits: some of them set, all of them known, and bits marked in a row. Assumes nothing.
use mathlib.Core.Path.{◌≡◌, refl, sym, ap, ap₂, ◌∙◌}
use mathlib.Core.Bool.{Bool, true, false, ◌||◌}
use mathlib.Core.List.{List}
use Prim.Native.Nat.{ℕ, zero, suc, ◌+◌, ◌*◌, ◌/◌, ◌%◌, ◌≤◌, ◌<◌}
use native.Mathlib.Nat.{add-zero, suc-add, le_refl, zero-add}
use native.Mathlib.Omega.{arith}
use lib.Dec.{leb}
use lib.ListN.{length, get_or, replicate}
use lib.Seq.{ext_get_or}
use borrow.Author.Tests.{lt-ltb, le-ltb, le-leb, lt-leb}
use Rattle.laws.specs.Lists.{all_bytes}
use Rattle.laws.proofs.Lists.{byte_at}
use Rattle.laws.proofs.Split.{by_lt, or_false, and_right_false}
use Rattle.bits.specs.Bits.{bit_at, any_from, some_set, within, Marked}
use Rattle.bits.proofs.Byte.{bit_of, bit_none, bits-same}

-- a bit of the list is one of a byte
pub bit_at_lem : (bs : List ℕ) (i q r : ℕ) → i / 8 ≡ q → i % 8 ≡ r → bit_at bs i ≡ bit_of (get_or bs q 0) r
unfolding bit_at bit_of
bit_at_lem bs i q r e f = rw (e, f)

or_assoc : (a b c : Bool) → ((a || b) || c) ≡ (a || (b || c))
or_assoc true b c = refl
or_assoc false b c = refl

-- what is not marked stays
pub unmarked : (a b : Bool) → b ≡ false → a ≡ (a || b)
unmarked true b e = refl
unmarked false b e = sym e

-- a test at places in a row: it passes at none, another is like it there, it never passes, and two parts in a row
pub any_none : (f : ℕ → Bool) (from count : ℕ) → any_from f from count ≡ false → (i : ℕ) → from ≤ i → i < from + count → f i ≡ false
unfolding any_from
any_none f from zero e i l u = absurd (omega arith)
any_none f from (suc count) e i l u =
    let p = or_false (f from) (any_from f (suc from) count) e in
    by_lt from i (λ h. any_none f (suc from) count p.1 i h (omega arith))
    (λ h. let k : i ≡ from = omega arith in ap f k ∙ p.0)

pub any_alike : (f g : ℕ → Bool) (from count : ℕ) → ((i : ℕ) → from ≤ i → i < from + count → f i ≡ g i) → any_from f from count ≡ any_from g from count
unfolding any_from
any_alike f g from zero h = refl
any_alike f g from (suc count) h =
    let here : from < from + suc count = omega arith in
    ap₂ ◌||◌ (h from (le_refl from) here) (any_alike f g (suc from) count (λ i l u. h i (omega arith) (omega arith)))

pub any_nowhere : (from count : ℕ) → any_from (λ i. false) from count ≡ false
unfolding any_from
any_nowhere from zero = refl
any_nowhere from (suc count) = any_nowhere (suc from) count

pub any_split : (f : ℕ → Bool) (from a b : ℕ) → any_from f from (a + b) ≡ (any_from f from a || any_from f (from + a) b)
unfolding any_from
any_split f from zero b = rw (add-zero from, zero-add b)
any_split f from (suc a) b =
    let e : from + suc a ≡ suc from + a = omega arith in
    rw (suc-add a b, e, any_split f (suc from) a b) (sym (or_assoc (f from) (any_from f (suc from) a) (any_from f (suc from + a) b)))

-- for callers: no bit of a part is set, and bits that are known by a test
module _ (from count : ℕ) (bs : List ℕ) where
  pub some-set-none : some_set from count bs ≡ false → (i : ℕ) → from ≤ i → i < from + count → bit_at bs i ≡ false
  unfolding some_set
  some-set-none e i l u = any_none (bit_at bs) from count e i l u

  pub some_set_by : (f : ℕ → Bool) → ((i : ℕ) → from ≤ i → i < from + count → bit_at bs i ≡ f i) → some_set from count bs ≡ any_from f from count
  unfolding some_set
  some_set_by f h = any_alike (bit_at bs) f from count h

zeros : (n i : ℕ) → ◌≡◌ {A = ℕ} (get_or (replicate n 0) i 0) 0
zeros zero i = refl
zeros (suc n) zero = refl
zeros (suc n) (suc i) = zeros n i

pub none-set : (n i : ℕ) → bit_at (replicate n 0) i ≡ false
none-set n i = bit_at_lem (replicate n 0) i (i / 8) (i % 8) refl refl ∙ ap (λ (b : ℕ). bit_of b (i % 8)) (zeros n (i / 8)) ∙ bit_none (i % 8)

-- bytes are told by their bits, so that a list of them is by its length and its bits
pub bits_tell : (xs ys : List ℕ) → all_bytes xs ≡ true → all_bytes ys ≡ true → length xs ≡ length ys → ((i : ℕ) → bit_at xs i ≡ bit_at ys i) → xs ≡ ys
bits_tell xs ys bx by l alike =
    ext_get_or 0 xs ys l
    (λ q h. bits-same 8 (get_or xs q 0) (get_or ys q 0) (byte_at xs q bx) (byte_at ys q by)
    (λ r k.
    let e : (q * 8 + r) / 8 ≡ q = omega arith in
    let f : (q * 8 + r) % 8 ≡ r = omega arith in
    sym (bit_at_lem xs (q * 8 + r) q r e f) ∙ alike (q * 8 + r) ∙ bit_at_lem ys (q * 8 + r) q r e f))

-- a place inside a part, before it and behind it
module _ (from count i : ℕ) where
  pub within_in : from ≤ i → i < from + count → within from count i ≡ true
  unfolding within
  within_in l u = rw (le-leb from i l, lt-ltb i (from + count) u)

  pub within-before : i < from → within from count i ≡ false
  unfolding within
  within-before h = rw (lt-leb from i h)

  pub within_behind : from + count ≤ i → within from count i ≡ false
  unfolding within
  within_behind h = rw (le-ltb i (from + count) h) (and_right_false (leb from i))

-- two parts in a row
within_join : (from a b i : ℕ) → (within from a i || within (from + a) b i) ≡ within from (a + b) i
within_join from a b i =
    by_lt i from
    (λ h.
    let h' : i < from + a = omega arith in
    rw (within-before from a i h, within-before (from + a) b i h', within-before from (a + b) i h))
    (λ l.
    by_lt i (from + a)
    (λ u.
    let u' : i < from + (a + b) = omega arith in
    rw (within_in from a i l u, within_in from (a + b) i l u'))
    (λ v.
    by_lt i (from + a + b)
    (λ u.
    let u' : i < from + (a + b) = omega arith in
    rw (within_behind from a i v, within_in (from + a) b i v u, within_in from (a + b) i l u'))
    (λ w.
    let w' : from + (a + b) ≤ i = omega arith in
    rw (within_behind from a i v, within_behind (from + a) b i w, within_behind from (a + b) i w'))))

-- nothing marked, and one part marked behind the other
pub marked_none : (from count : ℕ) (bs : List ℕ) → count ≡ 0 → Marked from count bs bs
marked_none from count bs e =
    record {
      kept = refl;
      bits = λ i. by_lt i from (λ h. unmarked (bit_at bs i) (within from count i) (within-before from count i h)) (λ h. unmarked (bit_at bs i) (within from count i) (within_behind from count i (omega arith)));
      bytes = λ h. h;
    }

pub marked_join : (from a b : ℕ) (bs mid after : List ℕ) → Marked from a bs mid → Marked (from + a) b mid after → Marked from (a + b) bs after
marked_join from a b bs mid after f s =
    record {
      kept = s.kept ∙ f.kept;
      bits = λ i. s.bits i ∙ ap (λ (t : Bool). t || within (from + a) b i) (f.bits i) ∙ or_assoc (bit_at bs i) (within from a i) (within (from + a) b i) ∙ ap (λ (t : Bool). bit_at bs i || t) (within_join from a b i);
      bytes = λ h. s.bytes (f.bytes h);
    }

-- what `Marked` says leaves one list only
pub marked_tells : (from count : ℕ) (bs one other : List ℕ) → all_bytes bs ≡ true → Marked from count bs one → Marked from count bs other → one ≡ other
marked_tells from count bs one other h f s =
    bits_tell one other (f.bytes h) (s.bytes h) (f.kept ∙ sym s.kept) (λ i. f.bits i ∙ sym (s.bits i))
