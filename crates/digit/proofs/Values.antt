-- Laws of a digit: what `value_of` is in each range, that value and capital digit undo each other, and the byte of two. Assumes nothing.
use mathlib.Core.Path.{◌≡◌, ap, ap₂, ◌∙◌, sym}
use mathlib.Core.Logic.{◌⊎◌, inl, inr, ⊎_elim}
use Prim.Native.Nat.{ℕ, ◌+◌, ◌-◌, ◌*◌, ◌/◌, ◌%◌, ◌≤◌, ◌<◌}
use native.Mathlib.Omega.{arith}
use lib.Dec.{leb, ltb}
use lib.ListN.{replicate}
use borrow.Author.Tests.{le-leb, lt-leb, lt-ltb, le-ltb}
use Rattle.std.specs.Char.{is_ascii_hexdigit}
use Rattle.laws.specs.Table.{agree}
use Rattle.laws.proofs.Table.{every_at, agree_eq}
use Rattle.laws.proofs.Split.{by_lt, and_right_false}
use Rattle.digit.specs.Digit.{capital_of, value_of, digit_of, byte_of}

-- the capital of a small letter that is a digit, and of any other byte
capital_small : (d : ℕ) → 97 ≤ d → d < 103 → capital_of d ≡ d - 32
unfolding capital_of
capital_small d h k =
    let n : d ≤ 102 = omega arith in
    rw (le-leb 97 d h, le-leb d 102 n)

pub capital_below : (d : ℕ) → d < 97 → capital_of d ≡ d
unfolding capital_of
capital_below d h = rw (lt-leb 97 d h)

capital_above : (d : ℕ) → 103 ≤ d → capital_of d ≡ d
unfolding capital_of
capital_above d h = rw (lt-leb d 102 h, and_right_false (leb 97 d))

-- the value of a byte by what its capital is
value_low : (d : ℕ) → 48 ≤ d → d < 58 → value_of d ≡ d - 48
unfolding value_of
value_low d h k =
    let n : d ≤ 57 = omega arith in
    rw (le-leb 48 d h, le-leb d 57 n)

value_letter : (d c : ℕ) → 58 ≤ d → capital_of d ≡ c → 65 ≤ c → c < 71 → value_of d ≡ c - 55
unfolding value_of
value_letter d c n e h k =
    let m : c ≤ 70 = omega arith in
    rw (lt-leb d 57 n, and_right_false (leb 48 d), e, le-leb 65 c h, le-leb c 70 m)

value_below : (d : ℕ) → d < 48 → value_of d ≡ 16
unfolding value_of
value_below d h =
    let n : d < 65 = omega arith in
    let m : d < 97 = omega arith in
    rw (lt-leb 48 d h, capital_below d m, lt-leb 65 d n)

value_between : (d : ℕ) → 58 ≤ d → d < 65 → value_of d ≡ 16
unfolding value_of
value_between d h k =
    let m : d < 97 = omega arith in
    rw (lt-leb d 57 h, and_right_false (leb 48 d), capital_below d m, lt-leb 65 d k)

value_above : (d : ℕ) → 71 ≤ d → capital_of d ≡ d → value_of d ≡ 16
unfolding value_of
value_above d h e =
    let n : 57 < d = omega arith in
    rw (lt-leb d 57 n, and_right_false (leb 48 d), e, lt-leb d 70 h, and_right_false (leb 65 d))

value_capital : (d : ℕ) → 65 ≤ d → d < 71 → value_of d ≡ d - 55
value_capital d h k =
    let n : 58 ≤ d = omega arith in
    let m : d < 97 = omega arith in
    value_letter d d n (capital_below d m) h k

value_small : (d : ℕ) → 97 ≤ d → d < 103 → value_of d ≡ d - 32 - 55
value_small d h k =
    let n : 58 ≤ d = omega arith in
    let a : 65 ≤ d - 32 = omega arith in
    let b : d - 32 < 71 = omega arith in
    value_letter d (d - 32) n (capital_small d h k) a b

-- the bytes that are digits: 0 to 9, A to F, and a to f
digit_ranges : (d : ℕ) → value_of d < 16 → (((48 ≤ d) × (d < 58)) ⊎ ((65 ≤ d) × (d < 71))) ⊎ ((97 ≤ d) × (d < 103))
digit_ranges d v =
    by_lt d 58
    (λ h. by_lt d 48 (λ l. let e : value_of d ≡ 16 = value_below d l in absurd (omega arith)) (λ l. inl (inl (l, h))))
    (λ h.
    by_lt d 71
    (λ k. by_lt d 65 (λ l. let e : value_of d ≡ 16 = value_between d h l in absurd (omega arith)) (λ l. inl (inr (l, k))))
    (λ k.
    by_lt d 97
    (λ l. let e : value_of d ≡ 16 = value_above d k (capital_below d l) in absurd (omega arith))
    (λ l. by_lt d 103 (λ m. inr (l, m)) (λ m. let e : value_of d ≡ 16 = value_above d k (capital_above d m) in absurd (omega arith)))))

-- a byte and its capital have one value, and a capital is its own
pub value_of_capital : (d : ℕ) → value_of (capital_of d) ≡ value_of d
value_of_capital d =
    by_lt d 97
    (λ h. ap value_of (capital_below d h))
    (λ h.
    by_lt d 103
    (λ k.
    let a : 65 ≤ d - 32 = omega arith in
    let b : d - 32 < 71 = omega arith in
    ap value_of (capital_small d h k) ∙ value_capital (d - 32) a b ∙ sym (value_small d h k))
    (λ k. ap value_of (capital_above d k)))

pub capital_of_capital : (d : ℕ) → capital_of (capital_of d) ≡ capital_of d
capital_of_capital d =
    by_lt d 97
    (λ h. ap capital_of (capital_below d h))
    (λ h.
    by_lt d 103
    (λ k.
    let b : d - 32 < 97 = omega arith in
    ap capital_of (capital_small d h k) ∙ capital_below (d - 32) b ∙ sym (capital_small d h k))
    (λ k. ap capital_of (capital_above d k)))

-- no capital is a byte of another kind: what is below the small letters comes of itself alone
pub capital_ends : (d : ℕ) → capital_of d ≡ 10 → d ≡ 10
capital_ends d e =
    by_lt d 97
    (λ h. sym (capital_below d h) ∙ e)
    (λ h.
    by_lt d 103
    (λ k. let c : capital_of d ≡ d - 32 = capital_small d h k in absurd (omega arith))
    (λ k. let c : capital_of d ≡ d = capital_above d k in absurd (omega arith)))

-- the digit that is written
pub digit_low : (x : ℕ) → x % 16 < 10 → digit_of x ≡ x % 16 + 48
unfolding digit_of
digit_low x h = rw (lt-ltb (x % 16) 10 h)

pub digit_high : (x : ℕ) → 10 ≤ x % 16 → digit_of x ≡ x % 16 + 55
unfolding digit_of
digit_high x h = rw (le-ltb (x % 16) 10 h)

pub value_digit : (x : ℕ) → value_of (digit_of x) ≡ x % 16
value_digit x =
    by_lt (x % 16) 10
    (λ h.
    let a : 48 ≤ x % 16 + 48 = omega arith in
    let b : x % 16 + 48 < 58 = omega arith in
    let e : x % 16 + 48 - 48 ≡ x % 16 = omega arith in
    ap value_of (digit_low x h) ∙ value_low (x % 16 + 48) a b ∙ e)
    (λ h.
    let a : 65 ≤ x % 16 + 55 = omega arith in
    let b : x % 16 + 55 < 71 = omega arith in
    let e : x % 16 + 55 - 55 ≡ x % 16 = omega arith in
    ap value_of (digit_high x h) ∙ value_capital (x % 16 + 55) a b ∙ e)

-- it is its own capital
pub capital_digit : (x : ℕ) → capital_of (digit_of x) ≡ digit_of x
capital_digit x =
    by_lt (x % 16) 10
    (λ h. let e : digit_of x ≡ x % 16 + 48 = digit_low x h in capital_below (digit_of x) (omega arith))
    (λ h. let e : digit_of x ≡ x % 16 + 55 = digit_high x h in capital_below (digit_of x) (omega arith))

-- the digit of a digit's value is its capital
digit_value : (d : ℕ) → value_of d < 16 → digit_of (value_of d) ≡ capital_of d
digit_value d v =
    ⊎_elim
    (⊎_elim
    (λ r.
    let s : (d - 48) % 16 < 10 = omega arith in
    let t : (d - 48) % 16 + 48 ≡ d = omega arith in
    let b : d < 97 = omega arith in
    ap digit_of (value_low d r.0 r.1) ∙ digit_low (d - 48) s ∙ t ∙ sym (capital_below d b))
    (λ r.
    let s : 10 ≤ (d - 55) % 16 = omega arith in
    let t : (d - 55) % 16 + 55 ≡ d = omega arith in
    let b : d < 97 = omega arith in
    ap digit_of (value_capital d r.0 r.1) ∙ digit_high (d - 55) s ∙ t ∙ sym (capital_below d b)))
    (λ r.
    let s : 10 ≤ (d - 32 - 55) % 16 = omega arith in
    let t : (d - 32 - 55) % 16 + 55 ≡ d - 32 = omega arith in
    ap digit_of (value_small d r.0 r.1) ∙ digit_high (d - 32 - 55) s ∙ t ∙ sym (capital_small d r.0 r.1))
    (digit_ranges d v)

-- no digit is a byte below 48: not a tab, not LF, not the 0 that stands for what is past the end
pub digit_above : (d : ℕ) → value_of d < 16 → 48 ≤ d
digit_above d v = by_lt d 48 (λ h. let e : value_of d ≡ 16 = value_below d h in absurd (omega arith)) (λ h. h)

-- the digit of a number is that of its low half
digit_mod : (x : ℕ) → digit_of (x % 16) ≡ digit_of x
unfolding digit_of
digit_mod x =
    let e : x % 16 % 16 ≡ x % 16 = omega arith in
    rw e

-- the library's test of one byte, at each of them
pub digit_told : (d : ℕ) → d < 256 → is_ascii_hexdigit d ≡ ltb (value_of d) 16
unfolding value_of capital_of
digit_told d h =
    agree_eq (is_ascii_hexdigit d) (ltb (value_of d) 16)
    (every_at (λ (k x : ℕ). agree (is_ascii_hexdigit k) (ltb (value_of k) 16)) 0 (replicate 256 0) tt d h)

-- the value of a digit without a test
pub half_value : (d : ℕ) → value_of d < 16 → d % 16 + d / 64 * 9 ≡ value_of d
half_value d v =
    ⊎_elim
    (⊎_elim
    (λ r. let e : value_of d ≡ d - 48 = value_low d r.0 r.1 in omega arith)
    (λ r. let e : value_of d ≡ d - 55 = value_capital d r.0 r.1 in omega arith))
    (λ r. let e : value_of d ≡ d - 32 - 55 = value_small d r.0 r.1 in omega arith)
    (digit_ranges d v)

-- the byte that two digits spell
pub byte_digits : (x : ℕ) → x < 256 → byte_of (digit_of (x / 16)) (digit_of x) ≡ x
unfolding byte_of
byte_digits x h =
    let e : x / 16 % 16 * 16 + x % 16 ≡ x = omega arith in
    rw (value_digit (x / 16), value_digit x) e

pub byte_high : (d e : ℕ) → value_of d < 16 → value_of e < 16 → digit_of (byte_of d e / 16) ≡ capital_of d
unfolding byte_of
byte_high d e h k =
    let q : (value_of d * 16 + value_of e) / 16 ≡ value_of d = omega arith in
    ap digit_of q ∙ digit_value d h

pub byte_low : (d e : ℕ) → value_of d < 16 → value_of e < 16 → digit_of (byte_of d e) ≡ capital_of e
unfolding byte_of
byte_low d e h k =
    let q : (value_of d * 16 + value_of e) % 16 ≡ value_of e = omega arith in
    sym (digit_mod (value_of d * 16 + value_of e)) ∙ ap digit_of q ∙ digit_value e k

pub byte_small : (d e : ℕ) → value_of d < 16 → value_of e < 16 → byte_of d e < 256
unfolding byte_of
byte_small d e h k = omega arith

pub byte_of_capitals : (d e : ℕ) → byte_of (capital_of d) (capital_of e) ≡ byte_of d e
unfolding byte_of
byte_of_capitals d e = ap₂ (λ (x : ℕ) (y : ℕ). x * 16 + y) (value_of_capital d) (value_of_capital e)
