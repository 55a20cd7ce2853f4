-- The bits of one number: of both of two, of a power of two, of a full byte; and they tell which number it is.
-- Assumes nothing.
use mathlib.Core.Path.{◌≡◌, refl, sym, ap, ◌∙◌}
use mathlib.Core.Bool.{Bool, true, false, ◌||◌}
use Prim.Native.Nat.{ℕ, zero, suc, ◌*◌, ◌/◌, ◌%◌, ◌^◌, ◌<◌, suc-le-suc}
use native.Mathlib.Nat.{pow-suc, zero-div, div-one, zero-lt-suc}
use native.Mathlib.Numerals.{one-add}
use native.Mathlib.Omega.{arith}
use lib.Arith.{lt-one}
use lib.Bits.{bit_or, or_shr, or_mod}
use lib.Dec.{eqb, eqb-zero-suc, eqb-suc-zero, eqb-suc-suc}
use lib.ListN.{replicate}
use lib.Pow.{shr-shr}
use borrow.Author.Tests.{eqb-true, eqb-false}
use Rattle.laws.specs.Table.{agree}
use Rattle.laws.proofs.Split.{by_bool}
use Rattle.laws.proofs.Table.{every_at, agree_eq}

-- is bit j of the number b set?
unfoldable pub bit_of : ℕ → ℕ → Bool
bit_of b j = eqb (b / 2 ^ j % 2) 1

pub bit_none : (j : ℕ) → bit_of 0 j ≡ false
unfolding bit_of
bit_none j = rw (zero-div (2 ^ j))

bit_half : (b j : ℕ) → bit_of b (suc j) ≡ bit_of (b / 2) j
unfolding bit_of
bit_half b j = ap (λ (n : ℕ). eqb (n % 2) 1) (ap (λ (k : ℕ). b / 2 ^ k) (sym (one-add j)) ∙ sym (shr-shr b 1 j))

bit_first : (b : ℕ) → bit_of b 0 ≡ eqb (b % 2) 1
unfolding bit_of
bit_first b = ap (λ (n : ℕ). eqb (n % 2) 1) (div-one b)

-- one bit of both
or_bit : (x y : ℕ) → x < 2 → y < 2 → eqb (bit_or x y) 1 ≡ (eqb x 1 || eqb y 1)
or_bit zero zero h k = refl
or_bit zero (suc zero) h k = refl
or_bit (suc zero) zero h k = refl
or_bit (suc zero) (suc zero) h k = refl
or_bit (suc (suc x)) y h k = absurd (omega arith)
or_bit zero (suc (suc y)) h k = absurd (omega arith)
or_bit (suc zero) (suc (suc y)) h k = absurd (omega arith)

pub bit_or_lem : (a b j : ℕ) → bit_of (bit_or a b) j ≡ (bit_of a j || bit_of b j)
unfolding bit_of
bit_or_lem a b j =
    let x : ℕ = a / 2 ^ j in
    let y : ℕ = b / 2 ^ j in
    let hx : x % 2 < 2 = omega arith in
    let hy : y % 2 < 2 = omega arith in
    ap (λ (n : ℕ). eqb (n % 2) 1) (or_shr a b j) ∙ ap (λ (n : ℕ). eqb n 1) (or_mod x y 1) ∙ or_bit (x % 2) (y % 2) hx hy

pub bit_power : (k j : ℕ) → bit_of (2 ^ k) j ≡ eqb j k
bit_power zero zero = bit_first 1
bit_power zero (suc j) = bit_half 1 j ∙ bit_none j ∙ sym (eqb-suc-zero j)
bit_power (suc k) zero =
    let e : 2 ^ suc k ≡ 2 ^ k * 2 = pow-suc 2 k in
    let even : 2 ^ suc k % 2 ≡ 0 = omega arith in
    bit_first (2 ^ suc k) ∙ ap (λ (n : ℕ). eqb n 1) even ∙ sym (eqb-zero-suc k)
bit_power (suc k) (suc j) =
    let e : 2 ^ suc k ≡ 2 ^ k * 2 = pow-suc 2 k in
    let half : 2 ^ suc k / 2 ≡ 2 ^ k = omega arith in
    bit_half (2 ^ suc k) j ∙ ap (λ (n : ℕ). bit_of n j) half ∙ bit_power k j ∙ sym (eqb-suc-suc j k)

pub bit_full : (j : ℕ) → j < 8 → bit_of 255 j ≡ true
unfolding bit_of
bit_full j h = agree_eq (bit_of 255 j) true (every_at (λ (k x : ℕ). agree (bit_of 255 k) true) 0 (replicate 8 0) tt j h)

-- a bit that is told alike is alike
same_bit : (x y : ℕ) → x < 2 → y < 2 → eqb x 1 ≡ eqb y 1 → x ≡ y
same_bit x y h k e =
    by_bool (eqb x 1) (λ t. eqb-true x 1 t ∙ sym (eqb-true y 1 (sym e ∙ t)))
    (λ f. let a = eqb-false x 1 f in let b = eqb-false y 1 (sym e ∙ f) in omega arith)

pub bits-same : (k a b : ℕ) → a < 2 ^ k → b < 2 ^ k → ((j : ℕ) → j < k → bit_of a j ≡ bit_of b j) → a ≡ b
bits-same zero a b ha hb alike = lt-one ha ∙ sym (lt-one hb)
bits-same (suc k) a b ha hb alike =
    let e : 2 ^ suc k ≡ 2 ^ k * 2 = pow-suc 2 k in
    let la : a / 2 < 2 ^ k = omega arith in
    let lb : b / 2 < 2 ^ k = omega arith in
    let high : a / 2 ≡ b / 2 = bits-same k (a / 2) (b / 2) la lb (λ j h. sym (bit_half a j) ∙ alike (suc j) (suc-le-suc h) ∙ bit_half b j) in
    let ma : a % 2 < 2 = omega arith in
    let mb : b % 2 < 2 = omega arith in
    let low : a % 2 ≡ b % 2 = same_bit (a % 2) (b % 2) ma mb (sym (bit_first a) ∙ alike 0 (zero-lt-suc k) ∙ bit_first b) in
    omega arith
