-- Laws of a field as one number: the values of its digits, and the bytes that they spell, all at once. Assumes nothing.
use mathlib.Core.Path.{◌≡◌, refl, ap, ap₂, ◌∙◌, sym}
use mathlib.Core.Bool.{true}
use mathlib.Core.List.{List, [], ◌∷◌, map}
use Prim.Native.Nat.{ℕ, zero, suc, ◌+◌, ◌-◌, ◌*◌, ◌/◌, ◌%◌, ◌^◌, ◌≤◌, ◌<◌}
use native.Mathlib.Omega.{arith}
use native.Mathlib.Nat.{mod-lt, lt_of_lt_of_le, le-add_left}
use lib.ListN.{length, drop, get_or, drop_of_length-le}
use lib.Seq.{drop-cons}
use lib.Pow.{pow_pos, pow_mono, split, shr-shr, mod-mod-pow, ones_lt}
use lib.Bits.{bit_and, and_block, and_mask}
use Rattle.wide.specs.Wide.{joined_of}
use Rattle.digit.specs.Digit.{value_of, byte_of}
use Rattle.digit.proofs.Values.{half_value}
use Rattle.hexfield.specs.Hex.{all_digits, bytes_of}
use Rattle.hexfield.proofs.Fields.{digits_cons}

-- the number of a field from place i on: its lowest byte, and the others
number_from : (ds : List ℕ) (i : ℕ) → i < length ds → joined_of (drop i ds) ≡ joined_of (drop (suc i) ds) * 256 + get_or ds i 0
unfolding joined_of
number_from ds i h = rw (drop-cons ds i 0 h)

pub number_eight : (ds : List ℕ) → length ds ≡ 8 → get_or ds 0 0 + get_or ds 1 0 * 0x100 + get_or ds 2 0 * 0x1_0000 + get_or ds 3 0 * 0x100_0000 + get_or ds 4 0 * 0x1_0000_0000 + get_or ds 5 0 * 0x100_0000_0000 + get_or ds 6 0 * 0x1_0000_0000_0000 + get_or ds 7 0 * 0x100_0000_0000_0000 ≡ joined_of ds
unfolding joined_of
number_eight ds h =
    let n : 8 ≤ length ds = omega arith in
    let m : length ds ≤ 8 = omega arith in
    let at : (i : ℕ) → i < 8 → joined_of (drop i ds) ≡ joined_of (drop (suc i) ds) * 256 + get_or ds i 0 = λ i k. number_from ds i (lt_of_lt_of_le k n) in
    let e : joined_of (drop 8 ds) ≡ 0 = ap joined_of (drop_of_length-le ds m) in
    omega (arith, at 0 (omega arith), at 1 (omega arith), at 2 (omega arith), at 3 (omega arith), at 4 (omega arith), at 5 (omega arith), at 6 (omega arith), at 7 (omega arith))

-- n bytes, each m
unfoldable mask : ℕ → ℕ → ℕ
mask m zero = 0
mask m (suc n) = mask m n * 256 + m

-- the lowest byte of a mask keeps the k low bits of y, and the rest of the mask meets the rest of y
low_byte : (j k y m x r : ℕ) → y / 2 ^ (j + k) ≡ x → y % 2 ^ k ≡ r → bit_and y (m * 2 ^ (j + k) + (2 ^ k - 1)) ≡ bit_and x m * 2 ^ (j + k) + r
low_byte j k y m x r e f =
    ap (λ (n : ℕ). bit_and n (m * 2 ^ (j + k) + (2 ^ k - 1))) (sym (split y (j + k)))
    ∙ and_block (j + k) (y / 2 ^ (j + k)) m (y % 2 ^ (j + k)) (2 ^ k - 1) (mod-lt y (pow_pos (j + k))) (lt_of_lt_of_le (ones_lt k) (pow_mono (le-add_left k j)))
    ∙ ap₂ (λ (a b : ℕ). bit_and a m * 2 ^ (j + k) + b) e (and_mask (y % 2 ^ (j + k)) k ∙ mod-mod-pow y j k ∙ f)

-- the values of a field's digits, each in the byte of its digit
values_masked : (ds : List ℕ) → all_digits ds ≡ true → bit_and (joined_of ds) (mask 15 (length ds)) + bit_and (joined_of ds / 64) (mask 1 (length ds)) * 9 ≡ joined_of (map value_of ds)
unfolding joined_of mask
values_masked [] h = refl
values_masked (d ∷ ds) h =
    let p = digits_cons d ds h in
    let v : d % 16 + d / 64 * 9 ≡ value_of d = half_value d p.0 in
    let x = joined_of ds in
    let m = mask 15 (length ds) in
    let n = mask 1 (length ds) in
    let s : (x * 256 + d) / 16 ≡ x * 16 + d / 16 = omega arith in
    let t : (x * 256 + d) / 64 / 2 ≡ x * 2 = omega arith in
    let low : bit_and (x * 256 + d) (m * 256 + 15) ≡ bit_and x m * 256 + d % 16 = low_byte 4 4 (x * 256 + d) m x (d % 16) (omega arith) (omega arith) in
    let bit : bit_and ((x * 256 + d) / 64) (n * 256 + 1) ≡ bit_and (x / 64) n * 256 + d / 64 = low_byte 7 1 ((x * 256 + d) / 64) n (x / 64) (d / 64) (omega arith) (omega arith) in
    let e : bit_and x m + bit_and (x / 64) n * 9 ≡ joined_of (map value_of ds) = values_masked ds p.1 in
    omega arith

-- no value is past 15
values-most : (ds : List ℕ) → all_digits ds ≡ true → joined_of (map value_of ds) ≤ mask 15 (length ds)
unfolding joined_of mask
values-most [] h = omega arith
values-most (d ∷ ds) h =
    let p = digits_cons d ds h in
    let e : joined_of (map value_of ds) ≤ mask 15 (length ds) = values-most ds p.1 in
    omega arith

-- the lowest is a value too
lowest_small : (ds : List ℕ) → all_digits ds ≡ true → joined_of (map value_of ds) % 256 < 16
unfolding joined_of
lowest_small [] h = omega arith
lowest_small (d ∷ ds) h =
    let p = digits_cons d ds h in
    omega arith

-- each value beside the next: in every byte 16 times the one and the other
abbrev pub beside : ℕ → ℕ
beside v = v * 16 + v / 256

-- n bytes of a number, with one left out after each
unfoldable alternate : ℕ → ℕ → List ℕ
alternate zero w = []
alternate (suc n) w = w % 256 ∷ alternate n (w / 65536)

bytes_beside : (n : ℕ) (ds : List ℕ) → length ds ≡ n * 2 → all_digits ds ≡ true → alternate n (beside (joined_of (map value_of ds))) ≡ bytes_of ds
unfolding alternate joined_of bytes_of byte_of
bytes_beside zero [] h k = refl
bytes_beside zero (d ∷ ds) h k = absurd (omega arith)
bytes_beside (suc n) [] h k = absurd (omega arith)
bytes_beside (suc n) (d ∷ []) h k = absurd (omega arith)
bytes_beside (suc n) (d ∷ e ∷ ds) h k =
    let p = digits_cons d (e ∷ ds) k in
    let q = digits_cons e ds p.1 in
    let v = joined_of (map value_of ds) in
    let w = (v * 256 + value_of e) * 256 + value_of d in
    let l : v % 256 < 16 = lowest_small ds q.1 in
    let s : beside w / 256 ≡ v * 4097 + value_of e * 16 = omega arith in
    let first : beside w % 256 ≡ value_of d * 16 + value_of e = omega arith in
    let rest : beside w / 65536 ≡ beside v = omega arith in
    let m : length ds ≡ n * 2 = omega arith in
    ap₂ ◌∷◌ first (ap (alternate n) rest ∙ bytes_beside n ds m q.1)

-- for eight digits, as the code says it: their values, the most that these are, and the bytes
pub values_eight : (ds : List ℕ) (x : ℕ) → length ds ≡ 8 → all_digits ds ≡ true → x ≡ joined_of ds → bit_and x 0x0F0F_0F0F_0F0F_0F0F + bit_and (x / 64) 0x0101_0101_0101_0101 * 9 ≡ joined_of (map value_of ds)
unfolding mask
values_eight ds x l h e =
    ap (λ (y : ℕ). bit_and y (mask 15 8) + bit_and (y / 64) (mask 1 8) * 9) e
    ∙ sym (ap (λ (n : ℕ). bit_and (joined_of ds) (mask 15 n) + bit_and (joined_of ds / 64) (mask 1 n) * 9) l)
    ∙ values_masked ds h

pub most_eight : (ds : List ℕ) (v : ℕ) → length ds ≡ 8 → all_digits ds ≡ true → v ≡ joined_of (map value_of ds) → v ≤ 0x0F0F_0F0F_0F0F_0F0F
unfolding mask
most_eight ds v l h e =
    let m : mask 15 (length ds) ≡ 0x0F0F_0F0F_0F0F_0F0F = ap (mask 15) l in
    let a : joined_of (map value_of ds) ≤ mask 15 (length ds) = values-most ds h in
    omega arith

pub bytes_eight : (ds : List ℕ) (v : ℕ) → length ds ≡ 8 → all_digits ds ≡ true → v ≡ joined_of (map value_of ds) → beside v % 256 ∷ beside v / 0x1_0000 % 256 ∷ beside v / 0x1_0000_0000 % 256 ∷ beside v / 0x1_0000_0000_0000 % 256 ∷ [] ≡ bytes_of ds
unfolding alternate
bytes_eight ds v l h e =
    let w = beside v in
    let a : w / 0x1_0000_0000 ≡ w / 0x1_0000 / 0x1_0000 = sym (shr-shr w 16 16) in
    let b : w / 0x1_0000_0000_0000 ≡ w / 0x1_0000 / 0x1_0000 / 0x1_0000 = sym (shr-shr w 32 16) ∙ ap (λ (n : ℕ). n / 0x1_0000) a in
    ap₂ (λ (m n : ℕ). w % 256 ∷ w / 0x1_0000 % 256 ∷ m % 256 ∷ n % 256 ∷ []) a b ∙ ap (λ (n : ℕ). alternate 4 (beside n)) e ∙ bytes_beside 4 ds l h
