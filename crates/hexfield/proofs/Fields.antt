-- Laws of a field: its length, its digits and bytes by place, and that field and bytes undo each other. Assumes nothing.
use mathlib.Core.Path.{◌≡◌, refl, ap₂, ◌∙◌, sym}
use mathlib.Core.Bool.{true, ◌&&◌}
use mathlib.Core.List.{List, [], ◌∷◌}
use Prim.Native.Nat.{ℕ, zero, suc, ◌+◌, ◌*◌, ◌/◌, ◌%◌, ◌≤◌, ◌<◌}
use native.Mathlib.Omega.{arith}
use native.Mathlib.Numerals.{add-one, add-two}
use lib.Dec.{ltb}
use lib.ListN.{length, take, drop, get_or, set, drop_of_length-le}
use lib.Seq.{drop-cons, sets}
use borrow.Author.Tests.{lt-ltb, ltb-true}
use Rattle.laws.specs.Bytes.{put}
use Rattle.laws.proofs.Bytes.{sets_turn, sets_end, sets-put}
use Rattle.laws.proofs.Split.{by_bool, and_true}
use Rattle.laws.specs.Lists.{all_bytes}
use Rattle.digit.specs.Digit.{value_of, digit_of, byte_of}
use Rattle.digit.proofs.Values.{value_digit, digit_above, byte_digits, byte_high, byte_low, byte_small}
use Rattle.hexfield.specs.Hex.{all_digits, capitals, bytes_of, hex_of}

pub hex_length : (xs : List ℕ) → length (hex_of xs) ≡ length xs * 2
unfolding hex_of
hex_length [] = refl
hex_length (x ∷ xs) =
    let e : length (hex_of xs) ≡ length xs * 2 = hex_length xs in
    omega arith

pub bytes-length : (ds : List ℕ) → length (bytes_of ds) ≡ length ds / 2
unfolding bytes_of
bytes-length [] = refl
bytes-length (d ∷ []) = refl
bytes-length (d ∷ e ∷ ds) =
    let q : length (bytes_of ds) ≡ length ds / 2 = bytes-length ds in
    omega arith

-- the first byte of a field of digits is a digit, and so are the others
pub digits_cons : (d : ℕ) (ds : List ℕ) → all_digits (d ∷ ds) ≡ true → (value_of d < 16) × (all_digits ds ≡ true)
unfolding all_digits
digits_cons d ds h =
    let p = and_true (ltb (value_of d) 16) (all_digits ds) h in
    (ltb-true _ _ p.0, p.1)

pub digit_at : (ds : List ℕ) (i : ℕ) → all_digits ds ≡ true → i < length ds → value_of (get_or ds i 0) < 16
digit_at [] i h k = absurd (omega arith)
digit_at (d ∷ ds) zero h k = (digits_cons d ds h).0
digit_at (d ∷ ds) (suc i) h k =
    let l : i < length ds = omega arith in
    digit_at ds i (digits_cons d ds h).1 l

-- a digit does not end a line
pub digits_no_end : (ds : List ℕ) → all_digits ds ≡ true → (i : ℕ) → i < length ds → get_or ds i 0 ≡ 10 → ⊥
digits_no_end ds h i k e = let a : 48 ≤ get_or ds i 0 = digit_above _ (digit_at ds i h k) in omega arith

pub digits_take : (n : ℕ) (ds : List ℕ) → all_digits ds ≡ true → all_digits (take n ds) ≡ true
unfolding all_digits
digits_take zero ds h = refl
digits_take (suc n) [] h = refl
digits_take (suc n) (d ∷ ds) h =
    let p = digits_cons d ds h in
    rw (lt-ltb (value_of d) 16 p.0, digits_take n ds p.1)

pub digits_drop : (n : ℕ) (ds : List ℕ) → all_digits ds ≡ true → all_digits (drop n ds) ≡ true
digits_drop zero ds h = h
digits_drop (suc n) [] h = h
digits_drop (suc n) (d ∷ ds) h = digits_drop n ds (digits_cons d ds h).1

-- a field is one of digits where both its parts are
pub digits_split : (n : ℕ) (ds : List ℕ) → all_digits ds ≡ (all_digits (take n ds) && all_digits (drop n ds))
unfolding all_digits
digits_split zero ds = refl
digits_split (suc n) [] = refl
digits_split (suc n) (d ∷ ds) = by_bool (ltb (value_of d) 16) (λ t. rw t (digits_split n ds)) (λ f. rw f)

pub bytes_are : (ds : List ℕ) → all_digits ds ≡ true → all_bytes (bytes_of ds) ≡ true
unfolding bytes_of all_bytes
bytes_are [] h = refl
bytes_are (d ∷ []) h = refl
bytes_are (d ∷ e ∷ ds) h =
    let p = digits_cons d (e ∷ ds) h in
    let q = digits_cons e ds p.1 in
    rw (lt-ltb (byte_of d e) 256 (byte_small d e p.0 q.0), bytes_are ds q.1)

-- the i-th byte that a field spells stands at its digits 2i and 2i + 1
pub byte_of_lem : (ds : List ℕ) (i : ℕ) → i < length ds / 2 → byte_of (get_or ds (i * 2) 0) (get_or ds (i * 2 + 1) 0) ≡ get_or (bytes_of ds) i 0
unfolding bytes_of
byte_of_lem [] i h = absurd (omega arith)
byte_of_lem (d ∷ []) i h = absurd (omega arith)
byte_of_lem (d ∷ e ∷ ds) zero h = refl
byte_of_lem (d ∷ e ∷ ds) (suc i) h =
    let k : i < length ds / 2 = omega arith in
    let a : suc i * 2 ≡ suc (suc (i * 2)) = omega arith in
    let b : suc (suc (i * 2)) + 1 ≡ suc (suc (i * 2 + 1)) = omega arith in
    rw (a, b) (byte_of_lem ds i k)

-- a part of a field spells that part of the bytes
pub bytes_of_take : (n : ℕ) (ds : List ℕ) → bytes_of (take (n * 2) ds) ≡ take n (bytes_of ds)
unfolding bytes_of
bytes_of_take zero ds = refl
bytes_of_take (suc n) [] = let e : suc n * 2 ≡ suc (suc (n * 2)) = omega arith in rw e
bytes_of_take (suc n) (d ∷ []) = let e : suc n * 2 ≡ suc (suc (n * 2)) = omega arith in rw e
bytes_of_take (suc n) (d ∷ e ∷ ds) = let t : suc n * 2 ≡ suc (suc (n * 2)) = omega arith in rw (t, bytes_of_take n ds)

pub bytes_of_drop : (n : ℕ) (ds : List ℕ) → bytes_of (drop (n * 2) ds) ≡ drop n (bytes_of ds)
unfolding bytes_of
bytes_of_drop zero ds = refl
bytes_of_drop (suc n) [] = let e : suc n * 2 ≡ suc (suc (n * 2)) = omega arith in rw e
bytes_of_drop (suc n) (d ∷ []) = let e : suc n * 2 ≡ suc (suc (n * 2)) = omega arith in rw e
bytes_of_drop (suc n) (d ∷ e ∷ ds) = let t : suc n * 2 ≡ suc (suc (n * 2)) = omega arith in rw t (bytes_of_drop n ds)

-- reading what was spelled gives the bytes
pub bytes_hex : (xs : List ℕ) → all_bytes xs ≡ true → bytes_of (hex_of xs) ≡ xs
unfolding hex_of bytes_of all_bytes
bytes_hex [] h = refl
bytes_hex (x ∷ xs) h =
    let p = and_true (ltb x 256) (all_bytes xs) h in
    ap₂ ◌∷◌ (byte_digits x (ltb-true x 256 p.0)) (bytes_hex xs p.1)

pub digits_hex : (xs : List ℕ) → all_digits (hex_of xs) ≡ true
unfolding hex_of all_digits
digits_hex [] = refl
digits_hex (x ∷ xs) =
    let a : x / 16 % 16 < 16 = omega arith in
    let b : x % 16 < 16 = omega arith in
    rw (value_digit (x / 16), value_digit x, lt-ltb (x / 16 % 16) 16 a, lt-ltb (x % 16) 16 b, digits_hex xs)

-- spelling what was read gives the field in capitals, where it has digits only, and an even number of them
pub hex_bytes : (ds : List ℕ) → all_digits ds ≡ true → length ds % 2 ≡ 0 → hex_of (bytes_of ds) ≡ capitals ds
unfolding hex_of bytes_of capitals
hex_bytes [] h k = refl
hex_bytes (d ∷ []) h k = absurd (omega arith)
hex_bytes (d ∷ e ∷ ds) h k =
    let p = digits_cons d (e ∷ ds) h in
    let q = digits_cons e ds p.1 in
    let m : length ds % 2 ≡ 0 = omega arith in
    rw (byte_high d e p.0 q.0, byte_low d e p.0 q.0, hex_bytes ds q.1 m)

-- a turn of a loop that reads a field into m
pub read_turn : (m ds : List ℕ) (at i v : ℕ) → i < length ds / 2 → v ≡ byte_of (get_or ds (i * 2) 0) (get_or ds (i * 2 + 1) 0) → sets m (at + i) (drop i (bytes_of ds)) ≡ sets (set m (at + i) v) (at + (i + 1)) (drop (i + 1) (bytes_of ds))
read_turn m ds at i v h e =
    let k : i < length (bytes_of ds) = rw (bytes-length ds) h in
    rw (e, byte_of_lem ds i h) (sets_turn m (bytes_of ds) at i k)

-- its end: all bytes of the field are laid
pub read_end : (m m₀ ds : List ℕ) (at i : ℕ) → length ds / 2 ≤ i → sets m (at + i) (drop i (bytes_of ds)) ≡ sets m₀ at (bytes_of ds) → at + length ds / 2 ≤ length m₀ → m ≡ put at (bytes_of ds) m₀
read_end m m₀ ds at i h e room =
    let k : length (bytes_of ds) ≤ i = rw (bytes-length ds) h in
    let r : at + length (bytes_of ds) ≤ length m₀ = rw (bytes-length ds) room in
    sym (sets_end m (bytes_of ds) (at + i) i k) ∙ e ∙ sets-put (bytes_of ds) m₀ at r

-- a turn of a loop that spells bytes into m
pub spell_turn : (m xs : List ℕ) (at i a b : ℕ) → i < length xs → a ≡ digit_of (get_or xs i 0 / 16) → b ≡ digit_of (get_or xs i 0) → sets m (at + i * 2) (hex_of (drop i xs)) ≡ sets (set (set m (at + i * 2) a) (at + i * 2 + 1) b) (at + (i + 1) * 2) (hex_of (drop (i + 1) xs))
unfolding hex_of
spell_turn m xs at i a b h p q =
    let e : at + (i + 1) * 2 ≡ at + i * 2 + 2 = omega arith in
    rw (drop-cons xs i 0 h, ← p, ← q, e, add-one (at + i * 2), add-two (at + i * 2), add-one i)

pub spell_end : (m m₀ xs : List ℕ) (at i : ℕ) → length xs ≤ i → sets m (at + i * 2) (hex_of (drop i xs)) ≡ sets m₀ at (hex_of xs) → at + length xs * 2 ≤ length m₀ → m ≡ put at (hex_of xs) m₀
unfolding hex_of
spell_end m m₀ xs at i h e room =
    let r : at + length (hex_of xs) ≤ length m₀ = rw (hex_length xs) room in
    let d : drop i xs ≡ [] = drop_of_length-le xs h in
    (rw d at e) ∙ sets-put (hex_of xs) m₀ at r
