-- Laws of `all_bytes` and `same`. Assumes nothing.
use mathlib.Core.Path.{◌≡◌, refl, ap₂}
use mathlib.Core.Bool.{true, false≢true}
use mathlib.Core.List.{List, [], ◌∷◌, ◌++◌}
use Prim.Native.Nat.{ℕ, zero, suc, ◌+◌, ◌<◌}
use native.Mathlib.Omega.{arith}
use lib.Dec.{eqb, ltb}
use lib.ListN.{length, take, drop, get_or}
use borrow.Author.Tests.{lt-ltb, ltb-true, eqb-true, eq-eqb}
use Rattle.laws.specs.Bytes.{put}
use Rattle.laws.specs.Lists.{all_bytes, same}
use Rattle.laws.proofs.Split.{and_true}

pub byte_at : (xs : List ℕ) (i : ℕ) → all_bytes xs ≡ true → get_or xs i 0 < 256
unfolding all_bytes
byte_at [] i h = omega arith
byte_at (x ∷ xs) zero h = ltb-true _ _ (and_true (ltb x 256) (all_bytes xs) h).0
byte_at (x ∷ xs) (suc i) h = byte_at xs i (and_true (ltb x 256) (all_bytes xs) h).1

pub bytes_all : (xs : List ℕ) → ((i : ℕ) → get_or xs i 0 < 256) → all_bytes xs ≡ true
unfolding all_bytes
bytes_all [] h = refl
bytes_all (x ∷ xs) h = rw (lt-ltb x 256 (h 0), bytes_all xs (λ i. h (suc i)))

pub bytes-append : (xs ys : List ℕ) → all_bytes xs ≡ true → all_bytes ys ≡ true → all_bytes (xs ++ ys) ≡ true
unfolding all_bytes
bytes-append [] ys h k = k
bytes-append (x ∷ xs) ys h k =
    let p = and_true (ltb x 256) (all_bytes xs) h in
    rw (p.0, bytes-append xs ys p.1 k)

pub bytes_apart : (xs ys : List ℕ) → all_bytes (xs ++ ys) ≡ true → (all_bytes xs ≡ true) × (all_bytes ys ≡ true)
unfolding all_bytes
bytes_apart [] ys h = (refl, h)
bytes_apart (x ∷ xs) ys h =
    let p = and_true (ltb x 256) (all_bytes (xs ++ ys)) h in
    let q = bytes_apart xs ys p.1 in
    (rw (p.0, q.0), q.1)

pub bytes_take : (n : ℕ) (xs : List ℕ) → all_bytes xs ≡ true → all_bytes (take n xs) ≡ true
unfolding all_bytes
bytes_take zero xs h = refl
bytes_take (suc n) [] h = refl
bytes_take (suc n) (x ∷ xs) h =
    let p = and_true (ltb x 256) (all_bytes xs) h in
    rw (p.0, bytes_take n xs p.1)

pub bytes_drop : (n : ℕ) (xs : List ℕ) → all_bytes xs ≡ true → all_bytes (drop n xs) ≡ true
unfolding all_bytes
bytes_drop zero xs h = h
bytes_drop (suc n) [] h = refl
bytes_drop (suc n) (x ∷ xs) h = bytes_drop n xs (and_true (ltb x 256) (all_bytes xs) h).1

pub same_refl : (xs : List ℕ) → same xs xs ≡ true
unfolding same
same_refl [] = refl
same_refl (x ∷ xs) = rw (eq-eqb x x refl, same_refl xs)

pub same_eq : (xs ys : List ℕ) → same xs ys ≡ true → xs ≡ ys
unfolding same
same_eq [] [] e = refl
same_eq [] (y ∷ ys) e = absurd (false≢true e)
same_eq (x ∷ xs) [] e = absurd (false≢true e)
same_eq (x ∷ xs) (y ∷ ys) e =
    let p = and_true (eqb x y) (same xs ys) e in
    ap₂ ◌∷◌ (eqb-true x y p.0) (same_eq xs ys p.1)

pub bytes-put : (at : ℕ) (xs m : List ℕ) → all_bytes xs ≡ true → all_bytes m ≡ true → all_bytes (put at xs m) ≡ true
unfolding put
bytes-put at xs m x y = bytes-append (take at m ++ xs) (drop (at + length xs) m) (bytes-append (take at m) xs (bytes_take at m y) x) (bytes_drop (at + length xs) m y)
