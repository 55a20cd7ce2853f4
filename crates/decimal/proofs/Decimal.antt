-- Laws of `decimal_of`: digit by digit, how many digits, and what they read back as. Assumes nothing.
use mathlib.Core.Path.{◌≡◌, refl, ap, ◌∙◌, sym}
use mathlib.Core.Bool.{cond}
use mathlib.Core.List.{List, [], ◌∷◌, ◌++◌, append_assoc, append-nil}
use Prim.Native.Nat.{ℕ, zero, suc, ◌+◌, ◌-◌, ◌*◌, ◌/◌, ◌%◌, ◌^◌, ◌≤◌, ◌<◌, max}
use native.Mathlib.Nat.{pow-suc, le_refl, one-le-pow, zero-lt-suc}
use native.Mathlib.Omega.{arith}
use lib.Dec.{ltb}
use lib.ListN.{length, length-append}
use borrow.Author.Tests.{lt-ltb, le-ltb}
use Rattle.laws.proofs.Split.{by_lt}
use Rattle.decimal.specs.Decimal.{digits_of, decimal_of}

-- more digits than there are change nothing
digits_enough : (j k n : ℕ) → n ≤ j → n ≤ k → digits_of (suc j) n ≡ digits_of (suc k) n
unfolding digits_of
digits_enough zero zero n h g = refl
digits_enough zero (suc k) n h g = let s : n < 10 = omega arith in rw (lt-ltb n 10 s)
digits_enough (suc j) zero n h g = let s : n < 10 = omega arith in rw (lt-ltb n 10 s)
digits_enough (suc j) (suc k) n h g =
    by_lt n 10 (λ s. rw (lt-ltb n 10 s))
    (λ s.
    let a : n / 10 ≤ j = omega arith in
    let b : n / 10 ≤ k = omega arith in
    let e : digits_of (suc j) (n / 10) ≡ digits_of (suc k) (n / 10) = digits_enough j k (n / 10) a b in
    rw (le-ltb n 10 s, e))

pub one_digit : (n : ℕ) → n < 10 → decimal_of n ≡ (48 + n) ∷ []
unfolding decimal_of digits_of
one_digit n h = rw (lt-ltb n 10 h)

digits_open : (k n : ℕ) → 10 ≤ n → digits_of (suc k) n ≡ digits_of k (n / 10) ++ ((48 + n % 10) ∷ [])
unfolding digits_of
digits_open k n h = rw (le-ltb n 10 h)

pub last_digit : (n : ℕ) → 10 ≤ n → decimal_of n ≡ decimal_of (n / 10) ++ ((48 + n % 10) ∷ [])
unfolding decimal_of
last_digit zero h = absurd (omega arith)
last_digit (suc m) h =
    let a : suc m / 10 ≤ m = omega arith in
    let e : digits_of (suc m) (suc m / 10) ≡ digits_of (suc (suc m / 10)) (suc m / 10) = digits_enough m (suc m / 10) (suc m / 10) a (le_refl (suc m / 10)) in
    digits_open (suc m) (suc m) h ∙ ap (λ (l : List ℕ). l ++ ((48 + suc m % 10) ∷ [])) e

-- what holds of the one-digit numbers, and of a number where it holds of all its digits but the last, holds of every number
by_digits : (P : ℕ → Type 0) → ((n : ℕ) → n < 10 → P n) → ((n : ℕ) → 10 ≤ n → P (n / 10) → P n) → (n : ℕ) → P n
by_digits P few more n = within n n (le_refl n)
  where
    within : (k n : ℕ) → n ≤ k → P n
    within zero n h = few n (omega arith)
    within (suc k) n h = by_lt n 10 (few n) (λ s. more n s (within k (n / 10) (omega arith)))

pub digits_one : (n : ℕ) → n < 10 → length (decimal_of n) ≡ 1
digits_one n h = ap length (one_digit n h)

-- one digit more than all but the last
pub digits_more : (n : ℕ) → 10 ≤ n → length (decimal_of n) ≡ length (decimal_of (n / 10)) + 1
digits_more n h = ap length (last_digit n h) ∙ length-append (decimal_of (n / 10)) ((48 + n % 10) ∷ [])

-- so one digit is a number below 10, and more are not
digits_some : (n : ℕ) → 1 ≤ length (decimal_of n)
digits_some n = by_lt n 10 (λ s. let e = digits_one n s in omega arith) (λ s. let e = digits_more n s in omega arith)

pub more_by_digits : (n : ℕ) → 1 < length (decimal_of n) → 10 ≤ n
more_by_digits n h = by_lt n 10 (λ s. let e = digits_one n s in absurd (omega arith)) (λ s. s)

pub few_by_digits : (n : ℕ) → length (decimal_of n) ≤ 1 → n < 10
few_by_digits n h =
    by_lt n 10 (λ s. s)
    (λ s.
    let e = digits_more n s in
    let f = digits_some (n / 10) in
    absurd (omega arith))

-- a number below 10 ^ (k + 1) has at most k + 1 digits
pub digits_at_most : (k n : ℕ) → n < 10 ^ suc k → length (decimal_of n) ≤ suc k
digits_at_most zero n h = let e = digits_one n h in omega arith
digits_at_most (suc k) n h =
    by_lt n 10
    (λ s. let e = digits_one n s in omega arith)
    (λ s.
    let p : 10 ^ suc (suc k) ≡ 10 ^ suc k * 10 = pow-suc 10 (suc k) in
    let a : n / 10 < 10 ^ suc k = omega arith in
    let b = digits_at_most k (n / 10) a in
    let e = digits_more n s in
    omega arith)

-- a number from 10 ^ k on, and below 10 ^ (k + 1), has k + 1 digits
digits_log : (k n : ℕ) → 10 ^ k ≤ n → n < 10 * 10 ^ k → length (decimal_of n) ≡ k + 1
digits_log zero n l u = digits_one n (omega arith)
digits_log (suc k) n l u =
    let p : 10 ^ suc k ≡ 10 ^ k * 10 = pow-suc 10 k in
    let o : 1 ≤ 10 ^ k = one-le-pow k 10 (zero-lt-suc 9) in
    let e = digits_more n (omega arith) in
    let d = digits_log k (n / 10) (omega arith) (omega arith) in
    omega arith

-- and zero has one
pub digits_told : (k n : ℕ) → 10 ^ k ≤ max n 1 → max n 1 < 10 * 10 ^ k → length (decimal_of n) ≡ k + 1
digits_told k n l u =
    by_lt n 1
    (λ h.
    let e = digits_one n (omega arith) in
    let f = digits_one 1 (omega arith) in
    let g = digits_log k 1 (omega arith) (omega arith) in
    omega arith)
    (λ h. digits_log k n (omega arith) (omega arith))

-- digits read as a decimal number, behind the number a
unfoldable pub read_on : ℕ → List ℕ → ℕ
read_on a [] = a
read_on a (x ∷ xs) = read_on (a * 10 + (x - 48)) xs

read_last : (xs : List ℕ) (a x : ℕ) → read_on a (xs ++ (x ∷ [])) ≡ read_on a xs * 10 + (x - 48)
unfolding read_on
read_last [] a x = refl
read_last (y ∷ xs) a x = read_last xs (a * 10 + (y - 48)) x

read_one : (n : ℕ) → read_on 0 ((48 + n) ∷ []) ≡ n
unfolding read_on
read_one n = let d : 0 * 10 + (48 + n - 48) ≡ n = omega arith in d

-- the digits of n read back as n
pub decimal_read : (n : ℕ) → read_on 0 (decimal_of n) ≡ n
decimal_read =
    by_digits (λ (n : ℕ). read_on 0 (decimal_of n) ≡ n)
    (λ n s. ap (read_on 0) (one_digit n s) ∙ read_one n)
    (λ n s e.
    ap (read_on 0) (last_digit n s)
    ∙ read_last (decimal_of (n / 10)) 0 (48 + n % 10)
    ∙ ap (λ (m : ℕ). m * 10 + (48 + n % 10 - 48)) e
    ∙ (let d : n / 10 * 10 + (48 + n % 10 - 48) ≡ n = omega arith in d))

-- the digits at the front of a line, and what stands behind the byte that ends them
unfoldable pub digits_in : List ℕ → List ℕ
digits_in [] = []
digits_in (x ∷ xs) = cond (ltb x 48) [] (x ∷ digits_in xs)

unfoldable pub behind : List ℕ → List ℕ
behind [] = []
behind (x ∷ xs) = cond (ltb x 48) xs (behind xs)

digit_in : (d : ℕ) (t : List ℕ) → digits_in ((48 + d) ∷ t) ≡ (48 + d) ∷ digits_in t
unfolding digits_in
digit_in d t = let h : 48 ≤ 48 + d = omega arith in rw (le-ltb (48 + d) 48 h)

digit_behind : (d : ℕ) (t : List ℕ) → behind ((48 + d) ∷ t) ≡ behind t
unfolding behind
digit_behind d t = let h : 48 ≤ 48 + d = omega arith in rw (le-ltb (48 + d) 48 h)

-- a number's digits, whatever stands behind them
split : (n : ℕ) → 10 ≤ n → (t : List ℕ) → decimal_of n ++ t ≡ decimal_of (n / 10) ++ ((48 + n % 10) ∷ t)
split n s t = ap (λ (l : List ℕ). l ++ t) (last_digit n s) ∙ append_assoc (decimal_of (n / 10)) ((48 + n % 10) ∷ []) t

decimal_in : (n : ℕ) (t : List ℕ) → digits_in (decimal_of n ++ t) ≡ decimal_of n ++ digits_in t
decimal_in =
    by_digits (λ (n : ℕ). (t : List ℕ) → digits_in (decimal_of n ++ t) ≡ decimal_of n ++ digits_in t)
    (λ n s t. rw (one_digit n s) (digit_in n t))
    (λ n s e t.
    ap digits_in (split n s t)
    ∙ e ((48 + n % 10) ∷ t)
    ∙ ap (λ (l : List ℕ). decimal_of (n / 10) ++ l) (digit_in (n % 10) t)
    ∙ sym (split n s (digits_in t)))

pub decimal_behind : (n : ℕ) (t : List ℕ) → behind (decimal_of n ++ t) ≡ behind t
decimal_behind =
    by_digits (λ (n : ℕ). (t : List ℕ) → behind (decimal_of n ++ t) ≡ behind t)
    (λ n s t. rw (one_digit n s) (digit_behind n t))
    (λ n s e t. ap behind (split n s t) ∙ e ((48 + n % 10) ∷ t) ∙ digit_behind (n % 10) t)

none_in : (b : ℕ) (t : List ℕ) → b < 48 → digits_in (b ∷ t) ≡ []
unfolding digits_in
none_in b t h = rw (lt-ltb b 48 h)

-- the number of a field that a byte below the digits ends
pub field_read : (n b : ℕ) (t : List ℕ) → b < 48 → read_on 0 (digits_in (decimal_of n ++ (b ∷ t))) ≡ n
field_read n b t h =
    ap (read_on 0) (decimal_in n (b ∷ t) ∙ ap (λ (l : List ℕ). decimal_of n ++ l) (none_in b t h) ∙ append-nil (decimal_of n)) ∙ decimal_read n
