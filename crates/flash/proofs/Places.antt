-- What stands at a place after a store, and what the erased test says of each place. Assumes nothing.
use mathlib.Core.Path.{◌≡◌, refl, ap, ◌∙◌, sym}
use mathlib.Core.Bool.{true, false, ◌||◌, true≢false, false≢true}
use mathlib.Core.Logic.{◌⊎◌, inl, inr, ⊎_elim}
use mathlib.Core.List.{List, [], ◌∷◌}
use Prim.Native.Nat.{ℕ, zero, suc, ◌+◌, ◌-◌, ◌≤◌, ◌<◌}
use native.Mathlib.Omega.{arith}
use native.Mathlib.Nat.{add-zero, add-suc, suc-add, not-suc-le-zero, le_of_suc-le-suc}
use lib.Dec.{eqb}
use lib.ListN.{length, get_or, length-set}
use lib.Seq.{get_or-set_same, get_or-set_other}
use borrow.Author.Tests.{eqb-true, eqb-false, eq-eqb}
use Rattle.laws.proofs.Split.{by_bool, by_eq, and_true}
use Rattle.board.specs.declared.Board.{Board}
use Rattle.flash.specs.Flash.{kept, each, stored}
use Rattle.flash.proofs.Flash.{stored_one, stored_cons, stored-none}

module _ (board : Board) (word at x : ℕ) (m : List ℕ) where
  one_length : length (stored_one board word at x m) ≡ length m
  unfolding stored_one
  one_length = by_bool (kept board word at) (λ e. rw e) (λ e. rw e (length-set m at x))

  one_other : (i : ℕ) → (i ≡ at → ⊥) → get_or (stored_one board word at x m) i 0 ≡ get_or m i 0
  unfolding stored_one
  one_other i h = by_bool (kept board word at) (λ e. rw e) (λ e. rw e (get_or-set_other m at i x 0 h))

  one_kept : (i : ℕ) → kept board word i ≡ true → get_or (stored_one board word at x m) i 0 ≡ get_or m i 0
  unfolding stored_one
  one_kept i k = by_eq i at (λ e. rw (sym (ap (kept board word) e) ∙ k)) (λ e. one_other i e)

  one_open : at < length m → kept board word at ≡ false → get_or (stored_one board word at x m) at 0 ≡ x
  unfolding stored_one
  one_open l k = rw k (get_or-set_same m at x 0 l)

pub stored-length : (board : Board) (word : ℕ) (xs : List ℕ) (at : ℕ) (m : List ℕ) → at + length xs ≤ length m → length (stored board word at xs m) ≡ length m
stored-length board word [] at m h = ap length (stored-none board word at m)
stored-length board word (x ∷ xs) at m h =
    let l : at < length m = omega arith in
    let h' : suc at + length xs ≤ length (stored_one board word at x m) = rw (one_length board word at x m) (omega arith) in
    ap length (stored_cons board word at x m l xs) ∙ stored-length board word xs (suc at) (stored_one board word at x m) h' ∙ one_length board word at x m

-- elsewhere
pub stored_outside : (board : Board) (word : ℕ) (xs : List ℕ) (at : ℕ) (m : List ℕ) (i : ℕ) → at + length xs ≤ length m → (i < at) ⊎ (at + length xs ≤ i) → get_or (stored board word at xs m) i 0 ≡ get_or m i 0
stored_outside board word [] at m i h o = ap (λ (l : List ℕ). get_or l i 0) (stored-none board word at m)
stored_outside board word (x ∷ xs) at m i h o =
    let l : at < length m = omega arith in
    let h' : suc at + length xs ≤ length (stored_one board word at x m) = rw (one_length board word at x m) (omega arith) in
    let o' : (i < suc at) ⊎ (suc at + length xs ≤ i) =
    ⊎_elim (λ a. let z : i < suc at = omega arith in inl z) (λ a. let z : suc at + length xs ≤ i = omega arith in inr z) o in
    let d : i ≡ at → ⊥ = λ e. ⊎_elim (λ a. omega arith) (λ a. omega arith) o in
    ap (λ (y : List ℕ). get_or y i 0) (stored_cons board word at x m l xs)
    ∙ stored_outside board word xs (suc at) (stored_one board word at x m) i h' o'
    ∙ one_other board word at x m i d

-- in a write-protected page
pub stored_spares : (board : Board) (word : ℕ) (xs : List ℕ) (at : ℕ) (m : List ℕ) (i : ℕ) → at + length xs ≤ length m → kept board word i ≡ true → get_or (stored board word at xs m) i 0 ≡ get_or m i 0
stored_spares board word [] at m i h k = ap (λ (l : List ℕ). get_or l i 0) (stored-none board word at m)
stored_spares board word (x ∷ xs) at m i h k =
    let l : at < length m = omega arith in
    let h' : suc at + length xs ≤ length (stored_one board word at x m) = rw (one_length board word at x m) (omega arith) in
    ap (λ (y : List ℕ). get_or y i 0) (stored_cons board word at x m l xs)
    ∙ stored_spares board word xs (suc at) (stored_one board word at x m) i h' k
    ∙ one_kept board word at x m i k

-- in an open page
pub stored_puts : (board : Board) (word : ℕ) (xs : List ℕ) (at : ℕ) (m : List ℕ) (i : ℕ) → at + length xs ≤ length m → at ≤ i → i < at + length xs → kept board word i ≡ false → get_or (stored board word at xs m) i 0 ≡ get_or xs (i - at) 0
stored_puts board word [] at m i h a b k = absurd (omega arith)
stored_puts board word (x ∷ xs) at m i h a b k =
    let l : at < length m = omega arith in
    let h' : suc at + length xs ≤ length (stored_one board word at x m) = rw (one_length board word at x m) (omega arith) in
    ap (λ (y : List ℕ). get_or y i 0) (stored_cons board word at x m l xs)
    ∙ by_eq i at
    (λ e.
    let z : i - at ≡ 0 = omega arith in
    let o : (i < suc at) ⊎ (suc at + length xs ≤ i) = let y : i < suc at = omega arith in inl y in
    rw z (stored_outside board word xs (suc at) (stored_one board word at x m) i h' o ∙ rw e (one_open board word at x m l (sym (ap (kept board word) e) ∙ k))))
    (λ e.
    let a' : suc at ≤ i = omega arith in
    let b' : i < suc at + length xs = omega arith in
    let z : i - at ≡ suc (i - suc at) = omega arith in
    rw z (stored_puts board word xs (suc at) (stored_one board word at x m) i h' a' b' k))

-- the test over bytes, place by place
pub each_all : (board : Board) (v word i n : ℕ) (ms : List ℕ) → n ≤ length ms → each board v word i n ms ≡ true → (j : ℕ) → j < n → kept board word (i + j) ≡ false → get_or ms j 0 ≡ v
unfolding each
each_all board v word i zero ms h e j b k = absurd (not-suc-le-zero b)
each_all board v word i (suc n) [] h e j b k = absurd (not-suc-le-zero h)
each_all board v word i (suc n) (m ∷ ms) h e zero b k =
    let here = (and_true (eqb m v || kept board word i) (each board v word (suc i) n ms) e).0 in
    by_bool (eqb m v) (λ z. eqb-true m v z) (λ z. absurd (false≢true (sym (rw (z, sym (ap (kept board word) (add-zero i)) ∙ k)) ∙ here)))
each_all board v word i (suc n) (m ∷ ms) h e (suc j) b k =
    each_all board v word (suc i) n ms (le_of_suc-le-suc h) (and_true (eqb m v || kept board word i) (each board v word (suc i) n ms) e).1 j (le_of_suc-le-suc b)
    (ap (kept board word) (suc-add i j ∙ sym (add-suc i j)) ∙ k)

pub each_if : (board : Board) (v word i n : ℕ) (ms : List ℕ) → n ≤ length ms → ((j : ℕ) → j < n → kept board word (i + j) ≡ false → get_or ms j 0 ≡ v) → each board v word i n ms ≡ true
unfolding each
each_if board v word i zero ms h f = refl
each_if board v word i (suc n) [] h f = refl
each_if board v word i (suc n) (m ∷ ms) h f =
    let rest : each board v word (suc i) n ms ≡ true =
    each_if board v word (suc i) n ms (le_of_suc-le-suc h) (λ j b k. f (suc j) (omega arith) (ap (kept board word) (add-suc i j ∙ sym (suc-add i j)) ∙ k)) in
    by_bool (kept board word i)
    (λ k. by_bool (eqb m v) (λ z. rw (z, rest)) (λ z. rw (z, k, rest)))
    (λ k. let z : m ≡ v = f 0 (omega arith) (ap (kept board word) (add-zero i) ∙ k) in rw (eq-eqb m v z, rest))

-- a byte that the test looks at and that is not v
abbrev pub Odd : Board → ℕ → ℕ → ℕ → ℕ → List ℕ → Type 0
Odd board v word i n ms = (j : ℕ) × (j < n) × (kept board word (i + j) ≡ false) × (get_or ms j 0 ≡ v → ⊥)

odd_later : (board : Board) (v word i n m : ℕ) (ms : List ℕ) → Odd board v word (suc i) n ms → Odd board v word i (suc n) (m ∷ ms)
odd_later board v word i n m ms r =
    (suc r.0, omega (arith, r.1), ap (kept board word) (add-suc i r.0 ∙ sym (suc-add i r.0)) ∙ r.2, r.3)

-- where the test fails, there is one
pub each-not : (board : Board) (v word i n : ℕ) (ms : List ℕ) → each board v word i n ms ≡ false → Odd board v word i n ms
unfolding each
each-not board v word i zero ms e = absurd (true≢false e)
each-not board v word i (suc n) [] e = absurd (true≢false e)
each-not board v word i (suc n) (m ∷ ms) e =
    by_bool (eqb m v) (λ a. odd_later board v word i n m ms (each-not board v word (suc i) n ms (rw a at e)))
    (λ a.
    by_bool (kept board word i) (λ k. odd_later board v word i n m ms (each-not board v word (suc i) n ms (rw (a, k) at e)))
    (λ k. (0, omega arith, ap (kept board word) (add-zero i) ∙ k, eqb-false m v a)))
