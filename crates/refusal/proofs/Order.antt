-- Where a call's list is in order, no refusal that comes before the one given applies. Assumes nothing.
use mathlib.Core.Path.{◌≡◌}
use mathlib.Core.Bool.{Bool, true, false, ◌||◌, false≢true}
use mathlib.Core.List.{List, [], ◌∷◌}
use mathlib.Core.Logic.{◌⊎◌, ⊎_elim}
use Prim.Native.Nat.{ℕ}
use lib.Dec.{eqb}
use borrow.Author.Tests.{ne_eqb}
use Rattle.std.specs.Prelude.{Err}
use Rattle.laws.proofs.Split.{by_bool, and_true, or_false}
use Rattle.refusal.specs.declared.Refusal.{Refusal}
use Rattle.refusal.specs.Refusal.{number_of}
use Rattle.refusal.specs.Order.{first_of, rows, met, before, before_all, in_order}

-- a refusal of the number k applies
abbrev pub Applies : List (Refusal × Bool) → ℕ → Type 0
Applies [] k = ⊥
Applies ((r, false) ∷ xs) k = Applies xs k
Applies ((r, true) ∷ xs) k = (k ≡ number_of r) ⊎ Applies xs k

met_once : (xs : List ℕ) (j k : ℕ) → met xs j k ≡ true → met xs k j ≡ true → ⊥
unfolding met
met_once [] j k a b = false≢true a
met_once (x ∷ xs) j k a b =
    by_bool (eqb x k) (λ e. false≢true (rw e at a))
    (λ e. by_bool (eqb x j) (λ f. false≢true (rw f at b)) (λ f. met_once xs j k (rw (e, f) at a) (rw (f, e) at b)))

-- of two numbers one at most is before the other
before_once : (j k : ℕ) → before j k ≡ true → before k j ≡ true → ⊥
unfolding before
before_once j k a b =
    by_bool (eqb j 11 || eqb k 13) (λ e. false≢true (rw e at a))
    (λ e.
    by_bool (eqb k 11 || eqb j 13) (λ f. false≢true (rw f at b))
    (λ f.
    let p = or_false (eqb j 11) (eqb k 13) e in
    let q = or_false (eqb k 11) (eqb j 13) f in
    met_once rows j k (rw (p.0, p.1, q.1, q.0) at a) (rw (q.0, q.1, p.1, p.0) at b)))

-- "11 comes last and 13 first", for every number that there is and that may come
pub eleven_last : (k : ℕ) → (k ≡ 11 → ⊥) → before k 11 ≡ true
unfolding before
eleven_last k n = by_bool (eqb k 13) (λ e. rw (ne_eqb k 11 n, e)) (λ e. rw (ne_eqb k 11 n, e))

pub thirteen_first : (k : ℕ) → (k ≡ 13 → ⊥) → before 13 k ≡ true
unfolding before
thirteen_first k n = rw (ne_eqb k 13 n)

before-applies : (k : ℕ) (xs : List (Refusal × Bool)) (j : ℕ) → before_all k xs ≡ true → Applies xs j → before k j ≡ true
unfolding before_all
before-applies k [] j e a = absurd a
before-applies k ((r, false) ∷ xs) j e a = before-applies k xs j (and_true (before k (number_of r)) (before_all k xs) e).1 a
before-applies k ((r, true) ∷ xs) j e a =
    let p = and_true (before k (number_of r)) (before_all k xs) e in
    ⊎_elim (λ w. rw w p.0) (λ w. before-applies k xs j p.1 w) a

-- Where the list is in order, no refusal applies whose number is before that of the answer.
pub none_before : (xs : List (Refusal × Bool)) (r : Refusal) → in_order xs ≡ true → first_of xs ≡ Err r → (j : ℕ) → before j (number_of r) ≡ true → Applies xs j → ⊥
unfolding first_of in_order
none_before [] r o e j b a = a
none_before ((s, false) ∷ xs) r o e j b a = none_before xs r (and_true (before_all (number_of s) xs) (in_order xs) o).1 e j b a
none_before ((s, true) ∷ xs) r o e j b a =
    let is : s ≡ r = cc in
    let c : before j (number_of s) ≡ true = rw is b in
    ⊎_elim (λ w. let d : before (number_of s) (number_of s) ≡ true = rw w at c in before_once (number_of s) (number_of s) d d)
    (λ w. before_once j (number_of s) c (before-applies (number_of s) xs j (and_true (before_all (number_of s) xs) (in_order xs) o).0 w))
    a
