-- Laws of the lines of a text. Assumes nothing.
use mathlib.Core.Path.{◌≡◌, refl, ap, ◌∙◌}
use mathlib.Core.List.{List, [], ◌∷◌, ◌++◌}
use Prim.Native.Nat.{ℕ, suc, ◌≤◌, ◌<◌}
use native.Mathlib.Omega.{arith}
use lib.Dec.{eqb}
use lib.ListN.{length, drop, get_or}
use borrow.Author.Tests.{ne_eqb}
use Rattle.laws.specs.Lines.{first_line, onto, lines_of}
use Rattle.laws.proofs.Split.{by_bool}

-- the first line and what comes after it
pub first_rest : (u : List ℕ) → first_line u ++ drop (length (first_line u)) u ≡ u
unfolding first_line
first_rest [] = refl
first_rest (x ∷ u) = by_bool (eqb x 10) (λ e. rw e) (λ e. rw e (ap (λ (l : List ℕ). x ∷ l) (first_rest u)))

pub first_kind : (u : List ℕ) → get_or (first_line u) 0 0 ≡ get_or u 0 0
unfolding first_line
first_kind [] = refl
first_kind (x ∷ u) = by_bool (eqb x 10) (λ e. rw e) (λ e. rw e)

pub first_some : (u : List ℕ) → 0 < length u → 0 < length (first_line u)
unfolding first_line
first_some [] h = absurd (omega arith)
first_some (x ∷ u) h = by_bool (eqb x 10) (λ e. rw e (omega arith)) (λ e. rw e (omega arith))

pub first-length : (u : List ℕ) → length (first_line u) ≤ length u
unfolding first_line
first-length [] = omega arith
first-length (x ∷ u) = by_bool (eqb x 10) (λ e. rw e (omega arith)) (λ e. rw e (let h = first-length u in omega arith))

-- what has no LF does not end a line
pub first_past : (xs s : List ℕ) → ((i : ℕ) → i < length xs → get_or xs i 0 ≡ 10 → ⊥) → first_line (xs ++ s) ≡ xs ++ first_line s
unfolding first_line
first_past [] s h = refl
first_past (x ∷ xs) s h =
    let z : 0 < length (x ∷ xs) = omega arith in
    rw (ne_eqb x 10 (h 0 z), first_past xs s (λ i k. h (suc i) (let l : suc i < length (x ∷ xs) = omega arith in l)))

-- the lines of a text are its first line and the lines of the rest
pub lines_first : (u : List ℕ) → 0 < length u → lines_of u ≡ first_line u ∷ lines_of (drop (length (first_line u)) u)
unfolding lines_of first_line onto
lines_first [] h = absurd (omega arith)
lines_first (x ∷ []) h = by_bool (eqb x 10) (λ e. rw e) (λ e. rw e)
lines_first (x ∷ y ∷ u) h =
    by_bool (eqb x 10)
    (λ e. rw e)
    (λ e.
    let k : 0 < length (y ∷ u) = omega arith in
    rw e (ap (onto x) (lines_first (y ∷ u) k)))

-- lists, one after the other
unfoldable pub joined : List (List ℕ) → List ℕ
joined [] = []
joined (l ∷ ls) = l ++ joined ls

-- the lines of a text, one after the other, are the text
joined_onto : (x : ℕ) (ls : List (List ℕ)) → joined (onto x ls) ≡ x ∷ joined ls
unfolding joined onto
joined_onto x [] = refl
joined_onto x (l ∷ ls) = refl

pub joined_lines : (t : List ℕ) → joined (lines_of t) ≡ t
unfolding joined lines_of
joined_lines [] = refl
joined_lines (x ∷ t) =
    by_bool (eqb x 10)
    (λ e. rw e (ap (λ (l : List ℕ). x ∷ l) (joined_lines t)))
    (λ e. rw e (joined_onto x (lines_of t) ∙ ap (λ (l : List ℕ). x ∷ l) (joined_lines t)))
