-- The order of refusals, and the one that a call gives. Document 01, "Refusal numbers", the sentence over the table; document 02, CR 1. Assumes nothing.
use Rattle.std.specs.Prelude.{Bool, true, false, cond, ◌&&◌, ◌||◌, List, [], ◌∷◌, ℕ, eqb, ⊤, Result, Ok, Err}
use Rattle.refusal.specs.declared.Refusal.{Refusal}
use Rattle.refusal.specs.Refusal.{number_of}

-- a call's refusals stand in one list, each with whether it applies: the first that does is given
unfoldable pub first_of : List (Refusal × Bool) → Result ⊤ Refusal
first_of [] = Ok tt
first_of ((r, false) ∷ xs) = first_of xs
first_of ((r, true) ∷ xs) = Err r

-- "this order": the table's, from top to bottom; CR 1: 20 to 24, each before the next
abbrev pub rows : List ℕ
rows = 1 ∷ 2 ∷ 3 ∷ 4 ∷ 5 ∷ 6 ∷ 7 ∷ 8 ∷ 9 ∷ 10 ∷ 11 ∷ 12 ∷ 13 ∷ 20 ∷ 21 ∷ 22 ∷ 23 ∷ 24 ∷ []

-- going down these numbers, j is met, and k not before it
unfoldable pub met : List ℕ → ℕ → ℕ → Bool
met [] j k = false
met (x ∷ xs) j k = cond (eqb x k) false (cond (eqb x j) true (met xs j k))

-- "Checked in this order within each call, but 11 comes last and 13 first": the number j before the number k
unfoldable pub before : ℕ → ℕ → Bool
before j k = cond (eqb j 11 || eqb k 13) false (cond (eqb j 13 || eqb k 11) true (met rows j k))

-- the number j before those of all these
unfoldable pub before_all : ℕ → List (Refusal × Bool) → Bool
before_all j [] = true
before_all j (x ∷ xs) = before j (number_of x.0) && before_all j xs

-- a call's list keeps that order
unfoldable pub in_order : List (Refusal × Bool) → Bool
in_order [] = true
in_order (x ∷ xs) = before_all (number_of x.0) xs && in_order xs
