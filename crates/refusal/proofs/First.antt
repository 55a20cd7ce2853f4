-- The refusal that a call gives is the first of its list that applies. Assumes nothing.
use mathlib.Core.Path.{◌≡◌, refl, ap, ◌∙◌, sym}
use mathlib.Core.Bool.{Bool, true, false}
use mathlib.Core.List.{List, [], ◌∷◌, ◌++◌}
use Prim.Native.Nat.{ℕ}
use native.Mathlib.Omega.{arith}
use lib.Dec.{T}
use Rattle.std.specs.Prelude.{⊤, Result, Ok, Err}
use Rattle.refusal.specs.declared.Refusal.{Refusal}
use Rattle.refusal.specs.Order.{first_of}

-- a call is taken or refused, and not both
pub by_answer : {E C : Type 0} (a : Result ⊤ E) → (a ≡ Ok tt → C) → ((r : E) → a ≡ Err r → C) → C
by_answer (Ok _) t f = t refl
by_answer (Err r) t f = f r refl

pub refused_not : {E C : Type 0} (r : E) → ◌≡◌ {A = Result ⊤ E} (Err r) (Ok tt) → C
refused_not r e = let z : ◌≡◌ {A = ℕ} 0 1 = cc in absurd (omega arith)

-- the first of the list applies, or it does not
pub first-here : (r : Refusal) (b : Bool) (xs : List (Refusal × Bool)) → b ≡ true → first_of ((r, b) ∷ xs) ≡ Err r
unfolding first_of
first-here r b xs e = rw e

pub first_on : (r : Refusal) (b : Bool) (xs : List (Refusal × Bool)) → b ≡ false → first_of ((r, b) ∷ xs) ≡ first_of xs
unfolding first_of
first_on r b xs e = rw e

-- no refusal is left
pub first-none : first_of [] ≡ Ok tt
unfolding first_of
first-none = refl

-- one answer, or another where it is none
abbrev pub then : Result ⊤ Refusal → Result ⊤ Refusal → Result ⊤ Refusal
then (Ok _) next = next
then (Err r) next = Err r

-- some refusals in front of others: a is what they come to
pub first-append : (xs ys : List (Refusal × Bool)) (a : Result ⊤ Refusal) → first_of xs ≡ a → first_of (xs ++ ys) ≡ then a (first_of ys)
unfolding first_of
first-append [] ys a e = rw (sym e)
first-append ((r, false) ∷ xs) ys a e = first-append xs ys a e
first-append ((r, true) ∷ xs) ys a e = rw (sym e)

-- both come to none
pub append_parts : (xs ys : List (Refusal × Bool)) → first_of (xs ++ ys) ≡ Ok tt → (first_of xs ≡ Ok tt) × (first_of ys ≡ Ok tt)
append_parts xs ys e =
    by_answer (first_of xs)
    (λ is. (is, sym (first-append xs ys (Ok tt) is) ∙ e))
    (λ r is. refused_not r (sym (first-append xs ys (Err r) is) ∙ e))

-- none of these applies
abbrev pub NoneApply : List (Refusal × Bool) → Type 0
NoneApply [] = T true
NoneApply ((r, b) ∷ xs) = (b ≡ false) × NoneApply xs

-- r is among these and applies, and none in front of it does
pub record First (xs : List (Refusal × Bool)) (r : Refusal) : Type 0 where
  pub front : List (Refusal × Bool)
  pub rest : List (Refusal × Bool)
  pub parts : xs ≡ front ++ ((r, true) ∷ rest)
  pub none : NoneApply front

-- what an answer says of a call's refusals
abbrev pub Says : Result ⊤ Refusal → List (Refusal × Bool) → Type 0
Says (Ok _) xs = NoneApply xs
Says (Err r) xs = First xs r

says_on : (r : Refusal) (xs : List (Refusal × Bool)) (a : Result ⊤ Refusal) → Says a xs → Says a ((r, false) ∷ xs)
says_on r xs (Ok _) h = (refl, h)
says_on r xs (Err s) f = record { front = (r, false) ∷ f.front; rest = f.rest; parts = ap (λ (l : List (Refusal × Bool)). (r, false) ∷ l) f.parts; none = (refl, f.none) }

first_says : (xs : List (Refusal × Bool)) → Says (first_of xs) xs
unfolding first_of
first_says [] = tt
first_says ((r, false) ∷ xs) = says_on r xs (first_of xs) (first_says xs)
first_says ((r, true) ∷ xs) = record { front = []; rest = xs; parts = refl; none = tt }

none-front : (xs ys : List (Refusal × Bool)) → NoneApply xs → first_of (xs ++ ys) ≡ first_of ys
none-front [] ys h = refl
none-front ((r, b) ∷ xs) ys h = first_on r b (xs ++ ys) h.0 ∙ none-front xs ys h.1

none_admitted : (xs : List (Refusal × Bool)) → NoneApply xs → first_of xs ≡ Ok tt
none_admitted [] h = first-none
none_admitted ((r, b) ∷ xs) h = first_on r b xs h.0 ∙ none_admitted xs h.1

says_first : (xs : List (Refusal × Bool)) (a : Result ⊤ Refusal) → Says a xs → first_of xs ≡ a
says_first xs (Ok _) h = none_admitted xs h
says_first xs (Err r) f = ap first_of f.parts ∙ none-front f.front ((r, true) ∷ f.rest) f.none ∙ first-here r true f.rest refl

-- The law: what a call answers says this of its list, and whatever says this of the list is its answer.
pub first_exactly : (xs : List (Refusal × Bool)) (a : Result ⊤ Refusal) → (first_of xs ≡ a → Says a xs) × (Says a xs → first_of xs ≡ a)
first_exactly xs a = (λ e. rw e at (first_says xs), says_first xs a)
