-- An answer's numbers tell which answer it is, and what is delivered in each case. Assumes nothing.
use mathlib.Core.Path.{◌≡◌, refl, ap, ap₂, ◌∙◌, sym}
use mathlib.Core.Bool.{Bool}
use mathlib.Core.List.{List, [], ◌∷◌}
use Prim.Native.Nat.{ℕ, ◌≤◌, ◌<◌}
use native.Mathlib.Omega.{arith}
use lib.Dec.{ltb}
use lib.ListN.{length, get_or}
use borrow.Author.Tests.{lt-ltb, le-ltb}
use Rattle.std.specs.Prelude.{⊤, Result, Ok, Err}
use Rattle.laws.specs.Bytes.{put}
use Rattle.laws.proofs.Split.{by_lt}
use Rattle.refusal.specs.declared.Refusal.{Refusal}
use Rattle.refusal.specs.declared.Refusal.TheVariants.{Output}
use Rattle.refusal.specs.Refusal.{number_of}
use Rattle.refusal.specs.Order.{first_of}
use Rattle.refusal.specs.Delivery.{in_numbers, Delivery, delivery, counted, answered, with_output, delivered}
use Rattle.refusal.proofs.Numbers.{refusal_injective, number-some}
use Rattle.refusal.proofs.First.{by_answer, refused_not, first-here, first_on, first-none, first-append, append_parts, First, first_exactly}

-- the two numbers of an answer
unfoldable first : List ℕ → ℕ
first l = get_or l 0 0

unfoldable second : List ℕ → ℕ
second l = get_or l 1 0

pub numbers_injective : (r s : Result ℕ Refusal) → in_numbers r ≡ in_numbers s → r ≡ s
unfolding first second
numbers_injective (Ok m) (Ok n) e = ap Ok (ap second e)
numbers_injective (Ok m) (Err s) e = let z : 0 ≡ number_of s = ap first e in let h = number-some s in absurd (omega arith)
numbers_injective (Err r) (Ok n) e = let z : number_of r ≡ 0 = ap first e in let h = number-some r in absurd (omega arith)
numbers_injective (Err r) (Err s) e = ap Err (refusal_injective r s (ap first e) (ap second e))

-- two outcomes that are the same agree in answer and buffer
pub delivery_injective : (r s : Result ℕ Refusal) (x y : List ℕ) → delivery r x ≡ delivery s y → (r ≡ s) × (x ≡ y)
delivery_injective r s x y e = (numbers_injective r s (ap (λ (o : Delivery). o.answer) e), ap (λ (o : Delivery). o.buffer) e)

-- what an answer that only counts tells
pub counted-bytes : (a : Result ⊤ Refusal) (n m : ℕ) → counted a n ≡ Ok m → (a ≡ Ok tt) × (m ≡ n)
counted-bytes (Ok _) n m e = (refl, cc)
counted-bytes (Err r) n m e = let z : ◌≡◌ {A = ℕ} 0 1 = cc in absurd (omega arith)

pub counted_refused : (a : Result ⊤ Refusal) (n : ℕ) (r : Refusal) → counted a n ≡ Err r → a ≡ Err r
counted_refused (Ok _) n r e = let z : ◌≡◌ {A = ℕ} 0 1 = cc in absurd (omega arith)
counted_refused (Err s) n r e = cc

answered-bytes : (a : Result ⊤ Refusal) (xs out : List ℕ) (n : ℕ) → (answered a xs out).answer ≡ 0 ∷ n ∷ [] → (a ≡ Ok tt) × (n ≡ length xs) × ((answered a xs out).buffer ≡ put 0 xs out)
unfolding first second
answered-bytes (Ok _) xs out n e = (refl, sym (ap second e), refl)
answered-bytes (Err r) xs out n e = let z : number_of r ≡ 0 = ap first e in let h = number-some r in absurd (omega arith)

answered_refused : (a : Result ⊤ Refusal) (xs out y : List ℕ) (r : Refusal) → answered a xs out ≡ delivery (Err r) y → a ≡ Err r
answered_refused (Ok _) xs out y r e = let z = (delivery_injective (Ok (length xs)) (Err r) (put 0 xs out) y e).0 in counted_refused (Ok tt) (length xs) r z
answered_refused (Err s) xs out y r e = counted_refused (Err s) 0 r (delivery_injective (Err s) (Err r) _ y e).0

-- what is delivered, by what the refusals in front of row 11 come to
module _ (rs : List (Refusal × Bool)) (xs out : List ℕ) where
  abbrev short : List (Refusal × Bool)
  short = (Output, ltb (length out) (length xs)) ∷ []

  pub delivers_refusal : (r : Refusal) → first_of rs ≡ Err r → delivery (Err r) out ≡ delivered rs xs out
  unfolding delivered
  delivers_refusal r e = rw (first-append rs short (Err r) e)

  module _ (free : first_of rs ≡ Ok tt) where
    pub delivers_eleven : length out < length xs → delivery (Err Output) out ≡ delivered rs xs out
    unfolding delivered
    delivers_eleven h = rw (first-append rs short (Ok tt) free ∙ first-here _ _ _ (lt-ltb (length out) (length xs) h))

    pub delivers_output : length xs ≤ length out → delivered rs xs out ≡ delivery (Ok (length xs)) (put 0 xs out)
    unfolding delivered
    delivers_output h = rw (first-append rs short (Ok tt) free ∙ first_on _ _ _ (le-ltb (length out) (length xs) h) ∙ first-none)

    -- by another name of the length and of the buffer
    pub delivers_bytes : (n : ℕ) (y : List ℕ) → n ≡ length xs → length xs ≤ length out → y ≡ put 0 xs out → delivery (Ok n) y ≡ delivered rs xs out
    delivers_bytes n y e h p = ap₂ (λ (k : ℕ) (l : List ℕ). delivery (Ok k) l) e p ∙ sym (delivers_output h)

  -- an answer of n bytes: none of the refusals applied, and the bytes are in front of the buffer
  pub delivered-bytes : (n : ℕ) → (delivered rs xs out).answer ≡ 0 ∷ n ∷ [] → (first_of rs ≡ Ok tt) × (n ≡ length xs) × ((delivered rs xs out).buffer ≡ put 0 xs out)
  unfolding delivered
  delivered-bytes n e =
      let b = answered-bytes (first_of (with_output rs xs out)) xs out n e in
      ((append_parts rs short b.0).0, b.1, b.2)

  -- a refusal is the first of them and of row 11 that applies
  given : (r : Refusal) (y : List ℕ) → delivered rs xs out ≡ delivery (Err r) y → first_of (with_output rs xs out) ≡ Err r
  unfolding delivered
  given r y e = answered_refused (first_of (with_output rs xs out)) xs out y r e

  pub delivered-first : (r : Refusal) (y : List ℕ) → delivered rs xs out ≡ delivery (Err r) y → First (with_output rs xs out) r
  delivered-first r y e = (first_exactly (with_output rs xs out) (Err r)).0 (given r y e)

  eleven_alone : (r : Refusal) → first_of short ≡ Err r → Output ≡ r
  eleven_alone r e =
      by_lt (length out) (length xs)
      (λ h. let is : ◌≡◌ {A = Result ⊤ Refusal} (Err Output) (Err r) = sym (first-here Output _ [] (lt-ltb (length out) (length xs) h)) ∙ e in cc)
      (λ h. refused_not r (sym e ∙ first_on Output _ [] (le-ltb (length out) (length xs) h) ∙ first-none))

  -- one that is not 11 is the first of them alone
  pub delivered_own : (r : Refusal) (y : List ℕ) → (Output ≡ r → ⊥) → delivered rs xs out ≡ delivery (Err r) y → first_of rs ≡ Err r
  delivered_own r y other e =
      by_answer (first_of rs)
      (λ is. absurd (other (eleven_alone r (sym (first-append rs short (Ok tt) is) ∙ given r y e))))
      (λ s is. is ∙ sym (first-append rs short (Err s) is) ∙ given r y e)
