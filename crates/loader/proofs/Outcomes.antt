-- An outcome says all: the answer by its numbers is the answer itself. Assumes nothing.
use mathlib.Core.Path.{◌≡◌, refl, ap, ap₂, ◌∙◌, sym}
use mathlib.Core.Bool.{cond}
use mathlib.Core.List.{List}
use Prim.Native.Nat.{ℕ}
use lib.Dec.{eqb}
use lib.ListN.{get_or}
use Rattle.refusal.proofs.Numbers.{refusal_at, refusal_back}
use Rattle.device.specs.declared.Device.{Device}
use Rattle.loader.specs.declared.Answer.{Answer}
use Rattle.loader.specs.declared.Answer.TheVariants.{Accepted, Reply, Stall, Silent, Refused}
use Rattle.loader.specs.declared.Stepped.{Stepped}
use Rattle.loader.specs.Answer.{told, Outcome, left}

-- the answer of a list of numbers
answer_of : List ℕ → Answer
answer_of l =
    cond (eqb (get_or l 0 0) 0) Accepted
    (cond (eqb (get_or l 0 0) 1) (Reply (get_or l 1 0))
    (cond (eqb (get_or l 0 0) 2) Stall (cond (eqb (get_or l 0 0) 3) Silent (Refused (refusal_at (get_or l 1 0) (get_or l 2 0))))))

answer_of_told : (a : Answer) → answer_of (told a) ≡ a
unfolding answer_of
answer_of_told Accepted = refl
answer_of_told (Reply count) = refl
answer_of_told Stall = refl
answer_of_told Silent = refl
answer_of_told (Refused r) = ap Refused (refusal_back r)

pub told_injective : (a a' : Answer) → told a ≡ told a' → a ≡ a'
told_injective a a' e = sym (answer_of_told a) ∙ ap answer_of e ∙ answer_of_told a'

-- two that were left alike are alike
module _ (r r' : Stepped) (m b y m' b' y' : List ℕ) (e : left r m b y ≡ left r' m' b' y') where
  pub left_stepped : r ≡ r'
  left_stepped =
      ap₂ (λ (d : Device) (a : Answer). record { device = d; answer = a }) (ap (λ (o : Outcome). o.device) e)
      (told_injective r.answer r'.answer (ap (λ (o : Outcome). o.answer) e))

  pub left-memory : m ≡ m'
  left-memory = ap (λ (o : Outcome). o.memory) e

  pub left-block : b ≡ b'
  left-block = ap (λ (o : Outcome). o.block) e

  pub left-reply : y ≡ y'
  left-reply = ap (λ (o : Outcome). o.reply) e
