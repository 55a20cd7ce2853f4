-- What the refusals of the reader come to, row by row. Assumes nothing.
use mathlib.Core.Path.{◌≡◌, ◌∙◌}
use mathlib.Core.List.{List}
use Prim.Native.Nat.{ℕ, ◌≤◌, ◌<◌}
use lib.ListN.{length}
use borrow.Author.Tests.{eq-eqb, ne_eqb, eqb-true, lt-ltb, le-ltb, ltb-false, not-false}
use Rattle.std.specs.Prelude.{Ok, Err}
use Rattle.refusal.specs.declared.Refusal.TheVariants.{Text, Line}
use Rattle.refusal.specs.Order.{first_of}
use Rattle.refusal.proofs.First.{first-here, first_on, first-none, first_exactly}
use Rattle.text.specs.Text.{limit, first_bad, capital_text}
use Rattle.text.proofs.CapitalText.{capital_bad, capital_text_length}
use Rattle.job.specs.Calls.{text_refusals}

module _ (t : List ℕ) where
  pub text_long : limit < length t → first_of (text_refusals t) ≡ Err Text
  text_long h = first-here _ _ _ (lt-ltb limit (length t) h)

  pub text_bad : length t ≤ limit → (first_bad t ≡ 0 → ⊥) → first_of (text_refusals t) ≡ Err (Line (first_bad t))
  text_bad h n = first_on _ _ _ (le-ltb limit (length t) h) ∙ first-here _ _ _ (rw (ne_eqb (first_bad t) 0 n))

  pub text_good : length t ≤ limit → first_bad t ≡ 0 → first_of (text_refusals t) ≡ Ok tt
  text_good h e = first_on _ _ _ (le-ltb limit (length t) h) ∙ first_on _ _ _ (rw (eq-eqb (first_bad t) 0 e)) ∙ first-none

  pub text_parts : first_of (text_refusals t) ≡ Ok tt → (length t ≤ limit) × (first_bad t ≡ 0)
  text_parts e = let none = (first_exactly (text_refusals t) (Ok tt)).0 e in (ltb-false _ _ none.0, eqb-true _ _ (not-false _ none.1.0))

-- a text and its capital spelling are refused alike
pub capital_refusals : (t : List ℕ) → text_refusals (capital_text t) ≡ text_refusals t
capital_refusals t = rw (capital_text_length t, capital_bad t)
