-- What the promise of `report` comes to. Assumes nothing.
use mathlib.Core.Path.{◌≡◌, ◌∙◌, sym}
use mathlib.Core.List.{List, []}
use Prim.Native.Nat.{ℕ}
use Rattle.std.specs.Prelude.{Result}
use Rattle.refusal.specs.declared.Refusal.{Refusal}
use Rattle.refusal.specs.Delivery.{delivery, delivered}
use Rattle.refusal.proofs.Delivery.{delivery_injective}
use Rattle.verdict.specs.declared.Verdict.{Verdict}
use Rattle.verdict.specs.Report.{report_line}

-- Any two outcomes, answer and buffer, that the promise of `report` allows are equal.
pub one_report : (v : Verdict) (out x y : List ℕ) (r s : Result ℕ Refusal) → delivery r x ≡ delivered [] (report_line v) out → delivery s y ≡ delivered [] (report_line v) out → (r ≡ s) × (x ≡ y)
one_report v out x y r s a b = delivery_injective r s x y (a ∙ sym b)
