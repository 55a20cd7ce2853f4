-- Laws of the first line of a text that begins with an event's line. Assumes nothing.
use mathlib.Core.Path.{◌≡◌, refl, ap, ◌∙◌}
use mathlib.Core.Bool.{true}
use mathlib.Core.List.{List, [], ◌∷◌, ◌++◌}
use Prim.Native.Nat.{ℕ}
use Rattle.laws.specs.Lines.{first_line}
use Rattle.laws.proofs.Lines.{first_past}
use Rattle.hexfield.specs.Hex.{all_digits}
use Rattle.hexfield.proofs.Fields.{digits_no_end}
use Rattle.line.proofs.Spelling.{spelled}

-- digits do not end a line
first_digits : (ds s : List ℕ) → all_digits ds ≡ true → first_line (ds ++ s) ≡ ds ++ first_line s
first_digits ds s h = first_past ds s (digits_no_end ds h)

pub first-spelled : (a b r : List ℕ) → all_digits a ≡ true → all_digits b ≡ true → first_line (spelled a b r) ≡ spelled a b []
unfolding first_line
first-spelled a b r ha hb =
    ap (λ (l : List ℕ). 81 ∷ 9 ∷ l)
    (first_digits a (9 ∷ (b ++ (10 ∷ r))) ha ∙ ap (λ (l : List ℕ). a ++ (9 ∷ l)) (first_digits b (10 ∷ r) hb))

pub first-attach : (r : List ℕ) → first_line (65 ∷ 10 ∷ r) ≡ 65 ∷ 10 ∷ []
unfolding first_line
first-attach r = refl
