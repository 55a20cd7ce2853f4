-- The fields of a verdict tell it, and so does its report line. Assumes nothing.
use mathlib.Core.Path.{◌≡◌, refl, ap, ap₂, ◌∙◌, sym}
use mathlib.Core.Bool.{cond}
use mathlib.Core.List.{List, [], ◌∷◌, ◌++◌, append_assoc}
use Prim.Native.Nat.{ℕ, ◌<◌}
use native.Mathlib.Omega.{arith}
use lib.Dec.{eqb}
use lib.ListN.{drop, get_or}
use Rattle.refusal.specs.declared.Refusal.TheVariants.{Line}
use Rattle.refusal.specs.Refusal.{number_of, line_named}
use Rattle.refusal.proofs.Numbers.{refusal_at, refusal_back}
use Rattle.verdict.specs.declared.Verdict.{Verdict}
use Rattle.verdict.specs.declared.Verdict.TheVariants as verdict
use Rattle.decimal.specs.Decimal.{digits_of, decimal_of}
use Rattle.verdict.specs.Report.{Fields, in_fields, tab, line_feed, report_line}
use Rattle.decimal.proofs.Decimal.{read_on, digits_in, behind, decimal_behind, field_read}

-- the verdict of a word's third letter, a kind and a number
unfoldable pub verdict_for : ℕ → ℕ → ℕ → Verdict
verdict_for letter kind number =
    cond (eqb letter 67) verdict.Pass
    (cond (eqb letter 70) (verdict.Refused (refusal_at kind number))
    (cond (eqb kind 1) (verdict.Event number)
    (cond (eqb kind 2) (verdict.End number) (verdict.Flash number))))

fields_back : (v : Verdict) → verdict_for (get_or (in_fields v).word 2 0) (in_fields v).kind (in_fields v).number ≡ v
unfolding verdict_for
fields_back verdict.Pass = refl
fields_back (verdict.Event k) = refl
fields_back (verdict.End c) = refl
fields_back (verdict.Flash f) = refl
fields_back (verdict.Refused r) = ap verdict.Refused (refusal_back r)

-- Two verdicts with the same fields are the same verdict.
pub fields_injective : (v u : Verdict) → in_fields v ≡ in_fields u → v ≡ u
fields_injective v u e = sym (fields_back v) ∙ ap (λ (f : Fields). verdict_for (get_or f.word 2 0) f.kind f.number) e ∙ fields_back u

-- the verdict that a line says
unfoldable pub verdict_in : List ℕ → Verdict
verdict_in l = verdict_for (get_or l 2 0) (read_on 0 (digits_in (drop 7 l))) (read_on 0 (digits_in (behind (drop 7 l))))

tab_behind : (t : List ℕ) → behind (9 ∷ t) ≡ t
unfolding behind
tab_behind t = refl

-- kind and number, from what stands behind the word
module _ (k n : ℕ) where
  digits : List ℕ
  digits = decimal_of k ++ tab ++ decimal_of n ++ line_feed

  apart : digits ≡ decimal_of k ++ (9 ∷ (decimal_of n ++ line_feed))
  unfolding digits
  apart = append_assoc (decimal_of k ++ tab) (decimal_of n) line_feed ∙ append_assoc (decimal_of k) tab (decimal_of n ++ line_feed)

  kind_in : read_on 0 (digits_in digits) ≡ k
  kind_in = ap (λ (l : List ℕ). read_on 0 (digits_in l)) apart ∙ field_read k 9 (decimal_of n ++ line_feed) (let h : 9 < 48 = omega arith in h)

  number_in : read_on 0 (digits_in (behind digits)) ≡ n
  number_in =
      ap (λ (l : List ℕ). read_on 0 (digits_in l))
      (ap behind apart ∙ decimal_behind k (9 ∷ (decimal_of n ++ line_feed)) ∙ tab_behind (decimal_of n ++ line_feed))
      ∙ field_read n 10 [] (let h : 10 < 48 = omega arith in h)

  line-fields : (letter : ℕ) → verdict_for letter (read_on 0 (digits_in digits)) (read_on 0 (digits_in (behind digits))) ≡ verdict_for letter k n
  line-fields letter = ap₂ (verdict_for letter) kind_in number_in

-- Reading a verdict's line gives the verdict back.
pub report_read : (v : Verdict) → verdict_in (report_line v) ≡ v
unfolding verdict_in report_line digits
report_read verdict.Pass = line-fields 0 0 67 ∙ fields_back verdict.Pass
report_read (verdict.Event k) = line-fields 1 k 74 ∙ fields_back (verdict.Event k)
report_read (verdict.End c) = line-fields 2 c 74 ∙ fields_back (verdict.End c)
report_read (verdict.Flash f) = line-fields 3 f 74 ∙ fields_back (verdict.Flash f)
report_read (verdict.Refused r) = line-fields (number_of r) (line_named r) 70 ∙ fields_back (verdict.Refused r)

-- Two verdicts with the same line are the same verdict.
pub report_injective : (v w : Verdict) → report_line v ≡ report_line w → v ≡ w
report_injective v w e = sym (report_read v) ∙ ap verdict_in e ∙ report_read w

-- Two lines, spelled out: `ACCEPT 0 0` and `REFUSE 10 12`, with their tabs.
pub pass_line : report_line verdict.Pass ≡ 65 ∷ 67 ∷ 67 ∷ 69 ∷ 80 ∷ 84 ∷ 9 ∷ 48 ∷ 9 ∷ 48 ∷ 10 ∷ []
unfolding report_line decimal_of digits_of
pass_line = refl

pub refusal_line : report_line (verdict.Refused (Line 12)) ≡ 82 ∷ 69 ∷ 70 ∷ 85 ∷ 83 ∷ 69 ∷ 9 ∷ 49 ∷ 48 ∷ 9 ∷ 49 ∷ 50 ∷ 10 ∷ []
unfolding report_line decimal_of digits_of
refusal_line = refl
