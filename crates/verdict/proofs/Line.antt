-- Writing the line: its fields one behind the other. Assumes nothing.
use mathlib.Core.Path.{◌≡◌, refl, ap, ap₂, ◌∙◌, sym}
use mathlib.Core.List.{List, [], ◌++◌, append_assoc}
use Prim.Native.Nat.{ℕ, ◌+◌, ◌≤◌, ◌<◌}
use native.Mathlib.Omega.{arith}
use lib.ListN.{length, length-append}
use Rattle.std.specs.Prelude.{Ok, Err}
use Rattle.laws.specs.Bytes.{put}
use Rattle.laws.proofs.Append.{put_behind}
use Rattle.refusal.specs.declared.Refusal.TheVariants.{Output}
use Rattle.refusal.specs.Delivery.{delivery, delivered}
use Rattle.refusal.proofs.First.{first-none}
use Rattle.refusal.proofs.Delivery.{delivers_eleven, delivers_bytes}
use Rattle.verdict.specs.declared.Verdict.{Verdict}
use Rattle.verdict.specs.declared.Verdict.TheVariants as verdict
use Rattle.decimal.specs.Decimal.{decimal_of}
use Rattle.verdict.specs.Report.{in_fields, tab, line_feed, report_line}

word-length : (v : Verdict) → length ((in_fields v).word ++ tab) ≡ 7
word-length verdict.Pass = refl
word-length (verdict.Event k) = refl
word-length (verdict.End c) = refl
word-length (verdict.Flash f) = refl
word-length (verdict.Refused r) = refl

-- the line from its three parts: w is the word with its tab, k and n are kind and number
module _ (v : Verdict) (k n : ℕ) (ek : k ≡ (in_fields v).kind) (en : n ≡ (in_fields v).number) where
  parts : (in_fields v).word ++ tab ++ (decimal_of k ++ tab) ++ (decimal_of n ++ line_feed) ≡ report_line v
  unfolding report_line
  parts =
      ap₂ (λ (x : ℕ) (y : ℕ). (in_fields v).word ++ tab ++ (decimal_of x ++ tab) ++ (decimal_of y ++ line_feed)) ek en
      ∙ sym (append_assoc ((in_fields v).word ++ tab ++ (decimal_of (in_fields v).kind ++ tab)) (decimal_of (in_fields v).number) line_feed)
      ∙ ap (λ (l : List ℕ). l ++ decimal_of (in_fields v).number ++ line_feed) (sym (append_assoc ((in_fields v).word ++ tab) (decimal_of (in_fields v).kind) tab))

  pub line-length : length (report_line v) ≡ 9 + length (decimal_of k) + length (decimal_of n)
  line-length =
      let a = length-append ((in_fields v).word ++ tab ++ (decimal_of k ++ tab)) (decimal_of n ++ line_feed) in
      let b = length-append ((in_fields v).word ++ tab) (decimal_of k ++ tab) in
      let c = length-append (decimal_of k) tab in
      let d = length-append (decimal_of n) line_feed in
      let e = word-length v in
      let f = ap length parts in
      omega arith

  pub report_short : (out : List ℕ) → length out < 9 + length (decimal_of k) + length (decimal_of n) → delivery (Err Output) out ≡ delivered [] (report_line v) out
  report_short out h = let e = line-length in delivers_eleven [] (report_line v) out first-none (omega arith)

  module _ (w out o₁ o₂ o₃ : List ℕ) (at : ℕ) (ew : w ≡ (in_fields v).word ++ tab) (room : length (report_line v) ≤ length out) (one : o₁ ≡ put 0 w out) (two : o₂ ≡ put 7 (decimal_of k ++ tab) o₁) (is : at ≡ 7 + length (decimal_of k) + 1) (three : o₃ ≡ put at (decimal_of n ++ line_feed) o₂) where
    pub line_written : o₃ ≡ put 0 (report_line v) out
    line_written =
        let c = length-append (decimal_of k) tab in
        let d = length-append (decimal_of n) line_feed in
        let e = word-length v in
        let f = length-append ((in_fields v).word ++ tab) (decimal_of k ++ tab) in
        let t = line-length in
        let i : 7 ≡ 0 + length ((in_fields v).word ++ tab) = omega arith in
        let j : at ≡ 0 + length ((in_fields v).word ++ tab ++ (decimal_of k ++ tab)) = omega arith in
        let a : 7 + length (decimal_of k ++ tab) ≤ length out = omega arith in
        let b : at + length (decimal_of n ++ line_feed) ≤ length out = omega arith in
        let first : o₂ ≡ put 0 ((in_fields v).word ++ tab ++ (decimal_of k ++ tab)) out = two ∙ ap (put 7 (decimal_of k ++ tab)) (one ∙ ap (λ (l : List ℕ). put 0 l out) ew) ∙ put_behind 0 7 ((in_fields v).word ++ tab) (decimal_of k ++ tab) out i a in
        three
        ∙ ap (put at (decimal_of n ++ line_feed)) first
        ∙ put_behind 0 at ((in_fields v).word ++ tab ++ (decimal_of k ++ tab)) (decimal_of n ++ line_feed) out j b
        ∙ ap (λ (l : List ℕ). put 0 l out) parts

pub word_fits : (v : Verdict) (w : List ℕ) (room : ℕ) → w ≡ (in_fields v).word ++ tab → length (report_line v) ≤ room → 0 + length w ≤ room
word_fits v w room ew h =
    let s : length w ≡ 7 = ap length ew ∙ word-length v in
    let e = line-length v (in_fields v).kind (in_fields v).number refl refl in
    omega arith

pub report-done : (xs out o₁ : List ℕ) (n : ℕ) → length xs ≤ length out → o₁ ≡ put 0 xs out → n ≡ length xs → delivery (Ok n) o₁ ≡ delivered [] xs out
report-done xs out o₁ n room is e = delivers_bytes [] xs out first-none n o₁ e room is
