-- The line that says a verdict. Document 01, "Bench cases", program `check`. Assumes nothing.
use Rattle.std.specs.Prelude.{List, [], ◌∷◌, ◌++◌, ℕ}
use Rattle.laws.specs.Ascii.{ascii}
use Rattle.refusal.specs.Refusal as refusal
use Rattle.verdict.specs.declared.Verdict.{Verdict}
use Rattle.verdict.specs.declared.Verdict.TheVariants as verdict
use Rattle.decimal.specs.Decimal.{decimal_of}

-- "three .. fields: word, kind, number"
pub record Fields : Type 0 where
  pub word : List ℕ
  pub kind : ℕ
  pub number : ℕ

-- the three, one behind the other
abbrev pub fields : List ℕ → ℕ → ℕ → Fields
fields word kind number = record { word = word; kind = kind; number = number }

-- "Pass: `ACCEPT 0 0`; Event: `REJECT 1 k`; End: `REJECT 2 c`; Flash: `REJECT 3 f`; refusal: `REFUSE number line`, line 0 where the refusal names none"
abbrev pub in_fields : Verdict → Fields
in_fields verdict.Pass = fields (ascii "ACCEPT") 0 0
in_fields (verdict.Event k) = fields (ascii "REJECT") 1 k
in_fields (verdict.End c) = fields (ascii "REJECT") 2 c
in_fields (verdict.Flash f) = fields (ascii "REJECT") 3 f
in_fields (verdict.Refused r) = fields (ascii "REFUSE") (refusal.number_of r) (refusal.line_named r)

-- "tab-parted"
abbrev pub tab : List ℕ
tab = 9 ∷ []

-- what ends "one line"
abbrev pub line_feed : List ℕ
line_feed = 10 ∷ []

-- "one line of three tab-parted fields"
unfoldable pub report_line : Verdict → List ℕ
report_line v = (in_fields v).word ++ tab ++ decimal_of (in_fields v).kind ++ tab ++ decimal_of (in_fields v).number ++ line_feed
