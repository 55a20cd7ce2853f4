-- What the reader answers and leaves in the buffer. Document 01, "Job text" and "Refusal numbers". Assumes nothing.
use Rattle.std.specs.Prelude.{Bool, not, List, [], ◌∷◌, ℕ, eqb, ltb, length, Result}
use Rattle.refusal.specs.declared.Refusal.{Refusal}
use Rattle.refusal.specs.declared.Refusal.TheVariants.{Text, Line}
use Rattle.refusal.specs.Order.{first_of}
use Rattle.refusal.specs.Delivery.{Delivery, counted, delivered}
use Rattle.text.specs.Text.{limit, first_bad, events_of}
use Rattle.packed.specs.Packed.{packed_of}

-- rows 9 and 10
abbrev pub text_refusals : List ℕ → List (Refusal × Bool)
text_refusals t =
    (Text, ltb limit (length t))
    ∷ (Line (first_bad t), not (eqb (first_bad t) 0))
    ∷ []

-- 9 or 10, or how many packed bytes the text's events take
unfoldable pub measure_of : List ℕ → Result ℕ Refusal
measure_of t = counted (first_of (text_refusals t)) (length (packed_of (events_of t)))

-- the reader: 9, 10, 11
unfoldable pub read_of : List ℕ → List ℕ → Delivery
read_of t out = delivered (text_refusals t) (packed_of (events_of t)) out
