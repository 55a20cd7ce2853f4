-- What the writer answers and leaves in the buffer. Document 01, "Job text" and "Refusal numbers". Assumes nothing.
use Rattle.std.specs.Prelude.{Bool, not, List, [], ◌∷◌, ◌++◌, ℕ, ltb, length}
use Rattle.refusal.specs.declared.Refusal.{Refusal}
use Rattle.refusal.specs.declared.Refusal.TheVariants.{Text, Request}
use Rattle.refusal.specs.Delivery.{Delivery, delivered}
use Rattle.text.specs.Text.{limit, text_of}
use Rattle.packed.specs.Packed.{packs, unpacked}

-- "The text writer gives 5 for a packed list with another kind byte or one that ends inside an event"
abbrev pub packed_refusals : List ℕ → List (Refusal × Bool)
packed_refusals p = (Request, not (packs p)) ∷ []

-- "before 9 and 11": row 9 behind it
abbrev pub write_refusals : List ℕ → List (Refusal × Bool)
write_refusals p = packed_refusals p ++ ((Text, ltb limit (length (text_of (unpacked p)))) ∷ [])

-- the text writer: 5, 9, 11
unfoldable pub write_of : List ℕ → List ℕ → Delivery
write_of p out = delivered (write_refusals p) (text_of (unpacked p)) out
