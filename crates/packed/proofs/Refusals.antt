-- What the refusals of the text writer come to, row by row. Assumes nothing.
use mathlib.Core.Path.{◌≡◌, ◌∙◌}
use mathlib.Core.Bool.{true, false}
use mathlib.Core.List.{List}
use Prim.Native.Nat.{ℕ, ◌≤◌, ◌<◌}
use lib.ListN.{length}
use borrow.Author.Tests.{lt-ltb, le-ltb, ltb-false, not-false}
use Rattle.std.specs.Prelude.{Ok, Err}
use Rattle.refusal.specs.declared.Refusal.{Refusal}
use Rattle.refusal.specs.declared.Refusal.TheVariants.{Text, Request}
use Rattle.refusal.specs.Order.{first_of}
use Rattle.refusal.proofs.First.{first-here, first_on, first-none, first-append, first_exactly}
use Rattle.text.specs.Text.{limit, text_of}
use Rattle.packed.specs.Packed.{packs, unpacked}
use Rattle.packed.specs.Calls.{packed_refusals, write_refusals}

-- a packed list
module _ (p : List ℕ) where
  pub packed_broken : packs p ≡ false → first_of (packed_refusals p) ≡ Err Request
  packed_broken h = first-here _ _ _ (rw h)

  pub packed_whole : packs p ≡ true → first_of (packed_refusals p) ≡ Ok tt
  packed_whole h = first_on _ _ _ (rw h) ∙ first-none

  pub packed_parts : first_of (packed_refusals p) ≡ Ok tt → packs p ≡ true
  packed_parts e = not-false _ ((first_exactly (packed_refusals p) (Ok tt)).0 e).0

  -- and its text
  pub write_refusal : (r : Refusal) → first_of (packed_refusals p) ≡ Err r → first_of (write_refusals p) ≡ Err r
  write_refusal r e = first-append (packed_refusals p) _ (Err r) e

  pub write_long : first_of (packed_refusals p) ≡ Ok tt → limit < length (text_of (unpacked p)) → first_of (write_refusals p) ≡ Err Text
  write_long e h = first-append (packed_refusals p) _ (Ok tt) e ∙ first-here _ _ _ (lt-ltb limit (length (text_of (unpacked p))) h)

  pub write-within : first_of (packed_refusals p) ≡ Ok tt → length (text_of (unpacked p)) ≤ limit → first_of (write_refusals p) ≡ Ok tt
  write-within e h = first-append (packed_refusals p) _ (Ok tt) e ∙ first_on _ _ _ (le-ltb limit (length (text_of (unpacked p))) h) ∙ first-none

  pub write_parts : first_of (write_refusals p) ≡ Ok tt → (packs p ≡ true) × (length (text_of (unpacked p)) ≤ limit)
  write_parts e = let none = (first_exactly (write_refusals p) (Ok tt)).0 e in (not-false _ none.0, ltb-false _ _ none.1.0)
