-- `pieces::place` meets its contract. Assumes nothing.
use mathlib.Core.Path.{◌≡◌, refl, sym, ap, ◌∙◌}
use Prim.Native.Nat.{ℕ, ◌+◌, ◌-◌}
use lib.ListN.{length}
use Rattle.std.proofs.Common.{rules}
use borrow.Author.Tests.{not-true, not-false, eqb-true, eqb-false}
use Rattle.pieces.specs.Image.{larger}
use Rattle.pieces.proofs.Placing.{placing_nothing, placing_outside, placing_twice, placing_fresh}
use Rattle.pieces.proofs.place.Goals as goal

pub returns-then-is_empty : goal.returns-then-is_empty
returns-then-is_empty c = placing_nothing _ _ _ _ _ _ (eqb-true _ _ (sym c.is_empty.ensures ∙ c.if-is_empty.true))

pub returns-then-not-in_flash : goal.returns-then-not-in_flash
returns-then-not-in_flash c =
    placing_outside _ _ _ _ _ _ (eqb-false _ _ (sym c.is_empty.ensures ∙ c.if-is_empty.false)) (sym c.in_flash.ensures ∙ c.if-not-in_flash.true)

pub returns-then-not-mark : goal.returns-then-not-mark
returns-then-not-mark c =
    let m = c.mark.ensures in
    placing_twice _ _ _ _ _ _ (eqb-false _ _ (sym c.is_empty.ensures ∙ c.if-is_empty.false)) (sym c.in_flash.ensures ∙ c.if-not-in_flash.false) _ _ (ap (λ (first : ℕ). c.args.address - first) c.flash_first.ensures) refl _ m.1 (not-false _ (sym m.0 ∙ c.if-not-mark.true))

pub returns : goal.returns
returns c =
    let m = c.mark.ensures in
    let new = not-true _ (sym m.0 ∙ c.if-not-mark.false) in
    let end : c.max.result ≡ larger c.args.end (c.args.address - c.flash_first.result + length c.args.bytes.now) = search rules in
    rw end (placing_fresh _ _ _ _ _ _ (eqb-false _ _ (sym c.is_empty.ensures ∙ c.if-is_empty.false)) (sym c.in_flash.ensures ∙ c.if-not-in_flash.false) _ _ (ap (λ (first : ℕ). c.args.address - first) c.flash_first.ensures) refl _ m.1 _ new c.put.ensures)
