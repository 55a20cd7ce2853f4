-- `packed::spelled_size` meets its contract. Assumes nothing.
use native.Mathlib.Omega.{arith}
use lib.ListN.{length}
use borrow.Author.Tests.{eqb-true, eqb-false}
use Prim.Native.Nat.{ℕ, ◌+◌, ◌<◌}
use mathlib.Core.List.{List}
use mathlib.Core.Path.{sym, ap, ◌∙◌}
use Rattle.laws.proofs.Bytes.{rest_is}
use Rattle.text.specs.Text.{text_of}
use Rattle.packed.specs.Ways.{capped}
use Rattle.packed.specs.Packed.{packs, unpacked}
use Rattle.packed.proofs.SpellSize.{turn_broken, turn_packs, turn_capped, size_broken, size_end}
use Rattle.packed.proofs.spelled_size.Goals as goal

pub returns-in_default : goal.returns-in_default
returns-in_default c =
    let n = eqb-false _ _ (sym c.is_empty.ensures ∙ c.loop-rest-test.true) in
    let more : 0 < length c.loop-rest.rest.now = omega arith in
    size_broken _ (sym c.loop-rest.invariant.0 ∙ turn_broken _ more c.in_default.ensures.length)

pub loop-rest-preserved : goal.loop-rest-preserved
loop-rest-preserved c =
    let l = c.loop-rest in
    let s = c.in-Some.ensures.some in
    let is = c.in-Some.ensures.length in
    let more : 0 < length l.rest.now = omega arith in
    let behind = rest_is c.in-Some.piece l.rest.now in
    (ap packs behind ∙ sym (turn_packs _ more _ is s.0) ∙ l.invariant.0, ap (λ (u : List ℕ). capped (c.longer-size.result + length (text_of (unpacked u)))) behind ∙ turn_capped _ more _ is s.0 _ _ _ c.longer-size.ensures.0 l.invariant.1, c.longer-size.ensures.1)

pub returns : goal.returns
returns c =
    let l = c.loop-rest in
    size_end _ _ _ (eqb-true _ _ (sym c.is_empty.ensures ∙ c.loop-rest-test.false)) l.invariant.2 l.invariant.0 l.invariant.1
