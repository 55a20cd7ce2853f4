-- `ihex::write_for` meets its contract. Assumes nothing.
use native.Mathlib.Omega.{arith}
use Rattle.board.proofs.Supply.{fit_some}
use Rattle.refusal.proofs.Delivery.{delivers_refusal, delivers_eleven, delivers_bytes}
use Rattle.refusal.proofs.First.{first-here, first_on, first-none}
use Rattle.ihex.specs.Writing.{hex_text, hex_written}
use Rattle.ihex.proofs.Writing.{text-length}
use lib.ListN.{length}
use mathlib.Core.Path.{◌≡◌, sym, ◌∙◌}
use Rattle.ihex.proofs.write_for.Goals as goal

pub returns-then-unfit : goal.returns-then-unfit
unfolding hex_written
returns-then-unfit c = delivers_refusal _ _ _ _ (first-here _ _ _ (sym c.unfit.ensures ∙ c.if-unfit.true))

pub text_size-size-requires : goal.text_size-size-requires
text_size-size-requires c =
    let f = fit_some c.args.board (length c.args.image.now) (sym c.unfit.ensures ∙ c.if-unfit.false) in
    omega (arith, c.requires.most)

pub returns-then-out-size : goal.returns-then-out-size
unfolding hex_written
returns-then-out-size c =
    let size_is : c.text_size-size.result ≡ length (hex_text c.args.board c.args.image.now) = c.text_size-size.ensures ∙ sym (text-length _ _) in
    let e = size_is in
    let h = c.if-out-size.true in
    delivers_eleven _ _ _ (first_on _ _ _ (sym c.unfit.ensures ∙ c.if-unfit.false) ∙ first-none) (omega arith)

pub spell-requires : goal.spell-requires
spell-requires c =
    let size_is : c.text_size-size.result ≡ length (hex_text c.args.board c.args.image.now) = c.text_size-size.ensures ∙ sym (text-length _ _) in
    let f = fit_some c.args.board (length c.args.image.now) (sym c.unfit.ensures ∙ c.if-unfit.false) in
    let e = size_is in
    let t = c.if-out-size.false in
    (c.requires, omega (arith, c.requires.most), omega arith)

pub returns : goal.returns
unfolding hex_written
returns c =
    let size_is : c.text_size-size.result ≡ length (hex_text c.args.board c.args.image.now) = c.text_size-size.ensures ∙ sym (text-length _ _) in
    let e = size_is in
    let h = c.if-out-size.false in
    delivers_bytes _ _ _ (first_on _ _ _ (sym c.unfit.ensures ∙ c.if-unfit.false) ∙ first-none) _ _ e (omega arith) c.spell.ensures
