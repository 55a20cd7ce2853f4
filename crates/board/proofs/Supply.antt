-- Laws of `supplied`: what each test comes to, and what an admitted call was supplied with. Assumes nothing.
use mathlib.Core.Path.{◌≡◌, ◌∙◌}
use mathlib.Core.Bool.{true, false}
use Prim.Native.Nat.{ℕ, ◌≤◌}
use native.Mathlib.Omega.{arith}
use lib.Dec.{eqb, ltb}
use borrow.Author.Tests.{eq-eqb, ne_eqb, le-ltb, eqb-true, eqb-false, ltb-false, not-false}
use Rattle.std.specs.Prelude.{Ok, Err}
use Rattle.laws.proofs.Split.{or_false}
use Rattle.refusal.specs.declared.Refusal.TheVariants.{Image, Card}
use Rattle.refusal.proofs.First.{first-here, first_on, first-none, first_exactly}
use Rattle.board.specs.declared.Board.{Board}
use Rattle.board.specs.Layout.{flash_bytes, option_bytes}
use Rattle.board.specs.Supply.{unfit, supply_refusals, supplied}

module _ (board : Board) (image card : ℕ) where
  pub image_unfit : unfit board image ≡ true → supplied board image card ≡ Err Image
  unfolding supplied
  image_unfit e = first-here _ _ _ e

  module _ (fit : unfit board image ≡ false) where
    pub card_odd : (card ≡ option_bytes → ⊥) → supplied board image card ≡ Err Card
    unfolding supplied
    card_odd odd = first_on _ _ _ fit ∙ first-here _ _ _ (rw (ne_eqb card option_bytes odd))

    pub supply_good : card ≡ option_bytes → supplied board image card ≡ Ok tt
    unfolding supplied
    supply_good good = first_on _ _ _ fit ∙ first_on _ _ _ (rw (eq-eqb card option_bytes good)) ∙ first-none

-- the length of an image that is fit
pub fit_some : (board : Board) (image : ℕ) → unfit board image ≡ false → (1 ≤ image) × (image ≤ flash_bytes board)
fit_some board image e =
    let length = or_false (eqb image 0) (ltb (flash_bytes board) image) e in
    let z : image ≡ 0 → ⊥ = eqb-false _ _ length.0 in
    (one image z, ltb-false _ _ length.1)
  where
    one : (k : ℕ) → (k ≡ 0 → ⊥) → 1 ≤ k
    one k z = omega arith

pub some_fit : (board : Board) (image : ℕ) → 1 ≤ image → image ≤ flash_bytes board → unfit board image ≡ false
some_fit board image some most =
    let z : image ≡ 0 → ⊥ = λ e. omega arith in
    rw (ne_eqb image 0 z, le-ltb (flash_bytes board) image most)

-- an image of the right length, and a card of the right length
pub record Supplied (board : Board) (image card : ℕ) : Type 0 where
  pub some : 1 ≤ image
  pub most : image ≤ flash_bytes board
  pub options : card ≡ option_bytes

pub supplied_parts : (board : Board) (image card : ℕ) → supplied board image card ≡ Ok tt → Supplied board image card
unfolding supplied
supplied_parts board image card e =
    let none = (first_exactly (supply_refusals board image card) (Ok tt)).0 e in
    let fit = fit_some board image none.0 in
    record { some = fit.0; most = fit.1; options = eqb-true _ _ (not-false _ none.1.0) }
