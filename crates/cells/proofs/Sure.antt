-- What it says of each byte that every byte of a span is known or kept. Assumes nothing.
use mathlib.Core.Path.{◌≡◌, refl, ap, ◌∙◌, sym}
use mathlib.Core.Bool.{true, false, ◌||◌, true≢false, false≢true}
use Prim.Native.Nat.{ℕ, zero, suc, ◌+◌, ◌≤◌, ◌<◌}
use native.Mathlib.Omega.{arith}
use Rattle.laws.proofs.Split.{by_bool, by_eq, and_true}
use Rattle.board.specs.declared.Board.{Board}
use Rattle.flash.specs.Flash.{kept}
use Rattle.marks.specs.Work.{Work, known}
use Rattle.cells.specs.Cells.{sure_from}

module _ (board : Board) (word : ℕ) (w : Work) where
  pub sure_all : (count at : ℕ) → sure_from board word count at w ≡ true → (i : ℕ) → at ≤ i → i < at + count → kept board word i ≡ false → known w i ≡ true
  unfolding sure_from
  sure_all zero at e i a b k = absurd (omega arith)
  sure_all (suc count) at e i a b k =
      let parts = and_true (known w at || kept board word at) (sure_from board word count (suc at) w) e in
      by_eq i at
      (λ z.
      by_bool (known w at) (λ y. ap (known w) z ∙ y)
      (λ y. absurd (false≢true (sym (rw (y, sym (ap (kept board word) z) ∙ k)) ∙ parts.0))))
      (λ z. sure_all count (suc at) parts.1 i (omega arith) (omega arith) k)

  pub sure_if : (count at : ℕ) → ((i : ℕ) → at ≤ i → i < at + count → kept board word i ≡ false → known w i ≡ true) → sure_from board word count at w ≡ true
  unfolding sure_from
  sure_if zero at f = refl
  sure_if (suc count) at f =
      let rest : sure_from board word count (suc at) w ≡ true = sure_if count (suc at) (λ i a b k. f i (omega arith) (omega arith) k) in
      by_bool (kept board word at)
      (λ k. by_bool (known w at) (λ y. rw (y, rest)) (λ y. rw (y, k, rest)))
      (λ k. let y : known w at ≡ true = f at (omega arith) (omega arith) k in rw (y, rest))

  -- a byte of a span that will be written and is not known
  abbrev pub Unsure : ℕ → ℕ → Type 0
  Unsure at count = (i : ℕ) × (at ≤ i) × (i < at + count) × (kept board word i ≡ false) × (known w i ≡ false)

  -- where not every byte is known or kept, there is one
  pub sure_not : (count at : ℕ) → sure_from board word count at w ≡ false → Unsure at count
  unfolding sure_from
  sure_not zero at e = absurd (true≢false e)
  sure_not (suc count) at e =
      let later : sure_from board word count (suc at) w ≡ false → Unsure at (suc count) =
      λ f. let r = sure_not count (suc at) f in (r.0, omega (arith, r.1), omega (arith, r.2), r.3, r.4) in
      by_bool (known w at) (λ y. later (rw y at e))
      (λ y. by_bool (kept board word at) (λ k. later (rw (y, k) at e)) (λ k. (at, omega arith, omega arith, k, y)))
