-- Laws of counts: how many pages some bytes take at most, and what is left behind whole pages. Assumes nothing.
use mathlib.Core.Path.{◌≡◌, ap, ◌∙◌}
use Prim.Native.Nat.{ℕ, zero, suc, ◌≤◌, ◌<◌}
use native.Mathlib.Omega.{arith}
use native.Mathlib.Nat.{add_comm}
use Rattle.laws.proofs.Split.{by_lt}
use Rattle.board.specs.declared.Board.{Board}
use Rattle.board.specs.Layout.{flash_pages, page_bytes, page_offset, flash_bytes, pages_of, page_rest}
use Rattle.board.specs.Sound.{Sound}
use Rattle.board.proofs.Pages.{offset_none, offset_next, flash_is_pages, pages_hold, pages_fit, rest_small, rest_next}

module _ (board : Board) (sound : Sound board) where
  -- a page has a byte at least
  offset_at_least : (page : ℕ) → page ≤ page_offset board page
  offset_at_least zero = omega arith
  offset_at_least (suc page) = omega (arith, offset_at_least page, offset_next board page, sound.page_takes_two)

  pub pages_few : (count : ℕ) → pages_of board count ≤ count
  pages_few count = pages_fit board sound count count (offset_at_least count)

  pub pages_rise : (count most : ℕ) → count ≤ most → pages_of board count ≤ pages_of board most
  pages_rise count most h = pages_fit board sound count (pages_of board most) (omega (arith, pages_hold board sound most))

  -- what fits in flash takes none but its pages
  pub pages_in_flash : (count : ℕ) → count ≤ flash_bytes board → pages_of board count ≤ flash_pages board
  pages_in_flash count h = pages_fit board sound count (flash_pages board) (omega (arith, flash_is_pages board))

  pub pages_of_one : (count : ℕ) → 0 < count → count ≤ page_bytes board → pages_of board count ≡ 1
  pages_of_one count some h =
      let most : pages_of board count ≤ 1 = pages_fit board sound count 1 (omega (arith, offset_next board 0)) in
      by_lt 0 (pages_of board count) (λ more. omega arith)
      (λ none.
      let z : pages_of board count ≡ 0 = omega arith in
      let held : count ≤ page_offset board 0 = rw z at (pages_hold board sound count) in
      absurd (omega (arith, offset_none board)))

  -- nothing is left behind whole pages
  pub rest_of_pages : (pages : ℕ) → page_rest board (page_offset board pages) ≡ 0
  rest_of_pages zero = ap (page_rest board) (offset_none board) ∙ rest_small board sound 0 (omega (arith, sound.page_takes_two))
  rest_of_pages (suc pages) =
      ap (page_rest board) (offset_next board pages ∙ add_comm (page_offset board pages) (page_bytes board))
      ∙ rest_next board sound (page_offset board pages)
      ∙ rest_of_pages pages
