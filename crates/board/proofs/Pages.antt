-- Laws of pages: where each begins, which one holds a place, how many some bytes take. Assumes nothing.
use mathlib.Core.Path.{◌≡◌, refl, ap, ◌∙◌, sym}
use Prim.Native.Nat.{ℕ, suc, ◌+◌, ◌-◌, ◌*◌, ◌/◌, ◌≤◌, ◌<◌}
use native.Mathlib.Omega.{arith}
use native.Mathlib.Nat.{zero-mul, suc-mul, mul-le-mul_right, mul-add-div_right, div-eq_of_lt, div-mul-le_self, lt-div-mul-add, add-div_left, add-mod_left, mod-eq_of_lt, mod_self, add-zero}
use Rattle.laws.proofs.Split.{by_lt}
use Rattle.board.specs.declared.Board.{Board}
use Rattle.board.specs.Layout.{flash_pages, page_bytes, page_offset, flash_bytes, flash_from, memory_bytes, page_from, page_at, pages_of, page_rest}
use Rattle.board.specs.Sound.{Sound}

module _ (board : Board) where
  pub offset_none : page_offset board 0 ≡ 0
  unfolding page_offset
  offset_none = zero-mul (page_bytes board)

  pub offset_next : (page : ℕ) → page_offset board (suc page) ≡ page_offset board page + page_bytes board
  unfolding page_offset
  offset_next page = suc-mul page (page_bytes board)

  pub offset_rises : (page count : ℕ) → page ≤ count → page_offset board page ≤ page_offset board count
  unfolding page_offset
  offset_rises page count h = mul-le-mul_right (page_bytes board) h

  -- a page below a count of pages ends within them
  page_ends : (page count : ℕ) → page < count → page_offset board page + page_bytes board ≤ page_offset board count
  page_ends page count h = omega (arith, offset_next page, offset_rises (suc page) count h)

  pub flash_is_pages : flash_bytes board ≡ page_offset board (flash_pages board)
  unfolding flash_bytes
  flash_is_pages = refl

  pub page_in_flash : (page : ℕ) → page < flash_pages board → page_offset board page + page_bytes board ≤ flash_bytes board
  page_in_flash page h = omega (arith, page_ends page (flash_pages board) h, flash_is_pages)

module _ (board : Board) (sound : Sound board) where
  some : 0 < page_bytes board
  some = omega (arith, sound.page_takes_two)

  pub flash_has_two : 2 ≤ flash_bytes board
  flash_has_two = omega (arith, page_in_flash board 0 sound.some-pages, sound.page_takes_two, offset_none board)

  pub page_in_memory : (page : ℕ) → page < flash_pages board → page_from board page + page_bytes board ≤ memory_bytes board
  page_in_memory page h = omega (arith, page_in_flash board page h, sound.flash_in_memory)

  -- the places of a page are its own
  page_holds : (page j : ℕ) → j < page_bytes board → page_at board (page_from board page + j) ≡ page
  unfolding page_at page_offset
  page_holds page j h =
      let back : flash_from board + page * page_bytes board + j - flash_from board ≡ page * page_bytes board + j = omega arith in
      rw back (mul-add-div_right some page j ∙ ap (λ (k : ℕ). page + k) (div-eq_of_lt h) ∙ add-zero page)

  pub page_holds_place : (page i : ℕ) → page_from board page ≤ i → i < page_from board page + page_bytes board → page_at board i ≡ page
  page_holds_place page i a b =
      let j : i - page_from board page < page_bytes board = omega arith in
      let back : page_from board page + (i - page_from board page) ≡ i = omega arith in
      ap (page_at board) (sym back) ∙ page_holds page (i - page_from board page) j

  -- a place lies in the page that holds it
  place_in_page : (i : ℕ) → flash_from board ≤ i → (page_from board (page_at board i) ≤ i) × (i < page_from board (page_at board i) + page_bytes board)
  unfolding page_at page_offset
  place_in_page i h =
      let low : (i - flash_from board) / page_bytes board * page_bytes board ≤ i - flash_from board = div-mul-le_self (i - flash_from board) (page_bytes board) in
      let high : i - flash_from board < (i - flash_from board) / page_bytes board * page_bytes board + page_bytes board = lt-div-mul-add some in
      (omega arith, omega arith)

  -- and in flash that is one of its pages
  pub page_of_flash : (i : ℕ) → flash_from board ≤ i → i < flash_from board + flash_bytes board → page_at board i < flash_pages board
  page_of_flash i a b =
      by_lt (page_at board i) (flash_pages board) (λ h. h)
      (λ h.
      let low = (place_in_page i a).0 in
      let past = offset_rises board (flash_pages board) (page_at board i) h in
      absurd (omega (arith, flash_is_pages board)))

  -- so many pages hold their bytes, and one fewer does not
  pub pages_hold : (count : ℕ) → count ≤ page_offset board (pages_of board count)
  unfolding pages_of page_offset
  pages_hold count =
      let high : count + (page_bytes board - 1) < (count + (page_bytes board - 1)) / page_bytes board * page_bytes board + page_bytes board = lt-div-mul-add some in
      omega (arith, some)

  pub pages_needed : (count page : ℕ) → page < pages_of board count → page_offset board page < count
  unfolding pages_of page_offset
  pages_needed count page h =
      let low : (count + (page_bytes board - 1)) / page_bytes board * page_bytes board ≤ count + (page_bytes board - 1) = div-mul-le_self (count + (page_bytes board - 1)) (page_bytes board) in
      let more : suc page * page_bytes board ≤ (count + (page_bytes board - 1)) / page_bytes board * page_bytes board = mul-le-mul_right (page_bytes board) h in
      omega (arith, some, suc-mul page (page_bytes board))

  pub pages_fit : (count pages : ℕ) → count ≤ page_offset board pages → pages_of board count ≤ pages
  pages_fit count pages h =
      by_lt pages (pages_of board count) (λ more. absurd (omega (arith, pages_needed count pages more))) (λ few. few)

  pub pages_of_none : pages_of board 0 ≡ 0
  pages_of_none = omega (arith, pages_fit 0 0 (omega arith))

  pub pages_of_next : (count : ℕ) → pages_of board (page_bytes board + count) ≡ suc (pages_of board count)
  unfolding pages_of
  pages_of_next count =
      let e : page_bytes board + count + (page_bytes board - 1) ≡ page_bytes board + (count + (page_bytes board - 1)) = omega arith in
      rw e (add-div_left (count + (page_bytes board - 1)) some ∙ (let z : (count + (page_bytes board - 1)) / page_bytes board + 1 ≡ suc ((count + (page_bytes board - 1)) / page_bytes board) = omega arith in z))

  -- what is left behind whole pages
  pub rest_small : (count : ℕ) → count < page_bytes board → page_rest board count ≡ count
  unfolding page_rest
  rest_small count h = mod-eq_of_lt h

  pub rest_of_page : page_rest board (page_bytes board) ≡ 0
  unfolding page_rest
  rest_of_page = mod_self (page_bytes board)

  pub rest_next : (count : ℕ) → page_rest board (page_bytes board + count) ≡ page_rest board count
  unfolding page_rest
  rest_next count = add-mod_left (page_bytes board) count
