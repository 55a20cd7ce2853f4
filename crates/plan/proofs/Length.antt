-- How long the plan is. Assumes nothing.
use mathlib.Core.Path.{◌≡◌, refl, ap, ◌∙◌, sym}
use mathlib.Core.List.{List}
use Prim.Native.Nat.{ℕ, zero, suc, ◌+◌, ◌-◌, ◌*◌, ◌≤◌, ◌<◌}
use native.Mathlib.Omega.{arith}
use lib.ListN.{length, drop, length-append, length-drop}
use lib.Seq.{take_all, length-take-le}
use borrow.Author.Tests.{eq-eqb, ne_eqb}
use Rattle.laws.proofs.Split.{by_eq, by_lt}
use Rattle.board.specs.declared.Board.{Board}
use Rattle.board.specs.Layout.{page_bytes, page_offset, flash_pages, flash_bytes, pages_of, page_rest}
use Rattle.board.specs.Sound.{Sound}
use Rattle.board.proofs.Pages.{offset_none, offset_next, flash_is_pages, pages_hold, pages_needed, pages_of_none, pages_of_next, rest_small, rest_of_page, rest_next}
use Rattle.board.proofs.Counts.{pages_few, pages_rise, pages_of_one, rest_of_pages}
use Rattle.plan.specs.Plan.{page_of, plan_of}
use Rattle.plan.specs.Parts.{page_text, rest_text, padded_length, page_lines, plan_bytes}
use Rattle.plan.proofs.Lines.{padded_one, padded-more, page_length, leaving-length}
use Rattle.plan.proofs.Loop.{plan_rest, rest_page, rest-none}

page_count : (board : Board) (image : List ℕ) (page n : ℕ) → length (page_of board image page) ≡ n → page_lines board image page ≡ 200 + padded_length n * 2
unfolding page_lines
page_count board image page n e = rw e (omega arith)

-- the length, in each case
module _ (board : Board) (n : ℕ) where
  pub bytes_one : page_rest board n ≡ 1 → pages_of board n * 200 + 110 + (n + 1) * 2 ≡ plan_bytes board n
  unfolding plan_bytes
  bytes_one h = rw (eq-eqb (page_rest board n) 1 h) (omega arith)

  pub bytes-more : (page_rest board n ≡ 1 → ⊥) → pages_of board n * 200 + 110 + n * 2 ≡ plan_bytes board n
  unfolding plan_bytes
  bytes-more h = rw (ne_eqb (page_rest board n) 1 h) (omega arith)

module _ (board : Board) (sound : Sound board) where
  -- the rest of at most a page is one byte where all is
  rest_more : (n : ℕ) → n ≤ page_bytes board → (n ≡ 1 → ⊥) → page_rest board n ≡ 1 → ⊥
  rest_more n h odd e =
      by_eq n (page_bytes board)
      (λ full. let z : ◌≡◌ {A = ℕ} 0 1 = sym (rest_of_page board sound) ∙ ap (page_rest board) (sym full) ∙ e in omega arith)
      (λ part. let short : n < page_bytes board = omega arith in odd (sym (rest_small board sound n short) ∙ e))

  -- what is left of an image takes a page less behind each page
  bytes-last : (n : ℕ) → 0 < n → n ≤ page_bytes board → plan_bytes board n ≡ 200 + padded_length n * 2 + 110
  bytes-last n some h =
      let one = pages_of_one board sound n some h in
      by_eq n 1
      (λ e.
      let p = padded_one n e in
      let short : n < page_bytes board = omega (arith, sound.page_takes_two) in
      let b = bytes_one board n (rest_small board sound n short ∙ e) in
      omega arith)
      (λ e. let p = padded-more n e in let b = bytes-more board n (rest_more n h e) in omega arith)

  bytes-none : plan_bytes board 0 ≡ 110
  bytes-none =
      let none : 0 < page_bytes board = omega (arith, sound.page_takes_two) in
      let odd : page_rest board 0 ≡ 1 → ⊥ = λ e. let z = rest_small board sound 0 none in omega arith in
      let b = bytes-more board 0 odd in
      let p = pages_of_none board sound in
      omega arith

  bytes_next : (n : ℕ) → plan_bytes board (page_bytes board + n) ≡ 200 + page_bytes board * 2 + plan_bytes board n
  bytes_next n =
      let r = rest_next board sound n in
      let p = pages_of_next board sound n in
      by_eq (page_rest board n) 1
      (λ e. let a = bytes_one board n e in let b = bytes_one board (page_bytes board + n) (r ∙ e) in omega arith)
      (λ e. let a = bytes-more board n e in let b = bytes-more board (page_bytes board + n) (λ z. e (sym r ∙ z)) in omega arith)

  rest-length : (image : List ℕ) (count page n : ℕ) → n ≡ length image - page_offset board page → count ≡ pages_of board n → length (rest_text board image count page) ≡ plan_bytes board n
  rest-length image zero page n is c =
      let held : n ≤ page_offset board 0 = rw (sym c) at (pages_hold board sound n) in
      let z : n ≡ 0 = omega (arith, offset_none board) in
      rw (z, rest-none board image page) (leaving-length board ∙ sym bytes-none)
  rest-length image (suc count) page n is c =
      let some : 0 < n = omega (arith, pages_needed board sound n 0 (omega arith)) in
      let d : length (drop (page_offset board page) image) ≡ n = length-drop (page_offset board page) image ∙ sym is in
      let whole : length (rest_text board image (suc count) page) ≡ length (page_text board image page) + length (rest_text board image count (suc page)) = ap length (rest_page board image count page) ∙ length-append (page_text board image page) (rest_text board image count (suc page)) in
      let front = page_length board image page in
      let next = offset_next board page in
      by_lt (page_bytes board) n
      (λ h.
      let k : length (page_of board image page) ≡ page_bytes board = length-take-le (page_bytes board) (drop (page_offset board page) image) (omega arith) in
      let e : page_bytes board + (n - page_bytes board) ≡ n = omega arith in
      let fewer : suc (pages_of board (n - page_bytes board)) ≡ pages_of board n = sym (pages_of_next board sound (n - page_bytes board)) ∙ ap (pages_of board) e in
      let r = rest-length image count (suc page) (n - page_bytes board) (omega arith) (omega arith) in
      let two : page_bytes board ≡ 1 → ⊥ = λ z. omega (arith, sound.page_takes_two) in
      let p = padded-more (page_bytes board) two in
      let b = bytes_next (n - page_bytes board) in
      let w = ap (plan_bytes board) e in
      let v = page_count board image page (page_bytes board) k in
      omega arith)
      (λ h.
      let k : length (page_of board image page) ≡ n = ap length (take_all (page_bytes board) (drop (page_offset board page) image) (omega arith)) ∙ d in
      let one = pages_of_one board sound n some h in
      let none = pages_of_none board sound in
      let r = rest-length image count (suc page) 0 (omega arith) (omega arith) in
      let z = bytes-none in
      let b = bytes-last n some h in
      let v = page_count board image page n k in
      omega arith)

  pub plan_length : (image : List ℕ) → length (plan_of board image) ≡ plan_bytes board (length image)
  plan_length image =
      let e : length image ≡ length image - page_offset board 0 = omega (arith, offset_none board) in
      ap length (plan_rest board image (pages_of board (length image)) refl) ∙ rest-length image (pages_of board (length image) - 0) 0 (length image) e (omega arith)

  -- the same, as it is counted up
  pub size_one : (image : List ℕ) (count rest : ℕ) → count ≡ pages_of board (length image) → rest ≡ page_rest board (length image) → rest ≡ 1 → count * 200 + 110 + (length image + 1) * 2 ≡ length (plan_of board image)
  size_one image count rest is r h = ap (λ (k : ℕ). k * 200 + 110 + (length image + 1) * 2) is ∙ bytes_one board (length image) (sym r ∙ h) ∙ sym (plan_length image)

  pub size-more : (image : List ℕ) (count rest : ℕ) → count ≡ pages_of board (length image) → rest ≡ page_rest board (length image) → (rest ≡ 1 → ⊥) → count * 200 + 110 + length image * 2 ≡ length (plan_of board image)
  size-more image count rest is r h = ap (λ (k : ℕ). k * 200 + 110 + length image * 2) is ∙ bytes-more board (length image) (λ z. h (r ∙ z)) ∙ sym (plan_length image)

  -- an image that fits has fewer bytes, and takes fewer pages, than four bytes can count
  pub image_small : (image count : ℕ) → image ≤ flash_bytes board → count ≡ pages_of board image → (image < 0x100000000) × (count < 0x100000000)
  image_small image count h is =
      let small : flash_bytes board < 0x100000000 = omega (arith, sound.flash_in_memory, sound.memory_small) in
      let few = pages_few board sound image in
      (omega arith, omega arith)

  -- no image that fits has a longer plan than one of the whole flash
  pub bytes_most : (n : ℕ) → n ≤ flash_bytes board → plan_bytes board n ≤ plan_bytes board (flash_bytes board)
  bytes_most n h =
      let whole : page_rest board (flash_bytes board) ≡ 0 = ap (page_rest board) (flash_is_pages board) ∙ rest_of_pages board sound (flash_pages board) in
      let odd : page_rest board (flash_bytes board) ≡ 1 → ⊥ = λ e. omega arith in
      let f = bytes-more board (flash_bytes board) odd in
      let p = pages_rise board sound n (flash_bytes board) h in
      by_eq (page_rest board n) 1
      (λ e.
      let short : n ≡ flash_bytes board → ⊥ = λ z. odd (ap (page_rest board) (sym z) ∙ e) in
      let b = bytes_one board n e in
      less n (flash_bytes board) (pages_of board n) (pages_of board (flash_bytes board)) _ _ h short p b f)
      (λ e. let b = bytes-more board n e in omega arith)
    where
      less : (n m p q x y : ℕ) → n ≤ m → (n ≡ m → ⊥) → p ≤ q → p * 200 + 110 + (n + 1) * 2 ≡ x → q * 200 + 110 + m * 2 ≡ y → x ≤ y
      less n m p q x y h odd r a b = omega arith
