-- One turn of the loop that writes the pages, and its end. Assumes nothing.
use mathlib.Core.Path.{◌≡◌, refl, ap, ap₂, ◌∙◌, sym}
use mathlib.Core.List.{List, ◌++◌, append_assoc}
use Prim.Native.Nat.{ℕ, suc, ◌+◌, ◌-◌, ◌≤◌, ◌<◌}
use native.Mathlib.Omega.{arith}
use native.Mathlib.Numerals.{add-one}
use lib.ListN.{length, length-append}
use lib.Seq.{sets}
use Rattle.laws.specs.Bytes.{put}
use Rattle.laws.proofs.Append.{sets-append}
use Rattle.laws.proofs.Bytes.{sets-put}
use Rattle.text.specs.Text.{text_of}
use Rattle.board.specs.declared.Board.{Board}
use Rattle.board.specs.Layout.{page_address, pages_of}
use Rattle.plan.specs.Plan.{download, polled, erase_page, set_pointer, padded, page_of, pages_from, plan_events, plan_of}
use Rattle.plan.specs.Parts.{polled_text, page_text, rest_text, leaving_text, Laid, leaving_bytes, page_lines}
use Rattle.plan.proofs.Lines.{polled_behind, page_length, leaving-length}

-- the plan is what is to be written at the start
pub plan_rest : (board : Board) (image : List ℕ) (count : ℕ) → count ≡ pages_of board (length image) → plan_of board image ≡ rest_text board image (count - 0) 0
unfolding plan_of plan_events rest_text
plan_rest board image count is = let e : pages_of board (length image) ≡ count - 0 = omega arith in ap (λ (n : ℕ). text_of (pages_from board image n 0)) e

pub plan_start : (board : Board) (image out : List ℕ) (count : ℕ) → count ≡ pages_of board (length image) → sets out 0 (rest_text board image (count - 0) 0) ≡ sets out 0 (plan_of board image)
plan_start board image out count is = ap (sets out 0) (sym (plan_rest board image count is))

pub plan_total : (board : Board) (image : List ℕ) (count : ℕ) → count ≡ pages_of board (length image) → 0 + length (rest_text board image (count - 0) 0) ≡ length (plan_of board image)
plan_total board image count is = let e = ap length (plan_rest board image count is) in omega arith

pub rest_page : (board : Board) (image : List ℕ) (count page : ℕ) → rest_text board image (suc count) page ≡ page_text board image page ++ rest_text board image count (suc page)
unfolding rest_text pages_from page_text
rest_page board image count page =
    let c = polled (download 2 (padded (page_of board image page))) (pages_from board image count (suc page)) in
    let b = polled (set_pointer (page_address board page)) c in
    polled_behind (erase_page (page_address board page)) b
    ∙ ap (λ (l : List ℕ). polled_text (erase_page (page_address board page)) ++ l) (polled_behind (set_pointer (page_address board page)) c ∙ ap (λ (l : List ℕ). polled_text (set_pointer (page_address board page)) ++ l) (polled_behind (download 2 (padded (page_of board image page))) (pages_from board image count (suc page))))
    ∙ simp append_assoc

pub rest-none : (board : Board) (image : List ℕ) (page : ℕ) → rest_text board image 0 page ≡ leaving_text board
unfolding rest_text pages_from leaving_text
rest-none board image page = refl

module _ (board : Board) (image : List ℕ) (count page : ℕ) (more : page < count) where
  next : rest_text board image (count - page) page ≡ page_text board image page ++ rest_text board image (count - (page + 1)) (page + 1)
  next =
      let e : count - page ≡ suc (count - (page + 1)) = omega arith in
      rw (e, add-one page) (rest_page board image (count - suc page) page)

  next_length : length (rest_text board image (count - page) page) ≡ length (page_text board image page) + length (rest_text board image (count - (page + 1)) (page + 1))
  next_length = ap length next ∙ length-append (page_text board image page) (rest_text board image (count - (page + 1)) (page + 1))

  pub next_room : (at total n : ℕ) → at + length (rest_text board image (count - page) page) ≡ total → total ≤ n → at + page_lines board image page ≤ n
  next_room at total n s h = let e = next_length in let l = page_length board image page in omega arith

  module _ (m m' : List ℕ) (at r : ℕ) (laid : Laid m at (page_text board image page) (page_lines board image page) m' r) where
    pub next_total : (total : ℕ) → at + length (rest_text board image (count - page) page) ≡ total → r + length (rest_text board image (count - (page + 1)) (page + 1)) ≡ total
    next_total total s = let e = next_length in let k = page_length board image page in let l = laid.1 in omega arith

    pub next_laid : sets m' r (rest_text board image (count - (page + 1)) (page + 1)) ≡ sets m at (rest_text board image (count - page) page)
    next_laid =
        let rest = rest_text board image (count - (page + 1)) (page + 1) in
        let k : r ≡ at + length (page_text board image page) = laid.1 ∙ ap (λ (i : ℕ). at + i) (sym (page_length board image page)) in
        ap₂ (λ (l : List ℕ) (i : ℕ). sets l i rest) laid.0 k ∙ sym (sets-append (page_text board image page) rest m at) ∙ ap (sets m at) (sym next)

module _ (board : Board) (image : List ℕ) (count page : ℕ) (over : count ≤ page) where
  last : rest_text board image (count - page) page ≡ leaving_text board
  last =
      let e : count - page ≡ 0 = omega arith in
      rw e (rest-none board image page)

  pub last-room : (at total n : ℕ) → at + length (rest_text board image (count - page) page) ≡ total → total ≤ n → at + leaving_bytes ≤ n
  last-room at total n s h = let e = ap length last in let l = leaving-length board in omega arith

  pub write_end : (m m' m₀ : List ℕ) (at : ℕ) → length (plan_of board image) ≤ length m₀ → sets m at (rest_text board image (count - page) page) ≡ sets m₀ 0 (plan_of board image) → m' ≡ sets m at (leaving_text board) → m' ≡ put 0 (plan_of board image) m₀
  write_end m m' m₀ at room e laid =
      let h : 0 + length (plan_of board image) ≤ length m₀ = omega arith in
      laid ∙ ap (sets m at) (sym last) ∙ e ∙ sets-put (plan_of board image) m₀ 0 h
