-- Where no page is write-protected: an erase of all flash at once, and a store that is a copy. Assumes nothing.
use mathlib.Core.Path.{◌≡◌, refl, ap, ◌∙◌, sym}
use mathlib.Core.Bool.{Bool, true, false, not, ◌&&◌, ◌||◌}
use mathlib.Core.List.{List, [], ◌∷◌, ◌++◌, append_assoc}
use Prim.Native.Nat.{ℕ, zero, suc, ◌+◌, ◌-◌, ◌≤◌, ◌<◌}
use native.Mathlib.Omega.{arith}
use native.Mathlib.Nat.{not-suc-le-zero, le_of_suc-le-suc}
use lib.Dec.{eqb, leb}
use lib.ListN.{length, take, drop, replicate, length-replicate, length-drop, replicate-append-replicate}
use lib.Seq.{drop-drop}
use borrow.Author.Tests.{leb-true, not-true}
use Rattle.laws.specs.Bytes.{put}
use Rattle.laws.specs.Lists.{all_are}
use Rattle.laws.proofs.Split.{and_true}
use Rattle.board.specs.declared.Board.{Board}
use Rattle.board.specs.Layout.{flash_pages, page_bytes, page_offset, page_from, page_at, flash_bytes, flash_from, memory_bytes}
use Rattle.board.specs.Sound.{Sound}
use Rattle.board.proofs.Pages.{offset_none, offset_next, flash_is_pages, page_in_memory, page_of_flash}
use Rattle.protection.specs.Protection.{write_protected, any_protected}
use Rattle.protection.proofs.Protection.{none_parts, none_at}
use Rattle.request.specs.Request.{transfer_bytes}
use Rattle.flash.specs.Flash.{kept, each, blank, laid, stored}
use Rattle.marks.specs.Work.{Work, known, valued, learnt, all_known, Sized}
use Rattle.marks.proofs.Known.{block-front, learnt_behind, all_none, all_next}
use Rattle.cells.specs.Cells.{sure_from, page_erased, pages_erased, flash_learnt}
use Rattle.acts.proofs.Erasing.{page_open}

-- so many pages of erased bytes
white : Board → ℕ → List ℕ
white board pages = replicate (page_offset board pages) 0xFF

white_length : (board : Board) (pages : ℕ) → length (white board pages) ≡ page_offset board pages
unfolding white
white_length board pages = length-replicate {A = ℕ} (page_offset board pages) 0xFF

white_next : (board : Board) (pages : ℕ) → white board pages ++ replicate (page_bytes board) 0xFF ≡ white board (suc pages)
unfolding white
white_next board pages =
    replicate-append-replicate (page_offset board pages) (page_bytes board) 0xFF ∙ ap (λ (k : ℕ). replicate k 0xFF) (sym (offset_next board pages))

-- all flash at once
module _ (board : Board) (sound : Sound board) (word : ℕ) (w : Work) (s : Sized board w) where
  whites : ℕ → Work
  whites pages = learnt (flash_from board) (white board pages) w

  -- a page behind pages that are erased
  page_behind : (page : ℕ) → page < flash_pages board → write_protected word page ≡ false → page_erased board word page (whites page) ≡ whites (suc page)
  unfolding whites
  page_behind page h e =
      let one : List ℕ = replicate (page_bytes board) 0xFF in
      let a : length one ≡ page_bytes board = length-replicate {A = ℕ} (page_bytes board) 0xFF in
      let at : page_from board page ≡ flash_from board + length (white board page) = omega (arith, white_length board page) in
      let room : page_from board page + length one ≤ memory_bytes board = omega (arith, page_in_memory board sound page h) in
      sym (page_open board word page (whites page) e)
      ∙ learnt_behind board (flash_from board) (page_from board page) (white board page) one w at room s
      ∙ ap (λ (zs : List ℕ). learnt (flash_from board) zs w) (white_next board page)

  pages_behind : (count page : ℕ) → page + count ≤ flash_pages board → any_protected word count page ≡ false → pages_erased board word count page (whites page) ≡ whites (page + count)
  unfolding pages_erased
  pages_behind zero page h e = ap whites (let z : page ≡ page + 0 = omega arith in z)
  pages_behind (suc count) page h e =
      let parts = none_parts word count page e in
      let less : page < flash_pages board = omega arith in
      let more : suc page + count ≤ flash_pages board = omega arith in
      let k : suc page + count ≡ page + suc count = omega arith in
      ap (pages_erased board word count (suc page)) (page_behind page less parts.0)
      ∙ pages_behind count (suc page) more parts.1
      ∙ ap whites k

  -- the first page is erased by itself, since there is one
  first_white : write_protected word 0 ≡ false → page_erased board word 0 w ≡ whites 1
  unfolding whites white
  first_white e =
      let at : page_from board 0 ≡ flash_from board = omega (arith, offset_none board) in
      let size : page_bytes board ≡ page_offset board 1 = omega (arith, offset_none board, offset_next board 0) in
      sym (page_open board word 0 w e) ∙ rw (at, size)

  first_then : (pages : ℕ) → 1 ≤ pages → pages ≤ flash_pages board → any_protected word pages 0 ≡ false → pages_erased board word pages 0 w ≡ whites pages
  unfolding pages_erased
  first_then zero some h e = absurd (not-suc-le-zero some)
  first_then (suc count) some h e =
      let parts = none_parts word count 0 e in
      let more : 1 + count ≤ flash_pages board = omega arith in
      let k : 1 + count ≡ suc count = omega arith in
      ap (pages_erased board word count 1) (first_white parts.0) ∙ pages_behind count 1 more parts.1 ∙ ap whites k

  pub flash_erased_lem : any_protected word (flash_pages board) 0 ≡ false → flash_learnt board w ≡ pages_erased board word (flash_pages board) 0 w
  unfolding flash_learnt whites white
  flash_erased_lem e =
      let all : flash_pages board ≤ flash_pages board = omega arith in
      ap (λ (k : ℕ). learnt (flash_from board) (replicate k 0xFF) w) (flash_is_pages board) ∙ sym (first_then (flash_pages board) sound.some-pages all e)

-- a store that spares no place is a copy
laid_open : (board : Board) (word i : ℕ) (xs ms : List ℕ) → length xs ≤ length ms → ((k : ℕ) → i ≤ k → k < i + length xs → kept board word k ≡ false) → laid board word i xs ms ≡ xs ++ drop (length xs) ms
unfolding laid
laid_open board word i [] ms h free = refl
laid_open board word i (x ∷ xs) [] h free = absurd (not-suc-le-zero h)
laid_open board word i (x ∷ xs) (m ∷ ms) h free =
    let here : kept board word i ≡ false = free i (omega arith) (omega arith) in
    let rest : laid board word (suc i) xs ms ≡ xs ++ drop (length xs) ms =
    laid_open board word (suc i) xs ms (le_of_suc-le-suc h) (λ k a b. free k (omega arith) (omega arith)) in
    rw (here, rest)

stored-put : (board : Board) (word at : ℕ) (xs m : List ℕ) → at + length xs ≤ length m → ((k : ℕ) → at ≤ k → k < at + length xs → kept board word k ≡ false) → stored board word at xs m ≡ put at xs m
unfolding stored put
stored-put board word at xs m h free =
    let room : length xs ≤ length (drop at m) = rw length-drop (omega arith) in
    ap (λ (l : List ℕ). take at m ++ l) (laid_open board word at xs (drop at m) room free ∙ ap (λ (l : List ℕ). xs ++ l) (drop-drop (length xs) at m))
    ∙ sym (append_assoc (take at m) xs (drop (at + length xs) m))

or_none : (a : Bool) → a || false ≡ a
or_none true = refl
or_none false = refl

-- a test that spares no place
each_free : (board : Board) (v word i n : ℕ) (ms : List ℕ) → ((k : ℕ) → i ≤ k → k < i + n → kept board word k ≡ false) → all_are v n ms ≡ each board v word i n ms
unfolding each all_are
each_free board v word i zero ms free = refl
each_free board v word i (suc n) [] free = refl
each_free board v word i (suc n) (m ∷ ms) free =
    let here : kept board word i ≡ false = free i (omega arith) (omega arith) in
    let rest : all_are v n ms ≡ each board v word (suc i) n ms = each_free board v word (suc i) n ms (λ k a b. free k (omega arith) (omega arith)) in
    rw (here, rest, or_none (eqb m v))

-- and one of marks
sure_free : (board : Board) (word n i : ℕ) (w : Work) → Sized board w → i + n ≤ memory_bytes board → ((k : ℕ) → i ≤ k → k < i + n → kept board word k ≡ false) → all_known i n w ≡ sure_from board word n i w
unfolding sure_from
sure_free board word zero i w s h free = all_none i w
sure_free board word (suc n) i w s h free =
    let inside : i < memory_bytes board = omega arith in
    let more : suc i + n ≤ memory_bytes board = omega arith in
    let here : kept board word i ≡ false = free i (omega arith) (omega arith) in
    let rest : all_known (suc i) n w ≡ sure_from board word n (suc i) w = sure_free board word n (suc i) w s more (λ k a b. free k (omega arith) (omega arith)) in
    all_next board i n w s inside ∙ rw (here, rest, or_none (known w i))

-- the span from place `at` up to place `end` lies in flash, and no page is write-protected
abbrev pub is_open : Board → ℕ → ℕ → ℕ → Bool
is_open board word at end = leb (flash_from board) at && leb end (flash_from board + flash_bytes board) && not (any_protected word (flash_pages board) 0)

-- there
module _ (board : Board) (word at count : ℕ) (w : Work) (sound : Sound board) (s : Sized board w) (room : at + count ≤ memory_bytes board) (o : is_open board word at (at + count) ≡ true) where
  free_there : (k : ℕ) → at ≤ k → k < at + count → kept board word k ≡ false
  free_there k a b =
      let whole = and_true (leb (flash_from board) at && leb (at + count) (flash_from board + flash_bytes board)) (not (any_protected word (flash_pages board) 0)) o in
      let span = and_true (leb (flash_from board) at) (leb (at + count) (flash_from board + flash_bytes board)) whole.0 in
      let from : flash_from board ≤ at = leb-true (flash_from board) at span.0 in
      let to : at + count ≤ flash_from board + flash_bytes board = leb-true (at + count) (flash_from board + flash_bytes board) span.1 in
      let low : 0 ≤ page_at board k = omega arith in
      let page : page_at board k < 0 + flash_pages board = omega (arith, page_of_flash board sound k (omega arith) (omega arith)) in
      none_at word (flash_pages board) 0 (not-true (any_protected word (flash_pages board) 0) whole.1) (page_at board k) low page

  pub blank_there : (b : Bool) → b ≡ all_are 0xFF (at + count - at) (drop at w.values) → b ≡ blank board word at count w.values
  unfolding blank
  blank_there b h =
      let k : at + count - at ≡ count = omega arith in
      h ∙ rw k (each_free board 0xFF word at count (drop at w.values) free_there)

  pub sure_there : (b : Bool) → b ≡ all_known at (at + count - at) w → b ≡ sure_from board word count at w
  sure_there b h =
      let k : at + count - at ≡ count = omega arith in
      h ∙ rw k (sure_free board word count at w s room free_there)

  pub stored_there : (w' : Work) → count ≤ transfer_bytes → w' ≡ valued (put at (take count w.block) w.values) w → w' ≡ valued (stored board word at (take count w.block) w.values) w
  stored_there w' c e =
      let has : length (take count w.block) ≡ count = block-front board count w s c in
      let fits : at + length (take count w.block) ≤ length w.values = omega (arith, s.values) in
      e ∙ ap (λ (m : List ℕ). valued m w) (sym (stored-put board word at (take count w.block) w.values fits (λ k a b. free_there k a (omega arith))))
