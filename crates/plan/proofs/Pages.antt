-- After each page of a plan: its pages and those before it are known, and no others. Assumes nothing.
use mathlib.Core.Path.{◌≡◌, refl, ap, ◌∙◌, sym}
use mathlib.Core.Bool.{true, false}
use mathlib.Core.Logic.{inl, inr, ⊎_elim}
use mathlib.Core.List.{List}
use Prim.Native.Nat.{ℕ, suc, ◌+◌, ◌-◌, ◌≤◌, ◌<◌}
use native.Mathlib.Omega.{arith}
use lib.ListN.{length, take, get_or}
use Rattle.laws.specs.Bytes.{put}
use Rattle.laws.proofs.Append.{take_put}
use Rattle.laws.proofs.Places.{Outside}
use Rattle.laws.proofs.Split.{by_lt}
use Rattle.board.specs.declared.Board.{Board}
use Rattle.board.specs.declared.Place.TheVariants.{Flash}
use Rattle.board.specs.Layout.{flash_pages, page_bytes, page_offset, page_from, page_address, page_at, flash_bytes, flash_from, options_from, option_bytes, memory_bytes}
use Rattle.board.specs.Memory.{flash_at}
use Rattle.board.specs.Span.{place_of}
use Rattle.board.specs.Sound.{Sound}
use Rattle.board.proofs.Pages.{offset_none, offset_next, page_in_flash, page_in_memory, page_holds_place}
use Rattle.board.proofs.Span.{flash_placed}
use Rattle.board.proofs.Options.{flash_outside_options}
use Rattle.protection.specs.Protection.{word_of, locked_from, word_from, write_protected}
use Rattle.protection.proofs.Protection.{word_by_card, protection_by_card}
use Rattle.request.specs.Request.{transfer_bytes}
use Rattle.request.specs.declared.Request.TheVariants.{Download}
use Rattle.mode.specs.declared.Mode.{Mode}
use Rattle.mode.specs.declared.Mode.TheVariants.{DownloadIdle}
use Rattle.mode.specs.Wire.{is_mode}
use Rattle.mode.specs.Table.{allowed_of}
use Rattle.states.specs.WellFormed.{in_region}
use Rattle.flash.specs.Flash.{kept, stored}
use Rattle.line.specs.Event.{Event}
use Rattle.marks.specs.Work.{Work, known, valued, blocked, Sized}
use Rattle.cells.specs.Cells.{page_erased}
use Rattle.judgement.specs.Judgement.{begun, over_of}
use Rattle.judgement.proofs.Boards.{begun_sized, begun_value, begun_own}
use Rattle.plan.specs.Plan.{padded, page_of, polled, erase_page, set_pointer, download}
use Rattle.plan.proofs.Requests.{resting, idle_free, pointer_polled, erase-polled, write-polled}
use Rattle.plan.proofs.Written.{Learns, erase_learns, block_learns, white_surely, store_learns}
use Rattle.plan.proofs.Image.{page_at_lem}

-- the options that are known are the card
abbrev pub HasCard : Board → List ℕ → Work → Type 0
HasCard board card w = (k : ℕ) → k < option_bytes → get_or w.values (options_from board + k) 0 ≡ get_or card k 0

-- the image's first p pages are in place on every board, and the other pages are each board's own
pub record Placed (board : Board) (image card : List ℕ) (p : ℕ) (w : Work) : Type 0 where
  pub sized : Sized board w
  pub options : HasCard board card w
  pub values : (f : ℕ) → f < page_offset board p → flash_at board w.values f ≡ get_or image f 0xFF
  pub knows : (f : ℕ) → f < page_offset board p → known w (flash_from board + f) ≡ true
  pub own : (f : ℕ) → page_offset board p ≤ f → f < flash_bytes board → known w (flash_from board + f) ≡ false

-- before the first page
pub begun_placed : (board : Board) → Sound board → (image card : List ℕ) (w : Work) → Sized board w → length card ≡ option_bytes → Placed board image card 0 (begun board card w)
begun_placed board sound image card w s lc =
    record {
      sized = begun_sized board sound card w s lc;
      options = begun_value board sound card w s lc;
      values = λ f h. absurd (omega (arith, offset_none board));
      knows = λ f h. absurd (omega (arith, offset_none board));
      own = λ f a h.
          let inside : flash_from board + f < memory_bytes board = omega (arith, sound.flash_in_memory) in
          begun_own board sound card w s lc (flash_from board + f) inside (flash_outside_options board sound f h);
    }

-- no option byte lies in a page of flash
option_outside : (board : Board) → Sound board → (page k : ℕ) → page < flash_pages board → k < option_bytes → Outside (page_from board page) (page_bytes board) (options_from board + k)
option_outside board sound page k h b =
    let room = page_in_flash board page h in
    ⊎_elim (λ a. let z : page_from board page + page_bytes board ≤ options_from board + k = omega arith in inr z) (λ a. let z : options_from board + k < page_from board page = omega arith in inl z) sound.flash_from_options

-- the options stay where a page is learnt
options_stay : (board : Board) → Sound board → (page : ℕ) (value : ℕ → ℕ) (card : List ℕ) (w w' : Work) → page < flash_pages board → Learns board (page_from board page) (page_bytes board) value w w' → HasCard board card w → HasCard board card w'
options_stay board sound page value card w w' h l same k b = l.values_elsewhere (options_from board + k) (option_outside board sound page k h b) ∙ same k b

-- the next page is in place once its bytes are known
pub placed_on : (board : Board) → Sound board → (page : ℕ) (image card : List ℕ) (w w' : Work) → page < flash_pages board → Learns board (page_from board page) (page_bytes board) (λ i. get_or (padded (page_of board image page)) (i - page_from board page) 0xFF) w w' → Placed board image card page w → Placed board image card (suc page) w'
placed_on board sound page image card w w' h l p =
    let next = offset_next board page in
    record {
      sized = l.sized;
      options = options_stay board sound page (λ i. get_or (padded (page_of board image page)) (i - page_from board page) 0xFF) card w w' h l p.options;
      values = λ f b.
          by_lt f (page_offset board page)
          (λ a. let low : flash_from board + f < page_from board page = omega arith in l.values_elsewhere (flash_from board + f) (inl low) ∙ p.values f a)
          (λ a.
          let low : page_from board page ≤ flash_from board + f = omega arith in
          let high : flash_from board + f < page_from board page + page_bytes board = omega arith in
          let j : f - page_offset board page < page_bytes board = omega arith in
          let same : flash_from board + f - page_from board page ≡ f - page_offset board page = omega arith in
          let back : page_offset board page + (f - page_offset board page) ≡ f = omega arith in
          l.values (flash_from board + f) low high
          ∙ ap (λ (i : ℕ). get_or (padded (page_of board image page)) i 0xFF) same
          ∙ page_at_lem board image page (f - page_offset board page) j
          ∙ ap (λ (i : ℕ). get_or image i 0xFF) back);
      knows = λ f b.
          by_lt f (page_offset board page)
          (λ a. let low : flash_from board + f < page_from board page = omega arith in l.knows_elsewhere (flash_from board + f) (inl low) ∙ p.knows f a)
          (λ a.
          let low : page_from board page ≤ flash_from board + f = omega arith in
          let high : flash_from board + f < page_from board page + page_bytes board = omega arith in
          l.knows (flash_from board + f) low high);
      own = λ f a b.
          let past : page_from board page + page_bytes board ≤ flash_from board + f = omega arith in
          let before : page_offset board page ≤ f = omega arith in
          l.knows_elsewhere (flash_from board + f) (inr past) ∙ p.own f before b;
    }

-- what is known once a page was erased and the bytes xs were sent to be written
unfoldable pub page_sent : Board → ℕ → ℕ → List ℕ → Work → Work
page_sent board word page xs w = blocked (put 0 xs (page_erased board word page w).block) (page_erased board word page w)

-- and once they were written to it
unfoldable pub page_written : Board → ℕ → ℕ → List ℕ → Work → Work
page_written board word page xs w = valued (stored board word (page_from board page) xs (page_sent board word page xs w).values) (page_sent board word page xs w)

-- the events of one page, on a card that leaves it open
module _ (board : Board) (sound : Sound board) (page word : ℕ) (xs card : List ℕ) (w : Work) (sized : Sized board w) (same : HasCard board card w) (is : word ≡ word_from board 0 card) (unlocked : locked_from 0 card ≡ false) (free : write_protected word page ≡ false) (inside : page < flash_pages board) (two : 2 ≤ length xs) (most : length xs ≤ page_bytes board) where
  small : length xs ≤ transfer_bytes
  small = omega (arith, sound.page_in_transfer)

  sent : Learns board (page_from board page) (page_bytes board) (λ i. 0xFF) w (page_sent board word page xs w)
  unfolding page_sent
  sent = block_learns board (page_from board page) (page_bytes board) (λ i. 0xFF) xs w (page_erased board word page w) small (erase_learns board sound word page w inside free sized)

  sent_is : take (length xs) (page_sent board word page xs w).block ≡ xs
  unfolding page_sent
  sent_is = take_put xs (page_erased board word page w).block

  -- all of the page is open
  free_there : (i : ℕ) → page_from board page ≤ i → i < page_from board page + page_bytes board → kept board word i ≡ false
  free_there i a b = ap (write_protected word) (page_holds_place board sound page i a b) ∙ free

  pub written_learns : Learns board (page_from board page) (page_bytes board) (λ i. get_or xs (i - page_from board page) 0xFF) w (page_written board word page xs w)
  unfolding page_written
  written_learns =
      store_learns board word (page_from board page) (page_bytes board) xs w (page_sent board word page xs w) most (page_in_memory board sound page inside) free_there sent

  -- the page's address, where it lies, and which page holds it
  short : page_address board page < 0x100000000
  short = omega (arith, page_in_flash board page inside, sound.flash_addresses)

  lies : (count : ℕ) → count ≤ page_bytes board → place_of board (page_address board page) count ≡ Flash (page_from board page)
  lies count h = flash_placed board (page_offset board page) count (omega (arith, page_in_flash board page inside))

  lies_first : place_of board (page_address board page) 1 ≡ Flash (page_from board page)
  lies_first = lies 1 (omega (arith, sound.page_takes_two))

  begins : page_at board (page_from board page) ≡ page
  begins = page_holds_place board sound page (page_from board page) (omega arith) (omega (arith, sound.page_takes_two))

  reached : in_region board (page_address board page) ≡ true
  unfolding in_region
  reached = rw lies_first

  pub page_polled : (es : List Event) (mode : Mode) (pointer k : ℕ) → is_mode 0 mode ≡ false → allowed_of Download mode ≡ true → over_of board (polled (erase_page (page_address board page)) (polled (set_pointer (page_address board page)) (polled (download 2 xs) es))) (resting mode pointer) w k ≡ over_of board es (resting DownloadIdle (page_address board page)) (page_written board word page xs w) (suc (suc (suc (suc (suc (suc (suc (suc (suc k)))))))))
  unfolding page_written page_sent
  page_polled es mode pointer k heard ready =
      let w₁ : Work = page_erased board word page w in
      let w₂ : Work = page_sent board word page xs w in
      let es₂ : List Event = polled (download 2 xs) es in
      let es₁ : List Event = polled (set_pointer (page_address board page)) es₂ in
      let same₂ = options_stay board sound page (λ i. 0xFF) card w w₂ inside sent same in
      let word₁ : word_of board w.values ≡ word = word_by_card board w.values card same ∙ sym is in
      let word₂ : word_of board w₂.values ≡ word = word_by_card board w₂.values card same₂ ∙ sym is in
      rw word₁ at (erase-polled board es₁ mode heard ready page pointer w k lies_first begins short (protection_by_card board w.values card same ∙ unlocked))
      ∙ pointer_polled board es₂ DownloadIdle refl idle_free (page_address board page) pointer w₁ (suc (suc (suc k))) reached short
      ∙ rw word₂ at (write-polled board es DownloadIdle refl idle_free (page_address board page) (page_from board page) xs w₁ w₂ (suc (suc (suc (suc (suc (suc k)))))) two small (lies (length xs) most) refl (protection_by_card board w₂.values card same₂ ∙ unlocked) sent_is (white_surely board (word_of board w₂.values) (page_from board page) (length xs) (page_bytes board) w w₂ most (page_in_memory board sound page inside) sent))
