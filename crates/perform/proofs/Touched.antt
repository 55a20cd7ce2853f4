-- What an action is by value tells which bytes of flash it can change: those it stores, those of the pages it erases, and where it spares
-- write-protected pages no byte of them. Assumes nothing.
use mathlib.Core.Path.{◌≡◌, refl, ap, ◌∙◌, sym}
use mathlib.Core.Bool.{true, false≢true}
use mathlib.Core.Logic.{inl, inr, ⊎_elim}
use mathlib.Core.List.{List}
use Prim.Native.Nat.{ℕ, zero, suc, ◌+◌, ◌≤◌, ◌<◌}
use native.Mathlib.Omega.{arith}
use lib.ListN.{length, take, get_or}
use Rattle.laws.specs.Bytes.{put, filled}
use Rattle.laws.proofs.Bytes.{take_at_most, filled-length}
use Rattle.laws.proofs.Places.{Outside, put_outside, filled_outside, among}
use Rattle.laws.proofs.Split.{by_bool, by_eq}
use Rattle.board.specs.declared.Board.{Board}
use Rattle.board.specs.Layout.{flash_pages, page_bytes, page_from, page_at, flash_bytes, flash_from, memory_bytes}
use Rattle.board.specs.Memory.{ram_parts, part_from, part_bytes, cleared_from, ram_cleared}
use Rattle.board.specs.Sound.{Sound}
use Rattle.board.proofs.Pages.{page_in_memory, page_holds_place, page_of_flash}
use Rattle.protection.specs.Protection.{word_of, write_protected}
use Rattle.flash.specs.Flash.{kept, blank, erased, erased_from, erased_all}
use Rattle.flash.proofs.Flash.{erased-length}
use Rattle.flash.proofs.Places.{stored_outside, stored_spares}
use Rattle.action.specs.declared.Action.{Action}
use Rattle.action.specs.declared.Action.TheVariants.{Rest, Fail, Point, Erase, EraseAll, Unprotect, ClearRam, StoreFlash, StoreRam, StoreOptions}
use Rattle.action.specs.Action.{writes_of, erases_of, spares_of}
use Rattle.action.specs.Reach.{Fits}
use Rattle.perform.specs.Perform.{performed_of}

-- the front of a block is no longer than asked for
front_elsewhere : (at count : ℕ) (b : List ℕ) (i : ℕ) → Outside at count i → Outside at (length (take count b)) i
front_elsewhere at count b i o =
    ⊎_elim (λ h. inl h) (λ h. let z : at + length (take count b) ≤ i = omega (arith, take_at_most count b) in inr z) o

-- a byte of flash
module _ (board : Board) (sound : Sound board) (b : List ℕ) (i : ℕ) (low : flash_from board ≤ i) (high : i < flash_from board + flash_bytes board) where
  -- an erase of another page, and of a page that is write-protected
  page_elsewhere : (word page : ℕ) (m : List ℕ) → page < flash_pages board → length m ≡ memory_bytes board → (page_at board i ≡ page → ⊥) → get_or (erased board word page m) i 0 ≡ get_or m i 0
  unfolding erased
  page_elsewhere word page m h l other =
      let room : page_from board page + page_bytes board ≤ length m = omega (arith, page_in_memory board sound page h) in
      by_bool (write_protected word page) (λ e. rw e)
      (λ e. rw e (among (page_from board page) (page_bytes board) i (λ p q. absurd (other (page_holds_place board sound page i p q))) (λ o. filled_outside (page_from board page) (page_bytes board) 0xFF m i room o)))

  page_spared : (word page : ℕ) (m : List ℕ) → page < flash_pages board → length m ≡ memory_bytes board → kept board word i ≡ true → get_or (erased board word page m) i 0 ≡ get_or m i 0
  unfolding erased
  page_spared word page m h l k =
      by_eq (page_at board i) page (λ e. rw (ap (write_protected word) (sym e) ∙ k)) (λ e. page_elsewhere word page m h l e)

  pages_spared : (word count page : ℕ) (m : List ℕ) → page + count ≤ flash_pages board → length m ≡ memory_bytes board → kept board word i ≡ true → get_or (erased_from board word count page m) i 0 ≡ get_or m i 0
  unfolding erased_from
  pages_spared word zero page m h l k = refl
  pages_spared word (suc count) page m h l k =
      let here : page < flash_pages board = omega arith in
      let room : page_from board page + page_bytes board ≤ length m = omega (arith, page_in_memory board sound page here) in
      pages_spared word count (suc page) (erased board word page m) (omega arith) (erased-length board word page m room ∙ l) k ∙ page_spared word page m here l k

  parts_elsewhere : (count k : ℕ) (m : List ℕ) → k + count ≤ ram_parts board → length m ≡ memory_bytes board → get_or (cleared_from board count k m) i 0 ≡ get_or m i 0
  unfolding cleared_from
  parts_elsewhere zero k m h l = refl
  parts_elsewhere (suc count) k m h l =
      let here : k < ram_parts board = omega arith in
      let room : part_from board k + part_bytes board k ≤ length m = omega (arith, sound.part_in_memory k here) in
      let o : Outside (part_from board k) (part_bytes board k) i =
      ⊎_elim (λ a. let z : part_from board k + part_bytes board k ≤ i = omega arith in inr z) (λ a. let z : i < part_from board k = omega arith in inl z) (sound.part_from_flash k here) in
      parts_elsewhere count (suc k) (filled (part_from board k) (part_bytes board k) 0 m) (omega arith) (filled-length (part_from board k) (part_bytes board k) 0 m room ∙ l)
      ∙ filled_outside (part_from board k) (part_bytes board k) 0 m i room o

  ram_elsewhere : (m : List ℕ) → length m ≡ memory_bytes board → get_or (ram_cleared board m) i 0 ≡ get_or m i 0
  unfolding ram_cleared
  ram_elsewhere m l = parts_elsewhere (ram_parts board) 0 m (omega arith) l

  -- the byte is not stored, and its page is not erased
  pub record Untouched (action : Action) : Type 0 where
    pub unwritten : Outside (writes_of action).at (writes_of action).count i
    pub unerased : Outside (erases_of board action).first (erases_of board action).count (page_at board i)

  module _ (m : List ℕ) (l : length m ≡ memory_bytes board) where
    -- no page of flash is outside all of them
    all_pages : {C : Type 0} → Outside 0 (flash_pages board) (page_at board i) → C
    all_pages o = absurd (⊎_elim (λ h. omega arith) (λ h. omega (arith, page_of_flash board sound i low high)) o)

    put_elsewhere : (at count : ℕ) → at + count ≤ memory_bytes board → Outside at count i → get_or (put at (take count b) m) i 0 ≡ get_or m i 0
    put_elsewhere at count h o =
        let room : at + length (take count b) ≤ length m = omega (arith, take_at_most count b) in
        put_outside at (take count b) m i room (front_elsewhere at count b i o)

    write_elsewhere : (at count : ℕ) → at + count ≤ memory_bytes board → Outside at count i → get_or (performed_of board (StoreFlash at count) b m).memory i 0 ≡ get_or m i 0
    write_elsewhere at count h o =
        let room : at + length (take count b) ≤ length m = omega (arith, take_at_most count b) in
        by_bool (blank board (word_of board m) at (length (take count b)) m)
        (λ e. rw e (stored_outside board (word_of board m) (take count b) at m i room (front_elsewhere at count b i o))) (λ e. rw e)

    -- so it stays
    pub untouched_stays : (action : Action) → Fits board action → Untouched action → get_or (performed_of board action b m).memory i 0 ≡ get_or m i 0
    untouched_stays Rest f u = refl
    untouched_stays (Fail status) f u = refl
    untouched_stays (Point address) f u = refl
    untouched_stays (Erase page) f u =
        let below : page < flash_pages board = omega (arith, f.pages) in
        page_elsewhere (word_of board m) page m below l (λ e. ⊎_elim (λ h. omega arith) (λ h. omega arith) u.unerased)
    untouched_stays EraseAll f u = all_pages u.unerased
    untouched_stays Unprotect f u = all_pages u.unerased
    untouched_stays ClearRam f u = ram_elsewhere m l
    untouched_stays (StoreFlash at count) f u = write_elsewhere at count f.ends u.unwritten
    untouched_stays (StoreRam at count) f u = put_elsewhere at count f.ends u.unwritten
    untouched_stays (StoreOptions at count) f u = put_elsewhere at count f.ends u.unwritten

    -- and in a write-protected page it stays where the action spares it
    pub spared_stays : (action : Action) → Fits board action → spares_of action ≡ true → kept board (word_of board m) i ≡ true → get_or (performed_of board action b m).memory i 0 ≡ get_or m i 0
    unfolding erased_all
    spared_stays Rest f s k = refl
    spared_stays (Fail status) f s k = refl
    spared_stays (Point address) f s k = refl
    spared_stays (Erase page) f s k = let below : page < flash_pages board = omega (arith, f.pages) in page_spared (word_of board m) page m below l k
    spared_stays EraseAll f s k = pages_spared (word_of board m) (flash_pages board) 0 m (omega arith) l k
    spared_stays Unprotect f s k = absurd (false≢true s)
    spared_stays ClearRam f s k = absurd (false≢true s)
    spared_stays (StoreFlash at count) f s k =
        let room : at + length (take count b) ≤ length m = omega (arith, take_at_most count b, f.ends) in
        by_bool (blank board (word_of board m) at (length (take count b)) m) (λ e. rw e (stored_spares board (word_of board m) (take count b) at m i room k)) (λ e. rw e)
    spared_stays (StoreRam at count) f s k = absurd (false≢true s)
    spared_stays (StoreOptions at count) f s k = absurd (false≢true s)
