-- Each action keeps boards and what is known of them alike. Assumes nothing.
use mathlib.Core.Path.{◌≡◌, ap, ◌∙◌, sym}
use mathlib.Core.Bool.{true, false, true≢false}
use mathlib.Core.List.{List}
use Prim.Native.Nat.{ℕ, zero, suc, ◌+◌, ◌-◌, ◌≤◌, ◌<◌}
use native.Mathlib.Omega.{arith}
use lib.ListN.{length, drop, get_or, replicate, length-drop, length-replicate}
use lib.Seq.{get_or-drop}
use Rattle.laws.specs.Bytes.{filled}
use Rattle.laws.proofs.Places.{Outside, among}
use Rattle.laws.proofs.Split.{by_bool, and_true}
use Rattle.board.specs.declared.Board.{Board}
use Rattle.board.specs.Layout.{flash_pages, page_bytes, page_from, flash_bytes, flash_from, options_from, option_bytes, memory_bytes, defaults}
use Rattle.board.specs.Memory.{ram_parts, part_from, part_bytes, cleared_from, ram_cleared, flash_erased, options_reset, unprotected}
use Rattle.board.specs.Sound.{Sound}
use Rattle.board.proofs.Pages.{page_in_memory}
use Rattle.protection.specs.Protection.{read_protected, word_of, write_protected}
use Rattle.protection.proofs.Protection.{word_by_options, protection_by_options}
use Rattle.flash.specs.Flash.{kept, each, blank, stored, erased, erased_from, erased_all}
use Rattle.flash.proofs.Places.{stored-length, stored_outside, stored_spares, stored_puts, each_all, each_if, each-not, Odd}
use Rattle.marks.specs.Work.{Work, known, valued, learnt}
use Rattle.marks.proofs.Known.{valued-known, valued_sized}
use Rattle.cells.specs.Cells.{sure_from, surely, page_erased, pages_erased, flash_learnt, parts_learnt, ram_learnt}
use Rattle.cells.proofs.Likeness.{Alike, learnt_alike}
use Rattle.cells.proofs.Sure.{sure_all, sure_not}

-- equal bytes, laid over the memory and learnt
same_bytes : (board : Board) (from count v : ℕ) (m₀ m : List ℕ) (w : Work) → from + count ≤ memory_bytes board → Alike board m₀ m w → Alike board m₀ (filled from count v m) (learnt from (replicate count v) w)
unfolding filled
same_bytes board from count v m₀ m w h s =
    let l : length (replicate count v) ≡ count = length-replicate {A = ℕ} count v in
    let room : from + length (replicate count v) ≤ memory_bytes board = omega arith in
    learnt_alike board from (replicate count v) m₀ m w room s

module _ (board : Board) (sound : Sound board) (m₀ : List ℕ) where
  pub page_alike : (word page : ℕ) (m : List ℕ) (w : Work) → page < flash_pages board → Alike board m₀ m w → Alike board m₀ (erased board word page m) (page_erased board word page w)
  unfolding erased page_erased
  page_alike word page m w h s =
      by_bool (write_protected word page) (λ e. rw e s)
      (λ e. rw e (same_bytes board (page_from board page) (page_bytes board) 0xFF m₀ m w (page_in_memory board sound page h) s))

  pages_alike : (word count page : ℕ) (m : List ℕ) (w : Work) → page + count ≤ flash_pages board → Alike board m₀ m w → Alike board m₀ (erased_from board word count page m) (pages_erased board word count page w)
  unfolding erased_from pages_erased
  pages_alike word zero page m w h s = s
  pages_alike word (suc count) page m w h s =
      let here : page < flash_pages board = omega arith in
      let rest : suc page + count ≤ flash_pages board = omega arith in
      pages_alike word count (suc page) (erased board word page m) (page_erased board word page w) rest (page_alike word page m w here s)

  pub all_alike : (word : ℕ) (m : List ℕ) (w : Work) → Alike board m₀ m w → Alike board m₀ (erased_all board word m) (pages_erased board word (flash_pages board) 0 w)
  unfolding erased_all
  all_alike word m w s = pages_alike word (flash_pages board) 0 m w (omega arith) s

  parts_alike : (count k : ℕ) (m : List ℕ) (w : Work) → k + count ≤ ram_parts board → Alike board m₀ m w → Alike board m₀ (cleared_from board count k m) (parts_learnt board count k w)
  unfolding cleared_from parts_learnt
  parts_alike zero k m w h s = s
  parts_alike (suc count) k m w h s =
      let here : k < ram_parts board = omega arith in
      let rest : suc k + count ≤ ram_parts board = omega arith in
      parts_alike count (suc k) _ _ rest (same_bytes board (part_from board k) (part_bytes board k) 0 m₀ m w (sound.part_in_memory k here) s)

  pub ram_alike : (m : List ℕ) (w : Work) → Alike board m₀ m w → Alike board m₀ (ram_cleared board m) (ram_learnt board w)
  unfolding ram_cleared ram_learnt
  ram_alike m w s = parts_alike (ram_parts board) 0 m w (omega arith) s

  flash_alike : (m : List ℕ) (w : Work) → Alike board m₀ m w → Alike board m₀ (flash_erased board m) (flash_learnt board w)
  unfolding flash_erased flash_learnt
  flash_alike m w s = same_bytes board (flash_from board) (flash_bytes board) 0xFF m₀ m w sound.flash_in_memory s

  pub whole_alike : (m : List ℕ) (w : Work) → Alike board m₀ m w → Alike board m₀ (unprotected board m) (learnt (options_from board) defaults (ram_learnt board (flash_learnt board w)))
  unfolding unprotected options_reset
  whole_alike m w s = learnt_alike board (options_from board) defaults m₀ _ _ sound.options_in_memory (ram_alike _ _ (flash_alike m w s))

-- xs stored where every byte that is written was known
pub stored_alike : (board : Board) (m₀ : List ℕ) (word at : ℕ) (xs m : List ℕ) (w : Work) → at + length xs ≤ memory_bytes board → ((i : ℕ) → at ≤ i → i < at + length xs → kept board word i ≡ false → known w i ≡ true) → Alike board m₀ m w → Alike board m₀ (stored board word at xs m) (valued (stored board word at xs w.values) w)
stored_alike board m₀ word at xs m w h sure s =
    let v = w.values in
    let hm : at + length xs ≤ length m = omega (arith, s.memory) in
    let hw : at + length xs ≤ length w.values = omega (arith, s.work.values) in
    let marks : (i : ℕ) → known (valued (stored board word at xs v) w) i ≡ known w i = λ i. valued-known (stored board word at xs v) w i in
    record {
      memory = stored-length board word xs at m hm ∙ s.memory;
      work = valued_sized board (stored board word at xs v) w (stored-length board word xs at v hw ∙ s.work.values) s.work;
      cells = λ i b.
          among at (length xs) i
          (λ p q.
          by_bool (kept board word i)
          (λ k. stored_spares board word xs at m i hm k ∙ s.cells i b ∙ sym (rw (marks i, stored_spares board word xs at v i hw k)))
          (λ k. stored_puts board word xs at m i hm p q k ∙ sym (rw (marks i ∙ sure i p q k) (stored_puts board word xs at v i hw p q k))))
          (λ o. stored_outside board word xs at m i hm o ∙ s.cells i b ∙ sym (rw (marks i, stored_outside board word xs at v i hw o)));
      options = λ k b. marks (options_from board + k) ∙ s.options k b;
    }

-- flash and RAM were zero at the start
abbrev pub Zeros : Board → List ℕ → Type 0
Zeros board m₀ = (i : ℕ) → i < memory_bytes board → Outside (options_from board) option_bytes i → get_or m₀ i 0 ≡ 0

-- the erased test, of a board and of all boards
module _ (board : Board) (word at count : ℕ) (m₀ m : List ℕ) (w : Work) (h : at + count ≤ memory_bytes board) (s : Alike board m₀ m w) where
  values-room : count ≤ length (drop at w.values)
  values-room = rw length-drop (omega (arith, s.work.values))

  memory-room : count ≤ length (drop at m)
  memory-room = rw length-drop (omega (arith, s.memory))

  -- where the test is passed surely, each byte that will be written is known
  pub surely-known : surely board word at count w ≡ true → (i : ℕ) → at ≤ i → i < at + count → kept board word i ≡ false → known w i ≡ true
  unfolding surely
  surely-known e i p q k = sure_all board word w count at (and_true (blank board word at count w.values) (sure_from board word count at w) e).1 i p q k

  -- and so the board passes it
  pub surely-blank : surely board word at count w ≡ true → blank board word at count m ≡ true
  unfolding surely blank
  surely-blank e =
      each_if board 0xFF word at count (drop at m) memory-room
      (λ j b k.
      let lo : at ≤ at + j = omega arith in
      let hi : at + j < at + count = omega arith in
      let bound : at + j < memory_bytes board = omega arith in
      let white = each_all board 0xFF word at count (drop at w.values) values-room (and_true (each board 0xFF word at count (drop at w.values)) (sure_from board word count at w) e).0 j b k in
      get_or-drop at m j 0 ∙ s.cells (at + j) bound ∙ rw (surely-known e (at + j) lo hi k) (sym (get_or-drop at w.values j 0) ∙ white))

  -- where it is not, it fails on a board whose flash and RAM began as zero
  odd_not_blank : Zeros board m₀ → (i : ℕ) → at ≤ i → i < at + count → kept board word i ≡ false → ((known w i ≡ true) → get_or w.values i 0 ≡ 0xFF → ⊥) → blank board word at count m ≡ false
  unfolding blank
  odd_not_blank z i a b k odd =
      let bound : i < memory_bytes board = omega arith in
      let j : i - at < count = omega arith in
      let back : at + (i - at) ≡ i = omega arith in
      by_bool (each board 0xFF word at count (drop at m))
      (λ e.
      let is : get_or m i 0 ≡ 0xFF = ap (λ (x : ℕ). get_or m x 0) (sym back) ∙ sym (get_or-drop at m (i - at) 0) ∙ each_all board 0xFF word at count (drop at m) memory-room e (i - at) j (ap (kept board word) back ∙ k) in
      by_bool (known w i)
      (λ q. absurd (odd q (sym (rw q at (s.cells i bound)) ∙ is)))
      (λ q.
      among (options_from board) option_bytes i
      (λ lo hi.
      let o : i - options_from board < option_bytes = omega arith in
      let place : options_from board + (i - options_from board) ≡ i = omega arith in
      absurd (true≢false (sym (s.options (i - options_from board) o) ∙ ap (known w) place ∙ q)))
      (λ o. let zero_is : ◌≡◌ {A = ℕ} 0 0xFF = sym (z i bound o) ∙ sym (rw q at (s.cells i bound)) ∙ is in absurd (omega arith))))
      (λ e. e)

  blank_odd : blank board word at count w.values ≡ false → Odd board 0xFF word at count (drop at w.values)
  unfolding blank
  blank_odd x = each-not board 0xFF word at count (drop at w.values) x

  white_not : Zeros board m₀ → blank board word at count w.values ≡ false → blank board word at count m ≡ false
  white_not z a =
      let r = blank_odd a in
      odd_not_blank z (at + r.0) (omega arith) (omega (arith, r.1)) r.2 (λ q y. r.3 (get_or-drop at w.values r.0 0 ∙ y))

  pub surely-not : Zeros board m₀ → surely board word at count w ≡ false → blank board word at count m ≡ false
  unfolding surely
  surely-not z e =
      by_bool (blank board word at count w.values)
      (λ a.
      let r = sure_not board word w count at (rw a at e) in
      odd_not_blank z r.0 r.1 r.2 r.3 (λ q. absurd (true≢false (sym q ∙ r.4))))
      (λ a. white_not z a)

-- the options are the same on every board
module _ (board : Board) (sound : Sound board) (m₀ m : List ℕ) (w : Work) (s : Alike board m₀ m w) where
  pub option_same : (k : ℕ) → k < option_bytes → get_or m (options_from board + k) 0 ≡ get_or w.values (options_from board + k) 0
  option_same k h =
      let hi : options_from board + k < memory_bytes board = omega (arith, sound.options_in_memory) in
      s.cells (options_from board + k) hi ∙ rw (s.options k h)

  pub word_same : word_of board m ≡ word_of board w.values
  word_same = word_by_options board m w.values option_same

  pub protection_same : read_protected board m ≡ read_protected board w.values
  protection_same = protection_by_options board m w.values option_same
