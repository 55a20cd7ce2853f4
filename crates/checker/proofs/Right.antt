-- Where the long comparisons all hold, no flash offset is suspect. Assumes nothing.
use mathlib.Core.Path.{◌≡◌, refl, ap, ◌∙◌, sym}
use mathlib.Core.Bool.{true, false}
use mathlib.Core.List.{List}
use Prim.Native.Nat.{ℕ, ◌+◌, ◌-◌, ◌≤◌, ◌<◌}
use native.Mathlib.Omega.{arith}
use lib.ListN.{length, take, drop, get_or, length-drop}
use lib.Seq.{get_or-take, get_or-drop}
use borrow.Author.Tests.{eq-eqb}
use Rattle.laws.specs.Lists.{same, all_are}
use Rattle.laws.proofs.Lists.{same_eq}
use Rattle.laws.proofs.Split.{by_lt}
use Rattle.board.specs.declared.Board.{Board}
use Rattle.board.specs.Layout.{flash_pages, pages_of, flash_bytes, flash_from, memory_bytes}
use Rattle.board.specs.Sound.{Sound}
use Rattle.board.proofs.Counts.{pages_in_flash}
use Rattle.board.proofs.Pages.{pages_hold, offset_rises, flash_is_pages}
use Rattle.compare.proofs.Alike.{are_at}
use Rattle.demand.specs.Verdict.{pages_end}
use Rattle.marks.specs.Work.{Work, known, all_known, none_known, Sized}
use Rattle.marks.proofs.Known.{all_known_lem, none-known}
use Rattle.judgement.specs.Judgement.{suspect, lowest_from}
use Rattle.judgement.proofs.Lowest.{lowest_none}
use Rattle.checker.specs.Walk.{InPlace}
use Rattle.checker.proofs.Walking.{suspect_image, suspect-rest, suspect_other}

-- the image's pages hold it, and lie in flash
pub image_in_pages : (board : Board) → Sound board → (image : List ℕ) → length image ≤ pages_end board image
image_in_pages board sound image = pages_hold board sound (length image)

pub pages_end_in_flash : (board : Board) → Sound board → (image : List ℕ) → length image ≤ flash_bytes board → pages_end board image ≤ flash_bytes board
pages_end_in_flash board sound image h =
    rw (flash_is_pages board) (offset_rises board (pages_of board (length image)) (flash_pages board) (pages_in_flash board sound (length image) h))

-- the two comparisons with a memory m
pub in_place_is : (board : Board) (flash behind end : ℕ) (m image : List ℕ) → flash ≡ flash_from board → behind ≡ flash + length image → length image ≤ end → flash + end ≤ length m → same (take (behind - flash) (drop flash m)) image ≡ true → all_are 0xFF (flash + end - behind) (drop behind m) ≡ true → InPlace board m image end
in_place_is board flash behind end m image f b low room front rest =
    record {
      image_laid = λ i h.
          let k : i < behind - flash = omega arith in
          ap (λ (x : ℕ). get_or m (x + i) 0) (sym f) ∙ sym (get_or-drop flash m i 0) ∙ sym (get_or-take (behind - flash) (drop flash m) i 0 k) ∙ ap (λ (x : List ℕ). get_or x i 0) (same_eq (take (behind - flash) (drop flash m)) image front);
      rest-erased = λ i a c.
          let r : flash + end - behind ≤ length (drop behind m) = rw length-drop (omega arith) in
          let k : i - length image < flash + end - behind = omega arith in
          let p : behind + (i - length image) ≡ flash + i = omega arith in
          ap (λ (x : ℕ). get_or m (x + i) 0) (sym f) ∙ ap (λ (j : ℕ). get_or m j 0) (sym p) ∙ sym (get_or-drop behind m (i - length image) 0) ∙ are_at 0xFF (flash + end - behind) (drop behind m) rest r (i - length image) k;
    }

module _ (board : Board) (sound : Sound board) (flash size end : ℕ) (image : List ℕ) (w : Work) (s : Sized board w) (short : length image ≤ flash_bytes board) (o : flash ≡ flash_from board) (z : size ≡ flash_bytes board) (p : end ≡ pages_end board image) (laid : InPlace board w.values image end) (all : all_known flash (flash + end - flash) w ≡ true) (none : none_known (flash + end) (flash + size - (flash + end)) w ≡ true) where
  end_low : length image ≤ end
  end_low = omega (arith, image_in_pages board sound image)

  end_high : end ≤ size
  end_high = omega (arith, pages_end_in_flash board sound image short)

  known_at : (f : ℕ) → f < end → known w (flash_from board + f) ≡ true
  known_at f h =
      let room : flash + (flash + end - flash) ≤ memory_bytes board = omega (arith, sound.flash_in_memory, end_high) in
      all_known_lem board flash (flash + end - flash) w s room all (flash_from board + f) (omega arith) (omega arith)

  other_at : (f : ℕ) → end ≤ f → f < size → known w (flash_from board + f) ≡ false
  other_at f h k =
      let room : flash + end + (flash + size - (flash + end)) ≤ memory_bytes board = omega (arith, sound.flash_in_memory, end_high) in
      none-known board (flash + end) (flash + size - (flash + end)) w s room none (flash_from board + f) (omega arith) (omega (arith, end_high))

  none-suspect : (f : ℕ) → f < size → suspect board image w f ≡ false
  none-suspect f h =
      let from = flash_from board in
      let k = known w (flash_from board + f) in
      let v = get_or w.values (flash_from board + f) 0 in
      by_lt f (length image)
      (λ a.
      let b : f < end = omega (arith, end_low) in
      sym (suspect_image board image w f from k v refl refl refl a) ∙ rw (known_at f b, eq-eqb (get_or w.values (flash_from board + f) 0) (get_or image f 0) (laid.image_laid f a)))
      (λ a.
      by_lt f end
      (λ b.
      let e : f < pages_end board image = omega arith in
      sym (suspect-rest board image w f from k v refl refl refl a e) ∙ rw (known_at f b, eq-eqb (get_or w.values (flash_from board + f) 0) 0xFF (laid.rest-erased f a b)))
      (λ b.
      let e : pages_end board image ≤ f = omega arith in
      sym (suspect_other board image w f from k v refl refl refl a e) ∙ other_at f b h))

  pub right_lowest : flash_bytes board ≡ lowest_from (suspect board image w) (flash_bytes board) 0
  right_lowest =
      let e : 0 + flash_bytes board ≡ flash_bytes board = omega arith in
      sym (lowest_none (suspect board image w) (flash_bytes board) 0 (λ k a b. none-suspect k (omega arith)) ∙ e)
