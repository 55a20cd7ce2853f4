-- What is known of all boards once a page was erased and its bytes written. Assumes nothing.
use mathlib.Core.Path.{◌≡◌, refl, ◌∙◌, sym}
use mathlib.Core.Bool.{true, false}
use mathlib.Core.Logic.{inl, inr, ⊎_elim}
use mathlib.Core.List.{List, [], ◌∷◌}
use Prim.Native.Nat.{ℕ, zero, suc, ◌+◌, ◌-◌, ◌≤◌, ◌<◌}
use native.Mathlib.Omega.{arith}
use native.Mathlib.Nat.{not-suc-le-zero, le_of_suc-le-suc}
use lib.ListN.{length, drop, get_or, replicate, length-replicate, get_or-replicate, length-drop, get_or-eq_default}
use lib.Seq.{get_or-drop}
use Rattle.laws.specs.Bytes.{put}
use Rattle.laws.proofs.Bytes.{put-length}
use Rattle.laws.proofs.Places.{Outside}
use Rattle.laws.proofs.Split.{by_lt}
use Rattle.board.specs.declared.Board.{Board}
use Rattle.board.specs.Layout.{flash_pages, page_bytes, page_from, memory_bytes}
use Rattle.board.specs.Sound.{Sound}
use Rattle.board.proofs.Pages.{page_in_memory}
use Rattle.protection.specs.Protection.{write_protected}
use Rattle.request.specs.Request.{transfer_bytes}
use Rattle.flash.specs.Flash.{kept, each, blank, stored}
use Rattle.flash.proofs.Places.{stored-length, stored_outside, stored_puts, each_if}
use Rattle.marks.specs.Work.{Work, known, valued, blocked, learnt, Sized}
use Rattle.marks.proofs.Known.{valued-known, blocked-known, valued_sized, blocked_sized, learnt_sized, learnt-known, learnt_known_outside, learnt_value, learnt_value_outside}
use Rattle.cells.specs.Cells.{surely, page_erased}
use Rattle.cells.proofs.Sure.{sure_if}

-- `count` places from `from` on are known with their values, and all others are as they were
pub record Learns (board : Board) (from count : ℕ) (value : ℕ → ℕ) (w w' : Work) : Type 0 where
  pub sized : Sized board w'
  pub values : (i : ℕ) → from ≤ i → i < from + count → get_or w'.values i 0 ≡ value i
  pub knows : (i : ℕ) → from ≤ i → i < from + count → known w' i ≡ true
  pub values_elsewhere : (i : ℕ) → Outside from count i → get_or w'.values i 0 ≡ get_or w.values i 0
  pub knows_elsewhere : (i : ℕ) → Outside from count i → known w' i ≡ known w i

-- equal bytes, learnt
fill_learns : (board : Board) (from count v : ℕ) (w : Work) → from + count ≤ memory_bytes board → Sized board w → Learns board from count (λ i. v) w (learnt from (replicate count v) w)
fill_learns board from count v w h s =
    let c : length (replicate count v) ≡ count = length-replicate {A = ℕ} count v in
    let room : from + length (replicate count v) ≤ memory_bytes board = omega arith in
    record {
      sized = learnt_sized board from (replicate count v) w room s;
      values = λ i a b.
          let b' : i < from + length (replicate count v) = omega arith in
          let j : i - from < count = omega arith in
          learnt_value board from (replicate count v) w room s i a b' ∙ get_or-replicate count (i - from) v 0 j;
      knows = λ i a b.
          let b' : i < from + length (replicate count v) = omega arith in
          learnt-known board from (replicate count v) w room s i a b';
      values_elsewhere = λ i o. learnt_value_outside board from (replicate count v) w room s i (rw c o);
      knows_elsewhere = λ i o. learnt_known_outside board from (replicate count v) w room s i (rw c o);
    }

pub erase_learns : (board : Board) → Sound board → (word page : ℕ) (w : Work) → page < flash_pages board → write_protected word page ≡ false → Sized board w → Learns board (page_from board page) (page_bytes board) (λ i. 0xFF) w (page_erased board word page w)
unfolding page_erased
erase_learns board sound word page w h free s =
    rw free (fill_learns board (page_from board page) (page_bytes board) 0xFF w (page_in_memory board sound page h) s)

-- another block leaves what is known
pub block_learns : (board : Board) (from count : ℕ) (value : ℕ → ℕ) (xs : List ℕ) (w w' : Work) → length xs ≤ transfer_bytes → Learns board from count value w w' → Learns board from count value w (blocked (put 0 xs w'.block) w')
block_learns board from count value xs w w' h l =
    let b : List ℕ = put 0 xs w'.block in
    let room : 0 + length xs ≤ length w'.block = omega (arith, l.sized.block) in
    record {
      sized = blocked_sized board b w' (put-length 0 xs w'.block room ∙ l.sized.block) l.sized;
      values = l.values;
      knows = λ i p q. blocked-known b w' i ∙ l.knows i p q;
      values_elsewhere = l.values_elsewhere;
      knows_elsewhere = λ i o. blocked-known b w' i ∙ l.knows_elsewhere i o;
    }

-- bytes that are known to be erased pass the test on every board
pub white_surely : (board : Board) (word at count all : ℕ) (w w' : Work) → count ≤ all → at + all ≤ memory_bytes board → Learns board at all (λ i. 0xFF) w w' → surely board word at count w' ≡ true
unfolding surely blank
white_surely board word at count all w w' h r l =
    let room : count ≤ length (drop at w'.values) = rw length-drop (omega (arith, l.sized.values)) in
    let white : each board 0xFF word at count (drop at w'.values) ≡ true =
    each_if board 0xFF word at count (drop at w'.values) room
    (λ j b k. let lo : at ≤ at + j = omega arith in let hi : at + j < at + all = omega arith in get_or-drop at w'.values j 0 ∙ l.values (at + j) lo hi) in
    rw (white, sure_if board word w' count at (λ i a b k. l.knows i a (omega arith)))

-- within a list, its default does not matter
pub default_same : (xs : List ℕ) (i d e : ℕ) → i < length xs → get_or xs i d ≡ get_or xs i e
default_same [] i d e h = absurd (not-suc-le-zero h)
default_same (x ∷ xs) zero d e h = refl
default_same (x ∷ xs) (suc i) d e h = default_same xs i d e (le_of_suc-le-suc h)

-- bytes stored in an erased page: the rest of it stays erased
pub store_learns : (board : Board) (word at all : ℕ) (xs : List ℕ) (w w' : Work) → length xs ≤ all → at + all ≤ memory_bytes board → ((i : ℕ) → at ≤ i → i < at + all → kept board word i ≡ false) → Learns board at all (λ i. 0xFF) w w' → Learns board at all (λ i. get_or xs (i - at) 0xFF) w (valued (stored board word at xs w'.values) w')
store_learns board word at all xs w w' h r free l =
    let m : List ℕ = w'.values in
    let m' : List ℕ = stored board word at xs w'.values in
    let room : at + length xs ≤ length w'.values = omega (arith, l.sized.values) in
    let narrow : (i : ℕ) → Outside at all i → Outside at (length xs) i =
    λ i o. ⊎_elim (λ a. inl a) (λ a. let z : at + length xs ≤ i = omega arith in inr z) o in
    record {
      sized = valued_sized board m' w' (stored-length board word xs at m room ∙ l.sized.values) l.sized;
      values = λ i a b.
          by_lt i (at + length xs)
          (λ c.
          let j : i - at < length xs = omega arith in
          stored_puts board word xs at m i room a c (free i a b) ∙ default_same xs (i - at) 0 0xFF j)
          (λ c.
          let j : length xs ≤ i - at = omega arith in
          stored_outside board word xs at m i room (inr c) ∙ l.values i a b ∙ sym (get_or-eq_default xs 0xFF j));
      knows = λ i a b. valued-known m' w' i ∙ l.knows i a b;
      values_elsewhere = λ i o. stored_outside board word xs at m i room (narrow i o) ∙ l.values_elsewhere i o;
      knows_elsewhere = λ i o. valued-known m' w' i ∙ l.knows_elsewhere i o;
    }
