-- The image of some pieces, and that a buffer which holds them has it in front. Assumes nothing.
use mathlib.Core.Path.{◌≡◌, refl, ap, ◌∙◌, sym}
use mathlib.Core.List.{List, []}
use Prim.Native.Nat.{ℕ, zero, suc, ◌+◌, ◌-◌, ◌*◌, ◌≤◌, ◌<◌}
use native.Mathlib.Omega.{arith}
use native.Mathlib.Nat.{add-zero}
use lib.ListN.{length, take, get_or, replicate, length-replicate, get_or-replicate}
use lib.Seq.{ext_get_or, length-take-le, get_or-take}
use Rattle.bits.specs.Bits.{bit_at}
use Rattle.bits.proofs.Bits.{none-set}
use Rattle.board.specs.declared.Board.{Board}
use Rattle.board.specs.Layout.{flash_first, flash_bytes}
use Rattle.pieces.specs.Image.{Piece, given, byte_at, reach, bytes_from, image_of}
use Rattle.pieces.specs.Ways.{Holds}

pub from_length : (ps : List Piece) (a count : ℕ) → length (bytes_from ps a count) ≡ count
unfolding bytes_from
from_length ps a zero = refl
from_length ps a (suc count) = ap suc (from_length ps (suc a) count)

pub from_at : (ps : List Piece) (a count i : ℕ) → i < count → get_or (bytes_from ps a count) i 0 ≡ byte_at ps (a + i)
unfolding bytes_from
from_at ps a zero i h = absurd (omega arith)
from_at ps a (suc count) zero h = ap (byte_at ps) (sym (add-zero a))
from_at ps a (suc count) (suc i) h =
    let k : i < count = omega arith in
    let e : suc a + i ≡ a + suc i = omega arith in
    from_at ps (suc a) count i k ∙ ap (byte_at ps) e

-- where all holds, the image is in front of the buffer, and as long as its end says
module _ {board : Board} {ps : List Piece} {bits image : List ℕ} {end : ℕ} (h : Holds board ps bits image end) where
  ends_at : reach board ps - flash_first board ≡ end
  ends_at = let e = h.ends in omega arith

  pub image_length : length (image_of board ps) ≡ end
  unfolding image_of
  image_length = from_length ps (flash_first board) (reach board ps - flash_first board) ∙ ends_at

  image_at : (i : ℕ) → i < reach board ps - flash_first board → get_or (image_of board ps) i 0 ≡ byte_at ps (flash_first board + i)
  unfolding image_of
  image_at i x = from_at ps (flash_first board) (reach board ps - flash_first board) i x

  pub image_front : take (length (image_of board ps)) image ≡ image_of board ps
  image_front =
      let l = image_length in
      let m = h.most in
      let s = h.size in
      let room : length (image_of board ps) ≤ length image = omega arith in
      let k : length (take (length (image_of board ps)) image) ≡ length (image_of board ps) = length-take-le (length (image_of board ps)) image room in
      ext_get_or {A = ℕ} 0 (take (length (image_of board ps)) image) (image_of board ps) k
      (λ i u.
      let v : i < length (image_of board ps) = omega arith in
      let w : i < flash_bytes board = omega arith in
      let x : i < reach board ps - flash_first board = let e = ends_at in omega arith in
      get_or-take (length (image_of board ps)) image i 0 v ∙ h.bytes i w ∙ sym (image_at i x))

-- nothing given
pub holds_none : (board : Board) (m : ℕ) (bits image : List ℕ) → bits ≡ replicate m 0 → image ≡ replicate (flash_bytes board) 0xFF → flash_bytes board ≤ m * 8 → Holds board [] bits image 0
unfolding given byte_at reach
holds_none board m bits image b i room =
    let l : length bits ≡ m = ap length b ∙ length-replicate {A = ℕ} m 0 in
    record {
      room = let g : flash_bytes board ≤ length bits * 8 = omega arith in g;
      size = ap length i ∙ length-replicate {A = ℕ} (flash_bytes board) 0xFF;
      marks = λ j h. ap (λ (x : List ℕ). bit_at x j) b ∙ none-set m j;
      bytes = λ j h. ap (λ (x : List ℕ). get_or x j 0) i ∙ get_or-replicate {A = ℕ} (flash_bytes board) j 0xFF 0 h;
      ends = add-zero (flash_first board);
      most = omega arith;
      some = refl;
    }
