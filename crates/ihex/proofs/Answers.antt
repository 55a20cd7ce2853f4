-- What the reader answers, from a walk over the text. Assumes nothing.
use mathlib.Core.Path.{◌≡◌, ap, ◌∙◌, sym}
use mathlib.Core.List.{List}
use Prim.Native.Nat.{ℕ, ◌-◌, ◌≤◌, ◌<◌}
use native.Mathlib.Omega.{arith}
use native.Mathlib.Nat.{min-le_right}
use lib.ListN.{length, take, drop, length-take}
use Rattle.std.specs.Prelude.{Result, Ok, Err}
use Rattle.laws.specs.Bytes.{put}
use Rattle.refusal.specs.declared.Refusal.TheVariants.{Output}
use Rattle.refusal.specs.Order.{first_of}
use Rattle.refusal.specs.Delivery.{delivery}
use Rattle.refusal.proofs.Delivery.{counted-bytes, counted_refused, delivers_refusal, delivers_eleven, delivers_bytes}
use Rattle.pieces.specs.Image.{image_of}
use Rattle.ihex.specs.Reading.{hex_read_refusals, pieces_in, hex_read}
use Rattle.ihex.specs.declared.Fault.{Fault}
use Rattle.ihex.specs.Ways.{without_line, Walks}
use Rattle.board.specs.declared.Board.{Board}

module _ {board : Board} {t image : List ℕ} {w : Result ℕ Fault} (h : Walks board t w image) where
  pub walked_refused : (fault : Fault) (out : List ℕ) → w ≡ Err fault → delivery (Err fault.why) out ≡ hex_read board t out
  unfolding hex_read
  walked_refused fault out e = delivers_refusal (hex_read_refusals board t) _ out fault.why (counted_refused _ (length (image_of board (pieces_in t))) fault.why (sym h.answer ∙ ap without_line e))

  module _ (size : ℕ) (e : w ≡ Ok size) where
    free : first_of (hex_read_refusals board t) ≡ Ok tt
    free = (counted-bytes (first_of (hex_read_refusals board t)) (length (image_of board (pieces_in t))) size (sym h.answer ∙ ap without_line e)).0

    is : size ≡ length (image_of board (pieces_in t))
    is = (counted-bytes (first_of (hex_read_refusals board t)) (length (image_of board (pieces_in t))) size (sym h.answer ∙ ap without_line e)).1

    front : take size image ≡ image_of board (pieces_in t)
    front = ap (λ (k : ℕ). take k image) is ∙ h.front free

    pub walked_within : size ≤ length image
    walked_within =
        let l : length (take size image) ≡ size = ap length front ∙ sym is in
        let m = length-take size image in
        let r = min-le_right size (length image) in
        omega (arith, sym m ∙ l, r)

    pub walked_short : (out : List ℕ) → length out < size → delivery (Err Output) out ≡ hex_read board t out
    unfolding hex_read
    walked_short out s = delivers_eleven (hex_read_refusals board t) (image_of board (pieces_in t)) out free (let k = is in let g : length out < length (image_of board (pieces_in t)) = omega arith in g)

    pub walked_read : (out after : List ℕ) → size ≤ length out → after ≡ put 0 (take (size - 0) (drop 0 image)) out → delivery (Ok size) after ≡ hex_read board t out
    unfolding hex_read
    walked_read out after s laid =
        let z : size - 0 ≡ size = omega arith in
        let p : after ≡ put 0 (image_of board (pieces_in t)) out = laid ∙ ap (λ (k : ℕ). put 0 (take k image) out) z ∙ ap (λ (x : List ℕ). put 0 x out) front in
        delivers_bytes (hex_read_refusals board t) (image_of board (pieces_in t)) out free size after is (let k = is in let g : length (image_of board (pieces_in t)) ≤ length out = omega arith in g) p
