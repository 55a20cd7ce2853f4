-- How the code keeps pieces: no rule of the paper. Assumes nothing.
use Rattle.std.specs.Prelude.{◌≡◌, cond, List, ℕ, ◌+◌, ◌-◌, ◌*◌, ◌≤◌, ◌<◌, eqb, length, get_or, Result, Ok, Err}
use Rattle.laws.specs.Bytes.{put}
use Rattle.bits.specs.Bits.{bit_at, some_set, Marked}
use Rattle.refusal.specs.declared.Refusal.{Refusal}
use Rattle.refusal.specs.declared.Refusal.TheVariants.{Outside, Twice}
use Rattle.refusal.specs.Order.{first_of}
use Rattle.board.specs.declared.Board.{Board}
use Rattle.board.specs.Layout.{flash_first, flash_bytes}
use Rattle.board.specs.Span.{in_flash}
use Rattle.pieces.specs.Image.{Piece, given, byte_at, larger, reach}
use Rattle.pieces.specs.Refusals.{none, with_piece, piece_refusals}

-- the answer to bytes from an address on, where an image ends so and these bits are set: a refusal, or where it ends then
unfoldable pub placing_of : Board → ℕ → List ℕ → ℕ → List ℕ → Result ℕ Refusal
placing_of board a xs end bits =
    cond (eqb (length xs) 0) (Ok end)
    (cond (in_flash board a (length xs)) (cond (some_set (a - flash_first board) (length xs) bits) (Err Twice) (Ok (larger end (a - flash_first board + length xs)))) (Err Outside))

-- the image after such an answer
abbrev pub laid_of : Board → Result ℕ Refusal → ℕ → List ℕ → List ℕ → List ℕ
laid_of board (Err r) a xs image = image
laid_of board (Ok end) a xs image = put (a - flash_first board) xs image

-- how many bits are set: those of bytes in flash, also where one of them was set before
abbrev pub marked_bytes : Board → ℕ → List ℕ → ℕ
marked_bytes board a xs = cond (in_flash board a (length xs)) (length xs) 0

-- laying bytes from an address on: the answer, the bits and the image
pub record Placing (board : Board) (a : ℕ) (xs : List ℕ) (end : ℕ) (bits image bits' image' : List ℕ) (r : Result ℕ Refusal) : Type 0 where
  pub answer : r ≡ placing_of board a xs end bits
  pub marks : Marked (a - flash_first board) (marked_bytes board a xs) bits bits'
  pub laid : image' ≡ laid_of board r a xs image

-- a bit for each flash byte, an image buffer and its end hold what these pieces give
pub record Holds (board : Board) (ps : List Piece) (bits image : List ℕ) (end : ℕ) : Type 0 where
  pub room : flash_bytes board ≤ length bits * 8
  pub size : length image ≡ flash_bytes board
  pub marks : (i : ℕ) → i < flash_bytes board → bit_at bits i ≡ given ps (flash_first board + i)
  pub bytes : (i : ℕ) → i < flash_bytes board → get_or image i 0 ≡ byte_at ps (flash_first board + i)
  pub ends : flash_first board + end ≡ reach board ps
  pub most : end ≤ flash_bytes board
  pub some : none ps ≡ eqb end 0

-- what laying a piece comes to: a refusal, or all holds with it, up to a new end
abbrev pub Placed : Board → ℕ → List ℕ → List Piece → List ℕ → List ℕ → Result ℕ Refusal → Type 0
Placed board a xs ps bits image (Err r) = first_of (piece_refusals board a xs ps) ≡ Err r
Placed board a xs ps bits image (Ok end) = (first_of (piece_refusals board a xs ps) ≡ Ok tt) × Holds board (with_piece a xs ps) bits image end

-- whatever was given before
abbrev pub Places : Board → ℕ → List ℕ → ℕ → List ℕ → List ℕ → List ℕ → List ℕ → Result ℕ Refusal → Type 0
Places board a xs end bits image bits' image' r = (ps : List Piece) → Holds board ps bits image end → Placed board a xs ps bits' image' r
