-- Which bytes are given, and the image that they make. Document 02, CR 1. Assumes nothing.
use Rattle.std.specs.Prelude.{Bool, false, cond, ◌||◌, List, [], ◌∷◌, ℕ, zero, suc, ◌+◌, ◌-◌, ltb, length, get_or}
use Rattle.bits.specs.Bits.{within}
use Rattle.board.specs.declared.Board.{Board}
use Rattle.board.specs.Layout.{flash_first}

-- what a data record gives: the address of its first byte, and its bytes
pub record Piece : Type 0 where
  pub address : ℕ
  pub bytes : List ℕ

-- the byte at an address is given by a piece
unfoldable pub gives : Piece → ℕ → Bool
gives p a = within p.address (length p.bytes) a

-- it is given by one of these
unfoldable pub given : List Piece → ℕ → Bool
given [] a = false
given (p ∷ ps) a = gives p a || given ps a

-- the byte given at an address; "gaps as 0xFF"
unfoldable pub byte_at : List Piece → ℕ → ℕ
byte_at [] a = 0xFF
byte_at (p ∷ ps) a = cond (gives p a) (get_or p.bytes (a - p.address) 0) (byte_at ps a)

-- the larger of two
abbrev pub larger : ℕ → ℕ → ℕ
larger a b = cond (ltb a b) b a

-- the address behind "the highest byte given"; the first flash address where none is
unfoldable pub reach : Board → List Piece → ℕ
reach board [] = flash_first board
reach board (p ∷ ps) = larger (reach board ps) (p.address + length p.bytes)

-- the bytes at `count` addresses
unfoldable pub bytes_from : List Piece → ℕ → ℕ → List ℕ
bytes_from ps a zero = []
bytes_from ps a (suc count) = byte_at ps a ∷ bytes_from ps (suc a) count

-- "lay the data into an image buffer": from the first flash address on; "The image length runs to the highest byte given"
unfoldable pub image_of : Board → List Piece → List ℕ
image_of board ps = bytes_from ps (flash_first board) (reach board ps - flash_first board)
