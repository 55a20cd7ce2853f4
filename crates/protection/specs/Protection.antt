-- What the option bytes protect. Document 01, "The board", our option layout. Assumes nothing.
use Rattle.std.specs.Prelude.{Bool, false, not, ◌||◌, List, ℕ, zero, suc, ◌+◌, ◌*◌, ◌/◌, ◌%◌, ◌^◌, eqb, get_or}
use Rattle.board.specs.declared.Board.{Board}
use Rattle.board.specs.Layout.{options_from}

-- "byte 0 is 0xAA for no read protection, any other value for protected"; the option bytes stand in m from place `from` on
unfoldable pub locked_from : ℕ → List ℕ → Bool
locked_from from m = not (eqb (get_or m from 0) 0xAA)

-- "Bytes 8 and 9, low byte first"
unfoldable pub word_from : Board → ℕ → List ℕ → ℕ
word_from board from m = get_or m (from + 8) 0 + get_or m (from + 9) 0 * 256

-- read protection of the memory buffer m
unfoldable pub read_protected : Board → List ℕ → Bool
read_protected board m = locked_from (options_from board) m

-- and the protection word of the memory buffer m
unfoldable pub word_of : Board → List ℕ → ℕ
word_of board m = word_from board (options_from board) m

-- "hold one bit a page; a clear bit write-protects that page"
unfoldable pub write_protected : ℕ → ℕ → Bool
write_protected word page = eqb (word / 2 ^ page % 2) 0

-- one of `count` pages from `page` on is write-protected
unfoldable pub any_protected : ℕ → ℕ → ℕ → Bool
any_protected word zero page = false
any_protected word (suc count) page = write_protected word page || any_protected word count (suc page)

-- "Bytes 8 and 9 .. hold one bit a page": the one that holds the bit of this page, eight pages a byte
abbrev pub option_of : Board → ℕ → ℕ
option_of board page = 8 + page / 8 % 2
