-- The board's regions. Document 01, "The board". A board is a value, and what is asked of it stands here and in the files beside; its numbers
-- are known in this crate alone. Assumes nothing.
use Rattle.std.specs.Prelude.{List, ◌∷◌, ℕ, ◌+◌, ◌*◌, ◌-◌, ◌/◌, ◌%◌, replicate}
use Rattle.board.specs.declared.Board.{Board}

-- "The board", table: flash has 16 pages; the one place that says so
abbrev pub logger : Board
logger = record { pages = 16 }

-- table, row flash: the number of its pages
unfoldable pub flash_pages : Board → ℕ
flash_pages board = board.pages

-- table, row flash: the size of a page
unfoldable pub page_bytes : Board → ℕ
page_bytes board = 1024

-- so many pages, in bytes; and so the offset in flash at which a page begins
unfoldable pub page_offset : Board → ℕ → ℕ
page_offset board page = page * page_bytes board

-- table, row flash: its size
unfoldable pub flash_bytes : Board → ℕ
flash_bytes board = page_offset board (flash_pages board)

-- table, row flash: its first address
unfoldable pub flash_first : Board → ℕ
flash_first board = 0x08000000

-- table, row flash, last column: where it begins in the memory buffer
unfoldable pub flash_from : Board → ℕ
flash_from board = 0

-- table, row RAM: its first address
unfoldable pub ram_first : Board → ℕ
ram_first board = 0x20000000

-- table, row RAM: its size
unfoldable pub ram_bytes : Board → ℕ
ram_bytes board = 2048

-- table, row RAM, last column
unfoldable pub ram_from : Board → ℕ
ram_from board = flash_bytes board

-- table, row options: their first address
unfoldable pub options_first : Board → ℕ
options_first board = 0x1FFFF800

-- table, row options: their number
abbrev pub option_bytes : ℕ
option_bytes = 16

-- table, row options, last column
unfoldable pub options_from : Board → ℕ
options_from board = ram_from board + ram_bytes board

-- "The caller lends memory"
unfoldable pub memory_bytes : Board → ℕ
memory_bytes board = options_from board + option_bytes

-- "Default options"
abbrev pub defaults : List ℕ
defaults = 0xAA ∷ replicate 15 0xFF

-- where a page begins in the memory buffer
abbrev pub page_from : Board → ℕ → ℕ
page_from board page = flash_from board + page_offset board page

-- the address of a page
abbrev pub page_address : Board → ℕ → ℕ
page_address board page = flash_first board + page_offset board page

-- the page that holds this place of the memory buffer, if it is one of flash; a place before flash counts to page 0, one behind it to none of flash
unfoldable pub page_at : Board → ℕ → ℕ
page_at board place = (place - flash_from board) / page_bytes board

-- how many pages so many bytes take, the last perhaps in part; the one place that rounds
unfoldable pub pages_of : Board → ℕ → ℕ
pages_of board count = (count + (page_bytes board - 1)) / page_bytes board

-- how many of so many bytes are left behind the last whole page
unfoldable pub page_rest : Board → ℕ → ℕ
page_rest board count = count % page_bytes board
