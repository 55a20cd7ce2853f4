-- What proofs ask of a board: no rule of the paper, and the promise of no call that a customer makes names it. Assumes nothing.
use Rattle.std.specs.Prelude.{ℕ, ◌+◌, ◌≤◌, ◌<◌}
use Rattle.laws.specs.Bytes.{Apart}
use Rattle.request.specs.Request.{transfer_bytes}
use Rattle.board.specs.declared.Board.{Board}
use Rattle.board.specs.Layout.{flash_pages, page_bytes, flash_bytes, flash_first, flash_from, option_bytes, options_from, memory_bytes}
use Rattle.board.specs.Memory.{ram_parts, part_from, part_bytes}

-- flash has pages, a page takes a write and goes into one transfer; flash, options and each part of RAM lie in memory, flash and options apart from
-- each other and from every part of RAM; the addresses of flash fit
pub record Sound (board : Board) : Type 0 where
  pub some-pages : 1 ≤ flash_pages board
  pub page_takes_two : 2 ≤ page_bytes board
  pub page_in_transfer : page_bytes board ≤ transfer_bytes
  pub flash_in_memory : flash_from board + flash_bytes board ≤ memory_bytes board
  pub options_in_memory : options_from board + option_bytes ≤ memory_bytes board
  pub part_in_memory : (k : ℕ) → k < ram_parts board → part_from board k + part_bytes board k ≤ memory_bytes board
  pub flash_from_options : Apart (flash_from board) (flash_bytes board) (options_from board) option_bytes
  pub part_from_flash : (k : ℕ) → k < ram_parts board → Apart (part_from board k) (part_bytes board k) (flash_from board) (flash_bytes board)
  pub part_from_options : (k : ℕ) → k < ram_parts board → Apart (part_from board k) (part_bytes board k) (options_from board) option_bytes
  pub flash_addresses : flash_first board + flash_bytes board < 0x100000000
  pub memory_small : memory_bytes board < 0x100000000
