-- The logger's board is sound, and its numbers as document 01 gives them: the one place where they are looked at together. Who lends an array of
-- such a size, or asks whether it is small enough, cites them from here. Assumes nothing.
use mathlib.Core.Path.{◌≡◌, refl}
use mathlib.Core.Logic.{inl, inr}
use Prim.Native.Nat.{◌+◌, ◌≤◌}
use native.Mathlib.Omega.{arith}
use Rattle.board.specs.Layout.{logger, flash_pages, page_bytes, page_offset, flash_bytes, flash_first, flash_from, ram_bytes, ram_from, options_from, memory_bytes}
use Rattle.board.specs.Memory.{ram_parts, part_from, part_bytes}
use Rattle.board.specs.Sound.{Sound}

pub logger-sound : Sound logger
unfolding flash_pages page_bytes page_offset flash_bytes flash_first flash_from ram_bytes ram_from options_from memory_bytes ram_parts part_from part_bytes
logger-sound =
    record {
      some-pages = omega arith;
      page_takes_two = omega arith;
      page_in_transfer = omega arith;
      flash_in_memory = omega arith;
      options_in_memory = omega arith;
      part_in_memory = λ k h. omega arith;
      flash_from_options = let z : flash_from logger + flash_bytes logger ≤ options_from logger = omega arith in inl z;
      part_from_flash = λ k h. let z : flash_from logger + flash_bytes logger ≤ ram_from logger = omega arith in inr z;
      part_from_options = λ k h. let z : ram_from logger + ram_bytes logger ≤ options_from logger = omega arith in inl z;
      flash_addresses = omega arith;
      memory_small = omega arith;
    }

-- "The board", table, row flash
pub logger-pages : flash_pages logger ≡ 16
unfolding flash_pages
logger-pages = refl

pub logger-first : flash_first logger ≡ 0x08000000
unfolding flash_first
logger-first = refl

pub logger_flash : flash_bytes logger ≡ 16384
unfolding flash_bytes page_offset flash_pages page_bytes
logger_flash = refl

-- "The caller lends memory (18,448 bytes)"
pub logger-memory : memory_bytes logger ≡ 18448
unfolding memory_bytes options_from ram_from ram_bytes flash_bytes page_offset flash_pages page_bytes
logger-memory = refl
