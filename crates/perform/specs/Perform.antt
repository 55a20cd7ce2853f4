-- What an action does to memory. Document 01, the paragraphs from "Read and write checks" to "Read unprotect". Assumes nothing.
use Rattle.std.specs.Prelude.{cond, List, ℕ, length, take}
use Rattle.laws.specs.Bytes.{put}
use Rattle.board.specs.declared.Board.{Board}
use Rattle.board.specs.Memory.{unprotected, ram_cleared}
use Rattle.protection.specs.Protection.{word_of}
use Rattle.mode.specs.Wire.{err_write}
use Rattle.action.specs.declared.Action.{Action}
use Rattle.action.specs.declared.Action.TheVariants.{Rest, Fail, Point, Erase, EraseAll, Unprotect, ClearRam, StoreFlash, StoreRam, StoreOptions}
use Rattle.flash.specs.Flash.{blank, stored, erased, erased_all}

-- the status of an action, and the memory after it
pub record Performed : Type 0 where
  pub status : ℕ
  pub memory : List ℕ

-- the two in one
abbrev pub performed : ℕ → List ℕ → Performed
performed status m = record { status = status; memory = m }

-- check 3, and then the write: xs to flash from place `at` on
abbrev pub written_of : Board → ℕ → ℕ → List ℕ → List ℕ → Performed
written_of board word at xs m = cond (blank board word at (length xs) m) (performed 0 (stored board word at xs m)) (performed err_write m)

-- an action on the memory m of a board; a write takes its bytes from the front of the block buffer b
abbrev pub performed_of : Board → Action → List ℕ → List ℕ → Performed
performed_of board Rest b m = performed 0 m
performed_of board (Fail status) b m = performed status m
performed_of board (Point address) b m = performed 0 m
performed_of board (Erase page) b m = performed 0 (erased board (word_of board m) page m)
performed_of board EraseAll b m = performed 0 (erased_all board (word_of board m) m)
performed_of board Unprotect b m = performed 0 (unprotected board m)
performed_of board ClearRam b m = performed 0 (ram_cleared board m)
performed_of board (StoreFlash at count) b m = written_of board (word_of board m) at (take count b) m
performed_of board (StoreRam at count) b m = performed 0 (put at (take count b) m)
performed_of board (StoreOptions at count) b m = performed 0 (put at (take count b) m)
