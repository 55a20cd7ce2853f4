-- What the memory buffer holds of a board, and what read unprotect leaves there. Document 01, "The board" and the paragraph "Set pointer", its
-- last sentence. Assumes nothing.
use Rattle.std.specs.Prelude.{cond, List, ℕ, zero, suc, ◌+◌, ◌-◌, take, drop, get_or}
use Rattle.laws.specs.Bytes.{put, filled}
use Rattle.board.specs.declared.Board.{Board}
use Rattle.board.specs.declared.Place.TheVariants.{Flash, Ram, Options, Outside}
use Rattle.board.specs.declared.Stretch.{Stretch}
use Rattle.board.specs.Layout.{flash_first, flash_bytes, flash_from, page_from, page_at, ram_first, ram_from, ram_bytes, options_first, options_from, option_bytes, defaults}
use Rattle.board.specs.Span.{spans}

-- the byte at a flash offset
abbrev pub flash_at : Board → List ℕ → ℕ → ℕ
flash_at board m f = get_or m (flash_from board + f) 0

-- the option bytes of the memory m
unfoldable pub options_of : Board → List ℕ → List ℕ
options_of board m = take option_bytes (drop (options_from board) m)

-- how many parts of memory are RAM
unfoldable pub ram_parts : Board → ℕ
ram_parts board = 1

-- where part k of it begins
unfoldable pub part_from : Board → ℕ → ℕ
part_from board k = ram_from board

-- the size of part k
unfoldable pub part_bytes : Board → ℕ → ℕ
part_bytes board k = ram_bytes board

-- `count` parts from part k on become zero
unfoldable pub cleared_from : Board → ℕ → ℕ → List ℕ → List ℕ
cleared_from board zero k m = m
cleared_from board (suc count) k m = cleared_from board count (suc k) (filled (part_from board k) (part_bytes board k) 0 m)

-- "if not, RAM zero only"
unfoldable pub ram_cleared : Board → List ℕ → List ℕ
ram_cleared board m = cleared_from board (ram_parts board) 0 m

-- "all flash 0xFF (write-protected pages too)"
unfoldable pub flash_erased : Board → List ℕ → List ℕ
flash_erased board m = filled (flash_from board) (flash_bytes board) 0xFF m

-- "options default"
unfoldable pub options_reset : Board → List ℕ → List ℕ
options_reset board m = put (options_from board) defaults m

-- "if protected, all flash 0xFF (write-protected pages too), RAM zero, options default"
unfoldable pub unprotected : Board → List ℕ → List ℕ
unprotected board m = options_reset board (ram_cleared board (flash_erased board m))

-- table, last column, read backwards: the page, the RAM or the options that hold a place, and the place's address
unfoldable pub stretch_at : Board → ℕ → Stretch
stretch_at board place =
    cond (spans (flash_from board) (flash_bytes board) place 1) (record { region = Flash place; end = page_from board (page_at board place + 1); address = flash_first board + (place - flash_from board) })
    (cond (spans (ram_from board) (ram_bytes board) place 1) (record { region = Ram place; end = ram_from board + ram_bytes board; address = ram_first board + (place - ram_from board) })
    (cond (spans (options_from board) option_bytes place 1) (record { region = Options place; end = options_from board + option_bytes; address = options_first board + (place - options_from board) })
    (record { region = Outside; end = place; address = 0 })))
