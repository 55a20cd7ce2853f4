-- Which region a span of addresses lies in. Document 01, "The board" and the second of the read and write checks. Assumes nothing.
use Rattle.std.specs.Prelude.{Bool, ◌&&◌, cond, ℕ, ◌+◌, ◌-◌, leb}
use Rattle.board.specs.declared.Board.{Board}
use Rattle.board.specs.declared.Place.{Place}
use Rattle.board.specs.declared.Place.TheVariants.{Flash, Ram, Options, Outside}
use Rattle.board.specs.Layout.{flash_first, flash_bytes, flash_from, ram_first, ram_bytes, ram_from, options_first, option_bytes, options_from}

-- `count` addresses from `address` on lie in the region of `bytes` addresses from `first` on
unfoldable pub spans : ℕ → ℕ → ℕ → ℕ → Bool
spans first bytes address count = leb first address && leb (address - first + count) bytes

-- `count` addresses from `address` on lie in flash
unfoldable pub in_flash : Board → ℕ → ℕ → Bool
in_flash board address count = spans (flash_first board) (flash_bytes board) address count

-- "Read and write checks", 2: the region that the whole span lies in, if there is one, and where its first byte stands in the memory buffer
unfoldable pub place_of : Board → ℕ → ℕ → Place
place_of board address count =
    cond (spans (flash_first board) (flash_bytes board) address count) (Flash (flash_from board + (address - flash_first board)))
    (cond (spans (ram_first board) (ram_bytes board) address count) (Ram (ram_from board + (address - ram_first board)))
    (cond (spans (options_first board) option_bytes address count) (Options (options_from board + (address - options_first board)))
    Outside))
