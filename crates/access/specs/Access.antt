-- The address of a block, and the first two of the read and write checks. Document 02, CR 3; document 01, "Read and write checks". Assumes nothing.
use Rattle.std.specs.Prelude.{Bool, cond, ◌&&◌, ℕ, ◌+◌, ◌-◌, ◌*◌, eqb, ltb}
use Rattle.board.specs.declared.Board.{Board}
use Rattle.board.specs.declared.Place.{Place}
use Rattle.board.specs.declared.Place.TheVariants.{Flash, Ram, Options, Outside}
use Rattle.board.specs.Layout.{options_from, option_bytes}
use Rattle.board.specs.Span.{place_of}
use Rattle.access.specs.declared.Access.{Access}
use Rattle.access.specs.declared.Access.TheVariants.{Denied, InFlash, InRam, InOptions}
use Rattle.request.specs.Request.{transfer_bytes}
use Rattle.mode.specs.Wire.{err_target, err_vendor}

-- AN3156, Read Memory and Write Memory: "((wBlockNum - 2) x wTransferSize) + Address_Pointer"; reads and writes share it
unfoldable pub block_address : ℕ → ℕ → ℕ → ℕ
block_address transfer block pointer = (block - 2) * transfer + pointer

-- "it touches options and is not all 16 from their start"
abbrev pub options_at : Board → ℕ → ℕ → Access
options_at board at count = cond (eqb at (options_from board) && eqb count option_bytes) (InOptions at) (Denied err_target)

-- check 2, of a span that lies at a place: "in flash or RAM and shorter than 2"
abbrev pub checked_of : Board → ℕ → Place → Access
checked_of board count (Flash at) = cond (ltb count 2) (Denied err_target) (InFlash at)
checked_of board count (Ram at) = cond (ltb count 2) (Denied err_target) (InRam at)
checked_of board count (Options at) = options_at board at count
checked_of board count Outside = Denied err_target

-- checks 1 and 2, "first that applies"
unfoldable pub access_of : Board → Bool → ℕ → ℕ → Access
access_of board protected address count = cond protected (Denied err_vendor) (checked_of board count (place_of board address count))

-- CR 3, "(wValue - 2) x 2,048 + pointer": what a block may be used for, by its address and then the checks; no other rule names the address
unfoldable pub block_access : Board → Bool → ℕ → ℕ → ℕ → Access
block_access board protected block count pointer = access_of board protected (block_address transfer_bytes block pointer) count
