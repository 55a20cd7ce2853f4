-- Which states are well formed. Document 01, "The board", last paragraph. Assumes nothing.
use Rattle.std.specs.Prelude.{Bool, true, false, cond, not, ◌&&◌, ◌||◌, ℕ, eqb, leb}
use Rattle.board.specs.declared.Board.{Board}
use Rattle.board.specs.declared.Place.{Place}
use Rattle.board.specs.declared.Place.TheVariants.{Flash, Ram, Options, Outside}
use Rattle.board.specs.Span.{place_of}
use Rattle.request.specs.Request.{transfer_bytes}
use Rattle.mode.specs.declared.Mode.{Mode}
use Rattle.device.specs.declared.Pending.{Pending}
use Rattle.device.specs.declared.Pending.TheVariants.{Nothing, SetPointer, ErasePage, MassErase, ReadUnprotect, Write}
use Rattle.device.specs.declared.Device.{Device}
use Rattle.mode.specs.Wire.{is_mode, err_target, err_write, err_vendor, err_stalledpkt}

-- a place in one of the regions
abbrev pub is_place : Place → Bool
is_place (Flash at) = true
is_place (Ram at) = true
is_place (Options at) = true
is_place Outside = false

-- "the pointer lies in a region"
unfoldable pub in_region : Board → ℕ → Bool
in_region board address = is_place (place_of board address 1)

-- "a pending write has block number 2 or more and length 1 to 2,048"
abbrev pub write_fits : ℕ → ℕ → Bool
write_fits block count = leb 2 block && (leb 1 count && leb count transfer_bytes)

-- "a command is pending exactly in mode 3"
abbrev pub pending_fits : Mode → Pending → Bool
pending_fits mode Nothing = not (is_mode 3 mode)
pending_fits mode (SetPointer address) = is_mode 3 mode
pending_fits mode (ErasePage address) = is_mode 3 mode
pending_fits mode MassErase = is_mode 3 mode
pending_fits mode ReadUnprotect = is_mode 3 mode
pending_fits mode (Write block count) = is_mode 3 mode && write_fits block count

-- "the status is 1, 3, 11 or 15 in mode 10 and 0 elsewhere"
abbrev pub status_fits : Mode → ℕ → Bool
status_fits mode status =
    cond (is_mode 10 mode) (eqb status err_target || (eqb status err_write || (eqb status err_vendor || eqb status err_stalledpkt)))
    (eqb status 0)

-- "Well formed", in the order of its sentence
unfoldable pub well_formed : Board → Device → Bool
well_formed board d = in_region board d.pointer && (pending_fits d.mode d.pending && status_fits d.mode d.status)
