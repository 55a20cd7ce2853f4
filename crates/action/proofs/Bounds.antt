-- The action of a well-formed device keeps within memory and block buffer. Assumes nothing.
use mathlib.Core.Path.{◌≡◌}
use mathlib.Core.Bool.{Bool, true, false, ◌&&◌}
use Prim.Native.Nat.{ℕ, ◌+◌, ◌≤◌, ◌<◌}
use native.Mathlib.Omega.{arith}
use lib.Dec.{leb}
use borrow.Author.Tests.{leb-true}
use Rattle.laws.proofs.Split.{by_bool, and_true}
use Rattle.board.specs.declared.Board.{Board}
use Rattle.board.specs.declared.Place.{Place}
use Rattle.board.specs.declared.Place.TheVariants.{Flash, Ram, Options, Outside}
use Rattle.board.specs.Layout.{flash_bytes, flash_from}
use Rattle.board.specs.Sound.{Sound}
use Rattle.board.specs.Span.{place_of}
use Rattle.board.proofs.Pages.{page_of_flash}
use Rattle.board.proofs.Span.{Lies, place_lies}
use Rattle.request.specs.Request.{transfer_bytes}
use Rattle.mode.specs.declared.Mode.{Mode}
use Rattle.device.specs.declared.Pending.{Pending}
use Rattle.device.specs.declared.Pending.TheVariants.{Nothing, SetPointer, ErasePage, MassErase, ReadUnprotect, Write}
use Rattle.device.specs.declared.Device.{Device}
use Rattle.mode.specs.Wire.{is_mode}
use Rattle.states.specs.WellFormed.{in_region, write_fits, pending_fits, status_fits, well_formed}
use Rattle.access.specs.declared.Access.{Access}
use Rattle.access.specs.declared.Access.TheVariants.{Denied, InFlash, InRam, InOptions}
use Rattle.access.specs.Access.{block_access}
use Rattle.action.specs.Action.{point_of, erase_at, erase_of, store_at, action_in, action_of, status_action}
use Rattle.access.proofs.Spans.{Reached, block_granted, granted_reached}
use Rattle.action.specs.Reach.{Fits}

point_fits : (board : Board) (address : ℕ) → Fits board (point_of board address)
point_fits board address =
    by_bool (in_region board address) (λ e. rw e (record { ends = omega arith; pages = omega arith; count = omega arith }))
    (λ e. rw e (record { ends = omega arith; pages = omega arith; count = omega arith }))

write_short : (mode : Mode) (block count : ℕ) → pending_fits mode (Write block count) ≡ true → count ≤ transfer_bytes
write_short mode block count e =
    let w = (and_true (is_mode 3 mode) (write_fits block count) e).1 in
    let c = (and_true (leb 2 block) (leb 1 count && leb count transfer_bytes) w).1 in
    leb-true _ _ (and_true (leb 1 count) (leb count transfer_bytes) c).1

module _ (board : Board) (sound : Sound board) where
  erase_at_fits : (place : Place) → Lies board 1 place → Fits board (erase_at board place)
  erase_at_fits (Flash at) l =
      let high : at < flash_from board + flash_bytes board = omega arith in
      record { ends = omega arith; pages = omega (arith, page_of_flash board sound at l.0 high); count = omega arith }
  erase_at_fits (Ram at) l = record { ends = omega arith; pages = omega arith; count = omega arith }
  erase_at_fits (Options at) l = record { ends = omega arith; pages = omega arith; count = omega arith }
  erase_at_fits Outside l = record { ends = omega arith; pages = omega arith; count = omega arith }

  erase-fits : (protected : Bool) (address : ℕ) → Fits board (erase_of board protected address)
  erase-fits true address = record { ends = omega arith; pages = omega arith; count = omega arith }
  erase-fits false address = erase_at_fits (place_of board address 1) (place_lies board sound address 1)

  store_fits : (count : ℕ) (access : Access) → Reached board count access → count ≤ transfer_bytes → Fits board (store_at access count)
  store_fits count (Denied status) r h = record { ends = omega arith; pages = omega arith; count = omega arith }
  store_fits count (InFlash at) r h = record { ends = r; pages = omega arith; count = h }
  store_fits count (InRam at) r h = record { ends = r; pages = omega arith; count = h }
  store_fits count (InOptions at) r h = record { ends = r; pages = omega arith; count = h }

  mass_fits : (protected : Bool) (pointer : ℕ) → Fits board (action_in MassErase board protected pointer)
  mass_fits true pointer = record { ends = omega arith; pages = omega arith; count = omega arith }
  mass_fits false pointer = record { ends = omega arith; pages = omega arith; count = omega arith }

  unprotect_fits : (protected : Bool) (pointer : ℕ) → Fits board (action_in ReadUnprotect board protected pointer)
  unprotect_fits true pointer = record { ends = omega arith; pages = omega arith; count = omega arith }
  unprotect_fits false pointer = record { ends = omega arith; pages = omega arith; count = omega arith }

  block-fits : (protected : Bool) (block count pointer : ℕ) → count ≤ transfer_bytes → Fits board (store_at (block_access board protected block count pointer) count)
  block-fits protected block count pointer h =
      let access = block_access board protected block count pointer in
      store_fits count access (granted_reached board sound count access (block_granted board sound protected block count pointer)) h

  action_in_fits : (protected : Bool) (pointer : ℕ) (mode : Mode) (pending : Pending) → pending_fits mode pending ≡ true → Fits board (action_in pending board protected pointer)
  action_in_fits protected pointer mode Nothing e = record { ends = omega arith; pages = omega arith; count = omega arith }
  action_in_fits protected pointer mode (SetPointer address) e = point_fits board address
  action_in_fits protected pointer mode (ErasePage address) e = erase-fits protected address
  action_in_fits protected pointer mode MassErase e = mass_fits protected pointer
  action_in_fits protected pointer mode ReadUnprotect e = unprotect_fits protected pointer
  action_in_fits protected pointer mode (Write block count) e = block-fits protected block count pointer (write_short mode block count e)

  pub action_fits : (protected : Bool) (d : Device) → well_formed board d ≡ true → Fits board (action_of board protected d)
  unfolding well_formed action_of
  action_fits protected d w =
      let p = (and_true (in_region board d.pointer) (pending_fits d.mode d.pending && status_fits d.mode d.status) w).1 in
      action_in_fits protected d.pointer d.mode d.pending (and_true (pending_fits d.mode d.pending) (status_fits d.mode d.status) p).0

  pub status_action_fits : (protected : Bool) (d : Device) → well_formed board d ≡ true → Fits board (status_action board protected d)
  unfolding status_action
  status_action_fits protected d w =
      by_bool (is_mode 3 d.mode) (λ e. rw e (action_fits protected d w)) (λ e. rw e (record { ends = omega arith; pages = omega arith; count = omega arith }))
