-- What a pending command would do to memory, pointer and mode. Document 01, the paragraphs from "Read and write checks" to "Read unprotect". Assumes nothing.
use Rattle.std.specs.Prelude.{Bool, true, false, cond, ℕ}
use Rattle.board.specs.declared.Board.{Board}
use Rattle.board.specs.declared.Place.{Place}
use Rattle.board.specs.declared.Place.TheVariants.{Flash, Ram, Options, Outside}
use Rattle.board.specs.Layout.{flash_pages, page_at}
use Rattle.board.specs.Span.{place_of}
use Rattle.device.specs.declared.Pending.{Pending}
use Rattle.device.specs.declared.Pending.TheVariants.{Nothing, SetPointer, ErasePage, MassErase, ReadUnprotect, Write}
use Rattle.device.specs.declared.Device.{Device}
use Rattle.access.specs.declared.Access.{Access}
use Rattle.access.specs.declared.Access.TheVariants.{Denied, InFlash, InRam, InOptions}
use Rattle.action.specs.declared.Span.{Span}
use Rattle.action.specs.declared.Pages.{Pages}
use Rattle.action.specs.declared.Action.{Action}
use Rattle.action.specs.declared.Action.TheVariants.{Rest, Fail, Point, Erase, EraseAll, Unprotect, ClearRam, StoreFlash, StoreRam, StoreOptions}
use Rattle.device.specs.declared.Ran.{Ran}
use Rattle.decision.specs.declared.Decision.{Decision}
use Rattle.decision.specs.Decide.{is_status}
use Rattle.mode.specs.Wire.{is_mode, err_target, err_vendor}
use Rattle.states.specs.WellFormed.{in_region}
use Rattle.access.specs.Access.{block_access}

-- "Set pointer: outside every region is 1; read protection does not matter"
abbrev pub point_of : Board → ℕ → Action
point_of board address = cond (in_region board address) (Point address) (Fail err_target)

-- "Erase page .. address outside flash is 1; the page holding the address"
abbrev pub erase_at : Board → Place → Action
erase_at board (Flash at) = Erase (page_at board at)
erase_at board (Ram at) = Fail err_target
erase_at board (Options at) = Fail err_target
erase_at board Outside = Fail err_target

-- "Erase page: protection on is 11"
abbrev pub erase_of : Board → Bool → ℕ → Action
erase_of board protected address = cond protected (Fail err_vendor) (erase_at board (place_of board address 1))

-- a write whose span passed the first two checks; the third is made where the flash is
abbrev pub store_at : Access → ℕ → Action
store_at (Denied status) count = Fail status
store_at (InFlash at) count = StoreFlash at count
store_at (InRam at) count = StoreRam at count
store_at (InOptions at) count = StoreOptions at count

-- what each pending command does, with read protection on or off and the pointer
abbrev pub action_in : Pending → Board → Bool → ℕ → Action
action_in Nothing board protected pointer = Rest
action_in (SetPointer address) board protected pointer = point_of board address
action_in (ErasePage address) board protected pointer = erase_of board protected address
action_in MassErase board protected pointer = cond protected (Fail err_vendor) EraseAll
action_in ReadUnprotect board protected pointer = cond protected Unprotect ClearRam
action_in (Write block count) board protected pointer = store_at (block_access board protected block count pointer) count

-- what the device's pending command does
unfoldable pub action_of : Board → Bool → Device → Action
action_of board protected d = action_in d.pending board protected d.pointer

-- "GETSTATUS", "In mode 3 the command runs first": what a GETSTATUS runs; in the other modes nothing waits
unfoldable pub status_action : Board → Bool → Device → Action
status_action board protected d = cond (is_mode 3 d.mode) (action_of board protected d) Rest

-- where the pointer is after an action
abbrev pub moved_of : Action → ℕ → ℕ
moved_of Rest pointer = pointer
moved_of (Fail status) pointer = pointer
moved_of (Point address) pointer = address
moved_of (Erase page) pointer = pointer
moved_of EraseAll pointer = pointer
moved_of Unprotect pointer = pointer
moved_of ClearRam pointer = pointer
moved_of (StoreFlash at count) pointer = pointer
moved_of (StoreRam at count) pointer = pointer
moved_of (StoreOptions at count) pointer = pointer

-- "Rebooting after an options write or a read unprotect"
abbrev pub reboots_of : Action → Bool
reboots_of Rest = false
reboots_of (Fail status) = false
reboots_of (Point address) = false
reboots_of (Erase page) = false
reboots_of EraseAll = false
reboots_of Unprotect = true
reboots_of ClearRam = true
reboots_of (StoreFlash at count) = false
reboots_of (StoreRam at count) = false
reboots_of (StoreOptions at count) = true

-- what running the command came to, given the status of acting on memory
abbrev pub ran_of : Action → ℕ → ℕ → Ran
ran_of action pointer status = record { status = status; pointer = moved_of action pointer; reboots = reboots_of action }

-- the action that a request runs which comes to this decision
unfoldable pub due_of : Board → Bool → Device → Decision → Action
due_of board protected d x = cond (is_status x) (status_action board protected d) Rest

-- so many bytes, to place `at` of memory on
abbrev pub span : ℕ → ℕ → Span
span at count = record { at = at; count = count }

-- "A write then stores its bytes": which of memory, from the front of the block buffer
abbrev pub writes_of : Action → Span
writes_of Rest = span 0 0
writes_of (Fail status) = span 0 0
writes_of (Point address) = span 0 0
writes_of (Erase page) = span 0 0
writes_of EraseAll = span 0 0
writes_of Unprotect = span 0 0
writes_of ClearRam = span 0 0
writes_of (StoreFlash at count) = span at count
writes_of (StoreRam at count) = span at count
writes_of (StoreOptions at count) = span at count

-- so many pages from a first one on
abbrev pub pages : ℕ → ℕ → Pages
pages first count = record { first = first; count = count }

-- "Erase page", "Mass erase", "Read unprotect: if protected, all flash": which pages
abbrev pub erases_of : Board → Action → Pages
erases_of board Rest = pages 0 0
erases_of board (Fail status) = pages 0 0
erases_of board (Point address) = pages 0 0
erases_of board (Erase page) = pages page 1
erases_of board EraseAll = pages 0 (flash_pages board)
erases_of board Unprotect = pages 0 (flash_pages board)
erases_of board ClearRam = pages 0 0
erases_of board (StoreFlash at count) = pages 0 0
erases_of board (StoreRam at count) = pages 0 0
erases_of board (StoreOptions at count) = pages 0 0

-- "except in write-protected pages", "or stays if write-protected", "every page not write-protected"; but "write-protected pages too"
abbrev pub spares_of : Action → Bool
spares_of Rest = false
spares_of (Fail status) = false
spares_of (Point address) = false
spares_of (Erase page) = true
spares_of EraseAll = true
spares_of Unprotect = false
spares_of ClearRam = false
spares_of (StoreFlash at count) = true
spares_of (StoreRam at count) = false
spares_of (StoreOptions at count) = false
