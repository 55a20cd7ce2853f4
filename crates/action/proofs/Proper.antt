-- What the action of any device comes to is a state that a loader can be in. Assumes nothing.
use mathlib.Core.Path.{◌≡◌, refl}
use mathlib.Core.Bool.{Bool, true, false, true≢false}
use Prim.Native.Nat.{ℕ}
use lib.Dec.{T}
use Rattle.laws.proofs.Split.{by_bool}
use Rattle.board.specs.declared.Board.{Board}
use Rattle.board.specs.declared.Place.{Place}
use Rattle.board.specs.declared.Place.TheVariants.{Flash, Ram, Options, Outside}
use Rattle.board.specs.Span.{place_of}
use Rattle.mode.specs.declared.Mode.TheVariants.{Error}
use Rattle.mode.specs.Wire.{is_mode}
use Rattle.device.specs.declared.Device.{Device}
use Rattle.device.specs.declared.Pending.{Pending}
use Rattle.device.specs.declared.Pending.TheVariants.{Nothing, SetPointer, ErasePage, MassErase, ReadUnprotect, Write}
use Rattle.states.specs.WellFormed.{in_region, status_fits}
use Rattle.states.proofs.Form.{Sane}
use Rattle.access.specs.declared.Access.{Access}
use Rattle.access.specs.declared.Access.TheVariants.{Denied, InFlash, InRam, InOptions}
use Rattle.access.specs.Access.{block_access}
use Rattle.action.specs.declared.Action.{Action}
use Rattle.action.specs.declared.Action.TheVariants.{Rest, Fail, Point, Erase, EraseAll, Unprotect, ClearRam, StoreFlash, StoreRam, StoreOptions}
use Rattle.action.specs.Action.{point_of, erase_at, store_at, action_in, action_of, status_action, moved_of, ran_of}
use Rattle.action.proofs.Denials.{Refusing, block_refusing}

-- an action whose own status is one of the error mode's, and whose pointer lies in a region
abbrev pub Proper : Board → Action → Type 0
Proper board Rest = T true
Proper board (Fail status) = status_fits Error status ≡ true
Proper board (Point address) = in_region board address ≡ true
Proper board (Erase page) = T true
Proper board EraseAll = T true
Proper board Unprotect = T true
Proper board ClearRam = T true
Proper board (StoreFlash at count) = T true
Proper board (StoreRam at count) = T true
Proper board (StoreOptions at count) = T true

store_proper : (board : Board) (count : ℕ) (access : Access) → Refusing access → Proper board (store_at access count)
store_proper board count (Denied status) r = r
store_proper board count (InFlash at) r = tt
store_proper board count (InRam at) r = tt
store_proper board count (InOptions at) r = tt

point_proper : (board : Board) (address : ℕ) → Proper board (point_of board address)
point_proper board address = by_bool (in_region board address) (λ e. rw e e) (λ e. rw e refl)

erase_at_proper : (board : Board) (place : Place) → Proper board (erase_at board place)
erase_at_proper board (Flash at) = tt
erase_at_proper board (Ram at) = refl
erase_at_proper board (Options at) = refl
erase_at_proper board Outside = refl

action_proper : (board : Board) (protected : Bool) (pointer : ℕ) (pending : Pending) → Proper board (action_in pending board protected pointer)
action_proper board protected pointer Nothing = tt
action_proper board protected pointer (SetPointer address) = point_proper board address
action_proper board true pointer (ErasePage address) = refl
action_proper board false pointer (ErasePage address) = erase_at_proper board (place_of board address 1)
action_proper board true pointer MassErase = refl
action_proper board false pointer MassErase = tt
action_proper board true pointer ReadUnprotect = tt
action_proper board false pointer ReadUnprotect = tt
action_proper board protected pointer (Write block count) =
    store_proper board count (block_access board protected block count pointer) (block_refusing board protected block count pointer)

pub status_action_proper : (board : Board) (protected : Bool) (d : Device) → Proper board (status_action board protected d)
unfolding status_action action_of
status_action_proper board protected d =
    by_bool (is_mode 3 d.mode) (λ e. rw e (action_proper board protected d.pointer d.pending)) (λ e. rw e tt)

-- an action that ran without error
pub went_well : (board : Board) (pointer : ℕ) (action : Action) → in_region board (moved_of action pointer) ≡ true → Sane board (ran_of action pointer 0)
went_well board pointer action h = record { well = λ e. h; ill = λ e. absurd (true≢false e) }
