-- What performing a proper action comes to is a state that a loader can be in. Assumes nothing.
use mathlib.Core.Path.{◌≡◌, refl}
use mathlib.Core.Bool.{true}
use mathlib.Core.List.{List}
use Prim.Native.Nat.{ℕ}
use lib.ListN.{length, take}
use Rattle.laws.proofs.Split.{by_bool}
use Rattle.board.specs.declared.Board.{Board}
use Rattle.protection.specs.Protection.{word_of}
use Rattle.states.specs.WellFormed.{in_region}
use Rattle.states.proofs.Form.{Sane}
use Rattle.action.specs.declared.Action.{Action}
use Rattle.action.specs.declared.Action.TheVariants.{Rest, Fail, Point, Erase, EraseAll, Unprotect, ClearRam, StoreFlash, StoreRam, StoreOptions}
use Rattle.action.specs.Action.{ran_of}
use Rattle.action.proofs.Proper.{Proper, went_well}
use Rattle.flash.specs.Flash.{blank}
use Rattle.perform.specs.Perform.{performed_of}

module _ (board : Board) (pointer : ℕ) (b m : List ℕ) (p : in_region board pointer ≡ true) where
  pub performed_sane : (action : Action) → Proper board action → Sane board (ran_of action pointer (performed_of board action b m).status)
  performed_sane Rest h = went_well board pointer Rest p
  performed_sane (Fail status) h = record { well = λ e. p; ill = λ e. h }
  performed_sane (Point address) h = went_well board pointer (Point address) h
  performed_sane (Erase page) h = went_well board pointer (Erase page) p
  performed_sane EraseAll h = went_well board pointer EraseAll p
  performed_sane Unprotect h = went_well board pointer Unprotect p
  performed_sane ClearRam h = went_well board pointer ClearRam p
  performed_sane (StoreFlash at count) h =
      by_bool (blank board (word_of board m) at (length (take count b)) m) (λ e. rw e (went_well board pointer (StoreFlash at count) p))
      (λ e. rw e (record { well = λ z. p; ill = λ z. refl }))
  performed_sane (StoreRam at count) h = went_well board pointer (StoreRam at count) p
  performed_sane (StoreOptions at count) h = went_well board pointer (StoreOptions at count) p
