-- What access denies has a status of the error mode. Assumes nothing.
use mathlib.Core.Path.{◌≡◌, refl}
use mathlib.Core.Bool.{Bool, true, false, ◌&&◌}
use Prim.Native.Nat.{ℕ}
use lib.Dec.{T, eqb, ltb}
use Rattle.laws.proofs.Split.{by_bool}
use Rattle.board.specs.declared.Board.{Board}
use Rattle.board.specs.declared.Place.{Place}
use Rattle.board.specs.declared.Place.TheVariants.{Flash, Ram, Options, Outside}
use Rattle.board.specs.Layout.{options_from, option_bytes}
use Rattle.board.specs.Span.{place_of}
use Rattle.mode.specs.declared.Mode.TheVariants.{Error}
use Rattle.states.specs.WellFormed.{status_fits}
use Rattle.access.specs.declared.Access.{Access}
use Rattle.access.specs.declared.Access.TheVariants.{Denied, InFlash, InRam, InOptions}
use Rattle.access.specs.Access.{checked_of, access_of, block_access}

abbrev pub Refusing : Access → Type 0
Refusing (Denied status) = status_fits Error status ≡ true
Refusing (InFlash at) = T true
Refusing (InRam at) = T true
Refusing (InOptions at) = T true

checked_refusing : (board : Board) (count : ℕ) (place : Place) → Refusing (checked_of board count place)
checked_refusing board count (Flash at) = by_bool (ltb count 2) (λ e. rw e refl) (λ e. rw e tt)
checked_refusing board count (Ram at) = by_bool (ltb count 2) (λ e. rw e refl) (λ e. rw e tt)
checked_refusing board count (Options at) = by_bool (eqb at (options_from board) && eqb count option_bytes) (λ e. rw e tt) (λ e. rw e refl)
checked_refusing board count Outside = refl

access_refusing : (board : Board) (protected : Bool) (address count : ℕ) → Refusing (access_of board protected address count)
unfolding access_of
access_refusing board true address count = refl
access_refusing board false address count = checked_refusing board count (place_of board address count)

pub block_refusing : (board : Board) (protected : Bool) (block count pointer : ℕ) → Refusing (block_access board protected block count pointer)
unfolding block_access
block_refusing board protected block count pointer = access_refusing board protected _ count
