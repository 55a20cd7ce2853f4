-- What access grants keeps within its region. Assumes nothing.
use mathlib.Core.Bool.{Bool, true, false, ◌&&◌}
use Prim.Native.Nat.{ℕ, ◌+◌, ◌≤◌}
use lib.Dec.{T, eqb, ltb}
use Rattle.laws.proofs.Split.{by_bool}
use Rattle.board.specs.declared.Board.{Board}
use Rattle.board.specs.declared.Place.{Place}
use Rattle.board.specs.declared.Place.TheVariants.{Flash, Ram, Options, Outside}
use Rattle.board.specs.Layout.{options_from, option_bytes, memory_bytes}
use Rattle.board.specs.Sound.{Sound}
use Rattle.board.specs.Span.{place_of}
use Rattle.board.proofs.Span.{Lies, place_lies, lies_ends}
use Rattle.access.specs.declared.Access.{Access}
use Rattle.access.specs.declared.Access.TheVariants.{Denied, InFlash, InRam, InOptions}
use Rattle.access.specs.Access.{checked_of, access_of, block_access}

abbrev pub Granted : Board → ℕ → Access → Type 0
Granted board count (Denied status) = T true
Granted board count (InFlash at) = Lies board count (Flash at)
Granted board count (InRam at) = Lies board count (Ram at)
Granted board count (InOptions at) = Lies board count (Options at)

checked_granted : (board : Board) (count : ℕ) (place : Place) → Lies board count place → Granted board count (checked_of board count place)
checked_granted board count (Flash at) l = by_bool (ltb count 2) (λ e. rw e tt) (λ e. rw e l)
checked_granted board count (Ram at) l = by_bool (ltb count 2) (λ e. rw e tt) (λ e. rw e l)
checked_granted board count (Options at) l = by_bool (eqb at (options_from board) && eqb count option_bytes) (λ e. rw e l) (λ e. rw e tt)
checked_granted board count Outside l = tt

access_granted : (board : Board) → Sound board → (protected : Bool) (address count : ℕ) → Granted board count (access_of board protected address count)
unfolding access_of
access_granted board sound true address count = tt
access_granted board sound false address count = checked_granted board count (place_of board address count) (place_lies board sound address count)

pub block_granted : (board : Board) → Sound board → (protected : Bool) (block count pointer : ℕ) → Granted board count (block_access board protected block count pointer)
unfolding block_access
block_granted board sound protected block count pointer = access_granted board sound protected _ count

-- so that it ends within memory
abbrev pub Reached : Board → ℕ → Access → Type 0
Reached board count (Denied status) = T true
Reached board count (InFlash at) = at + count ≤ memory_bytes board
Reached board count (InRam at) = at + count ≤ memory_bytes board
Reached board count (InOptions at) = at + count ≤ memory_bytes board

pub granted_reached : (board : Board) → Sound board → (count : ℕ) (access : Access) → Granted board count access → Reached board count access
granted_reached board sound count (Denied status) g = tt
granted_reached board sound count (InFlash at) g = lies_ends board sound count (Flash at) g
granted_reached board sound count (InRam at) g = lies_ends board sound count (Ram at) g
granted_reached board sound count (InOptions at) g = lies_ends board sound count (Options at) g
