-- Laws of a packed event: what its kind, its request and its data come to. Assumes nothing.
use mathlib.Core.Path.{◌≡◌, refl}
use mathlib.Core.Bool.{cond}
use mathlib.Core.List.{List, []}
use Prim.Native.Nat.{ℕ}
use lib.Dec.{eqb}
use lib.ListN.{drop, get_or}
use Rattle.std.specs.Prelude.{⊤, Result, Ok, Err}
use Rattle.laws.proofs.Split.{by_bool}
use Rattle.board.specs.declared.Board.{Board}
use Rattle.board.specs.Layout.{logger}
use Rattle.device.specs.declared.Device.{Device}
use Rattle.loader.specs.declared.Event.{Event}
use Rattle.loader.specs.declared.Event.TheVariants.{Attach, Request}
use Rattle.loader.specs.Step.{step_of, steps, admitted_of, sizes_of}
use Rattle.packed.specs.Packed.{event_in}
use Rattle.loader.specs.World.{stepped_of}
use Rattle.player.specs.Played.{played_of}
use Rattle.refusal.specs.declared.Refusal.{Refusal}

-- an Attach does not look at the request
steps_alone : (a : Result ⊤ Refusal) (board : Board) (d : Device) (q m b y : List ℕ) → steps a Attach board d q m b y ≡ steps a Attach board d [] m b y
steps_alone (Ok _) board d q m b y = refl
steps_alone (Err r) board d q m b y = refl

attach_alone : (board : Board) (d : Device) (q m b y : List ℕ) → step_of board d Attach q m b y ≡ step_of board d Attach [] m b y
unfolding step_of admitted_of
attach_alone board d q m b y = steps_alone (admitted_of board d Attach [] (sizes_of m b y)) board d q m b y

-- what stands behind the first byte of a piece is its request
pub played_by : (d : Device) (e : Event) (request piece m b y : List ℕ) → e ≡ cond (eqb (get_or piece 0 0) 0) Attach Request → request ≡ drop 1 piece → step_of logger d e request m b y ≡ played_of d piece m b y
unfolding played_of stepped_of event_in
played_by d e request piece m b y k r =
    by_bool (eqb (get_or piece 0 0) 0) (λ t. rw (k, t) (attach_alone logger d request m b y)) (λ f. rw (k, r, f) refl)
