-- The walk over a job's text: one event further, or one that fails. Assumes nothing.
use mathlib.Core.Path.{◌≡◌, refl, ap, ap₂, ◌∙◌, sym, subst}
use mathlib.Core.Bool.{true}
use mathlib.Core.List.{List}
use Prim.Native.Nat.{ℕ, suc, ◌+◌, ◌-◌, ◌≤◌}
use native.Mathlib.Numerals.{add-one}
use lib.ListN.{length, take, drop}
use Rattle.board.specs.declared.Board.{Board}
use Rattle.board.specs.Sound.{Sound}
use Rattle.request.specs.declared.Setup.{Setup}
use Rattle.device.specs.declared.Device.{Device}
use Rattle.device.specs.State.{started}
use Rattle.states.specs.WellFormed.{well_formed}
use Rattle.states.proofs.Form.{form_of, well_formed_lem}
use Rattle.hexfield.specs.Hex.{bytes_of}
use Rattle.line.specs.Event.{Event, attach, request}
use Rattle.text.specs.Text.{events_of}
use Rattle.text.proofs.WalkEvents.{Beyond, Requested, events_end}
use Rattle.marks.specs.Work.{Work}
use Rattle.cells.specs.Cells.{falls, goes, request_moves, moves}
use Rattle.judgement.specs.Judgement.{Over, fell, ended, over_of}
use Rattle.cells.proofs.InForm.{moves-form}
use Rattle.std.specs.Prelude.{Option, None, Some}
use Rattle.checker.specs.declared.Onward.{Onward}
use Rattle.checker.specs.Walk.{Further, Advanced}
use Rattle.area.specs.Moved.{moved_as}

-- an event that fails, and one that leaves a way on
module _ (board : Board) (t : List ℕ) (at : ℕ) (d : Device) (w w' : Work) where
  no_way : ((k : ℕ) → over_of board (events_of (drop at t)) d w k ≡ fell (suc k)) → Advanced board t at d w None w'
  no_way f = record { fallen = λ z. f; further = λ o z. absurd (cc) }

  one_way : (o : Onward) → Further board t at d w o.device o.behind w' → Advanced board t at d w (Some o) w'
  one_way o f =
      record {
        fallen = λ z. absurd (cc);
        further = λ p z.
            let same : o ≡ p = cc in
            subst (λ (y : Onward). Further board t at d w y.device y.behind w') same f;
      }

-- the event e at a place, and what stands beyond its line
module _ (board : Board) (t : List ℕ) (at : ℕ) (d : Device) (w : Work) where
  -- an event that fails
  fallen : (e : Event) (next : ℕ) → Beyond t at e next → moves board d w e ≡ falls → (k : ℕ) → over_of board (events_of (drop at t)) d w k ≡ fell (suc k)
  unfolding over_of
  fallen e next o m k = rw (o.events, m)

  module _ (sound : Sound board) (f : well_formed board d ≡ true) where
    -- an event that does not
    further : (e : Event) (next : ℕ) → Beyond t at e next → (d' : Device) (w' : Work) → moves board d w e ≡ goes d' w' → Further board t at d w d' next w'
    unfolding over_of
    further e next o d' w' m =
        record {
          over = λ k. rw (o.events, m);
          ahead = o.clean;
          more = o.more;
          within = o.within;
          form = well_formed_lem board d' (moves-form board d w e d' w' sound (form_of board d f) m);
        }

    pub attach_advanced : (next : ℕ) (d' : Device) → Beyond t at attach next → d' ≡ started board → Advanced board t at d w (Some (record { device = d'; behind = next })) w
    unfolding moves
    attach_advanced next d' o e =
        rw e (one_way board t at d w w (record { device = started board; behind = next }) (further attach next o (started board) w refl))

  -- a request, with what the step g made of it and of the work area
  module _ (s : Setup) (data-at next : ℕ) (x : Requested t at s data-at next) (g : Option Device) (w' : Work) (did : moved_as g w' ≡ request_moves board d s (bytes_of (take (next - 1 - data-at) (drop data-at t))) w) where
    moves_as : (r : Option Device) → g ≡ r → moves board d w (request x.bytes) ≡ moved_as r w'
    unfolding moves
    moves_as r e =
        ap₂ (λ (y : Setup) (xs : List ℕ). request_moves board d y xs w) (sym x.asked) (sym x.spells)
        ∙ sym did ∙ ap (λ (z : Option Device). moved_as z w') e

    pub request_fallen : (r : Option Onward) → g ≡ None → r ≡ None → Advanced board t at d w r w'
    request_fallen r e is = rw is (no_way board t at d w w' (fallen (request x.bytes) next x.onward (moves_as None e)))

    pub request_further : Sound board → well_formed board d ≡ true → (d' : Device) → g ≡ Some d' → Advanced board t at d w (Some (record { device = d'; behind = next })) w'
    request_further sound f d' e =
        one_way board t at d w w' (record { device = d'; behind = next }) (further sound f (request x.bytes) next x.onward d' w' (moves_as (Some d') e))

-- a run over the events in turn, after k of them
module _ (board : Board) (t : List ℕ) (at : ℕ) (d : Device) (w : Work) (k : ℕ) (r : Option Onward) (w' : Work) (o : Over) (did : Advanced board t at d w r w') (so : over_of board (events_of (drop at t)) d w k ≡ o) where
  pub run-fell : r ≡ None → fell (k + 1) ≡ o
  run-fell is = ap fell (add-one k) ∙ sym (did.fallen is k) ∙ so

  pub run_on : (p : Onward) → r ≡ Some p → over_of board (events_of (drop p.behind t)) p.device w' (k + 1) ≡ o
  run_on p is = rw (add-one k) (sym ((did.further p is).over k) ∙ so)

-- at the end of the text no event is left
pub run-over : (board : Board) (t : List ℕ) (at : ℕ) (d : Device) (w : Work) (k : ℕ) (o : Over) → length t ≤ at → over_of board (events_of (drop at t)) d w k ≡ o → ended d w ≡ o
unfolding over_of
run-over board t at d w k o h so = ap (λ (es : List Event). over_of board es d w k) (sym (events_end t at h)) ∙ so
