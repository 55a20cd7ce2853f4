-- A job runs on every board as it runs over the work area. Assumes nothing.
use mathlib.Core.Path.{◌≡◌, refl, ap, ◌∙◌, sym}
use mathlib.Core.Bool.{true, false}
use mathlib.Core.List.{List, [], ◌∷◌}
use Prim.Native.Nat.{ℕ, zero, suc, ◌+◌, ◌-◌, ◌<◌}
use native.Mathlib.Omega.{arith}
use lib.Dec.{T}
use Rattle.board.specs.declared.Board.{Board}
use Rattle.board.specs.Sound.{Sound}
use Rattle.device.specs.declared.Device.{Device}
use Rattle.states.proofs.Form.{Form}
use Rattle.line.specs.Event.{Event}
use Rattle.loader.specs.World.{World, world_of, stepped_of, after}
use Rattle.demand.specs.Boards.{fails, fails_at}
use Rattle.marks.specs.Work.{Work}
use Rattle.cells.specs.Cells.{Moved, falls, goes, moves}
use Rattle.judgement.specs.Judgement.{fell, ended, over_of}
use Rattle.cells.proofs.Actions.{Zeros}
use Rattle.cells.proofs.InForm.{moves-form}
use Rattle.judgement.proofs.Events.{Stands, Fitting, event_on, event_down}

-- every event of the job has its data
abbrev pub AllFit : List Event → Type 0
AllFit [] = T true
AllFit (e ∷ es) = Fitting e × AllFit es

fell-not : (k : ℕ) (d : Device) (w : Work) → fell k ≡ ended d w → ⊥
fell-not k d w e = let z : ◌≡◌ {A = ℕ} 0 1 = cc in omega arith

ended-device : (d d' : Device) (w w' : Work) → ended d w ≡ ended d' w' → d ≡ d'
ended-device d d' w w' e = cc

ended-work : (d d' : Device) (w w' : Work) → ended d w ≡ ended d' w' → w ≡ w'
ended-work d d' w w' e = cc

fell-number : (k j : ℕ) → fell k ≡ fell j → k ≡ j
fell-number k j e = cc

-- by how an event moves the boards
by_moved : {C : Type 0} (v : Moved) → (v ≡ falls → C) → ((d : Device) (w : Work) → v ≡ goes d w → C) → C
by_moved falls f g = f refl
by_moved (goes d w) f g = g d w refl

by_place : {C : Type 0} (j : ℕ) → (j ≡ 0 → C) → ((i : ℕ) → j ≡ suc i → C) → C
by_place zero f g = f refl
by_place (suc i) f g = g i refl

-- what falls after k events has a number above k
pub fell_above : (board : Board) (es : List Event) (d : Device) (w : Work) (k t : ℕ) → over_of board es d w k ≡ fell t → k < t
unfolding over_of
fell_above board [] d w k t h = absurd (fell-not t d w (sym h))
fell_above board (e ∷ es) d w k t h =
    by_moved (moves board d w e)
    (λ v. let z : suc k ≡ t = fell-number (suc k) t (rw v at h) in omega arith)
    (λ d₁ w₁ v. let z : suc k < t = fell_above board es d₁ w₁ (suc k) t (rw v at h) in omega arith)

-- one event on a board that stands where d and w say
module _ (board : Board) (sound : Sound board) (m₀ : List ℕ) (x : World) (d : Device) (w : Work) (form : Form board d) (st : Stands board m₀ x d w) where
  own_form : Form board x.device
  own_form = rw st.device form

  own_stands : Stands board m₀ x x.device w
  own_stands = record { device = refl; alike = st.alike; held = rw st.device st.held; block = st.block; reply = st.reply }

  one_on : (e : Event) → Fitting e → (d' : Device) (w' : Work) → moves board d w e ≡ goes d' w' → (fails e (stepped_of board x e) ≡ false) × Stands board m₀ (world_of (stepped_of board x e)) d' w'
  one_on e f d' w' h = event_on board sound m₀ x.device x.memory x.block x.reply w own_form own_stands e f d' w' (ap (λ (y : Device). moves board y w e) st.device ∙ h)

  one_down : (e : Event) → Fitting e → Zeros board m₀ → moves board d w e ≡ falls → fails e (stepped_of board x e) ≡ true
  one_down e f z h = event_down board sound m₀ x.device x.memory x.block x.reply w own_form own_stands e f z (ap (λ (y : Device). moves board y w e) st.device ∙ h)

module _ (board : Board) (sound : Sound board) (m₀ : List ℕ) where
  -- where the work area reaches the end, so does every board, and cleanly
  pub run_ends : (es : List Event) (x : World) (d : Device) (w : Work) (k : ℕ) (d' : Device) (w' : Work) → AllFit es → Form board d → Stands board m₀ x d w → over_of board es d w k ≡ ended d' w' → ((j : ℕ) → fails_at board es j x ≡ false) × Stands board m₀ (after board es x) d' w'
  unfolding over_of fails_at after
  run_ends [] x d w k d' w' fit form st e = (λ j. refl, rw (sym (ended-device d d' w w' e), sym (ended-work d d' w w' e)) st)
  run_ends (e ∷ es) x d w k d' w' fit form st h =
      by_moved (moves board d w e) (λ v. absurd (fell-not (suc k) d' w' (rw v at h)))
      (λ d₁ w₁ v.
      let r = one_on board sound m₀ x d w form st e fit.0 d₁ w₁ v in
      let f = moves-form board d w e d₁ w₁ sound form v in
      let rest = run_ends es (world_of (stepped_of board x e)) d₁ w₁ (suc k) d' w' fit.1 f r.1 (rw v at h) in
      (first r.0 rest.0, rest.1))
    where
      first : fails e (stepped_of board x e) ≡ false → ((j : ℕ) → fails_at board es j (world_of (stepped_of board x e)) ≡ false) → (j : ℕ) → fails_at board (e ∷ es) j x ≡ false
      first a b zero = a
      first a b (suc j) = b j

  -- where it falls at event j, no board fails before
  pub run-before : (es : List Event) (x : World) (d : Device) (w : Work) (k j : ℕ) → AllFit es → Form board d → Stands board m₀ x d w → over_of board es d w k ≡ fell (suc (k + j)) → (i : ℕ) → i < j → fails_at board es i x ≡ false
  unfolding over_of fails_at
  run-before [] x d w k j fit form st h i l = refl
  run-before (e ∷ es) x d w k j fit form st h i l =
      by_moved (moves board d w e)
      (λ v. let z : suc k ≡ suc (k + j) = fell-number (suc k) (suc (k + j)) (rw v at h) in absurd (omega arith))
      (λ d₁ w₁ v.
      let r = one_on board sound m₀ x d w form st e fit.0 d₁ w₁ v in
      let f = moves-form board d w e d₁ w₁ sound form v in
      by_place i
      (λ z. rw z r.0)
      (λ i' z.
      let back : suc k + (j - 1) ≡ k + j = omega arith in
      let l' : i' < j - 1 = omega arith in
      rw z (run-before es (world_of (stepped_of board x e)) d₁ w₁ (suc k) (j - 1) fit.1 f r.1 (rw v at h ∙ ap (λ (y : ℕ). fell (suc y)) (sym back)) i' l')))

  -- and a board of zeros fails there
  pub run-falls : Zeros board m₀ → (es : List Event) (x : World) (d : Device) (w : Work) (k j : ℕ) → AllFit es → Form board d → Stands board m₀ x d w → over_of board es d w k ≡ fell (suc (k + j)) → fails_at board es j x ≡ true
  unfolding over_of fails_at
  run-falls z [] x d w k j fit form st h = absurd (fell-not (suc (k + j)) d w (sym h))
  run-falls z (e ∷ es) x d w k j fit form st h =
      by_moved (moves board d w e)
      (λ v.
      let y : suc k ≡ suc (k + j) = fell-number (suc k) (suc (k + j)) (rw v at h) in
      let j₀ : j ≡ 0 = omega arith in
      rw j₀ (one_down board sound m₀ x d w form st e fit.0 z v))
      (λ d₁ w₁ v.
      let r = one_on board sound m₀ x d w form st e fit.0 d₁ w₁ v in
      let f = moves-form board d w e d₁ w₁ sound form v in
      by_place j
      (λ y. let late : suc k < suc (k + j) = fell_above board es d₁ w₁ (suc k) (suc (k + j)) (rw v at h) in absurd (omega arith))
      (λ j' y.
      let back : k + j ≡ suc k + j' = omega arith in
      rw y (run-falls z es (world_of (stepped_of board x e)) d₁ w₁ (suc k) j' fit.1 f r.1 (rw v at h ∙ ap (λ (t : ℕ). fell (suc t)) back))))
