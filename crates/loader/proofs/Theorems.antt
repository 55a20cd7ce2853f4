-- What demands 1 and 2 say of a step, for a reader who takes `step_of` from specs/ as what document 01 says. Assumes nothing.
use mathlib.Core.Path.{◌≡◌, ◌∙◌, sym}
use mathlib.Core.Bool.{true}
use mathlib.Core.List.{List}
use Prim.Native.Nat.{ℕ}
use Rattle.std.specs.Prelude.{Ok, Err}
use Rattle.board.specs.declared.Board.{Board}
use Rattle.board.specs.Layout.{logger}
use Rattle.board.specs.Sound.{Sound}
use Rattle.board.proofs.Logger.{logger-sound}
use Rattle.refusal.specs.declared.Refusal.{Refusal}
use Rattle.refusal.specs.Refusal.{number_of}
use Rattle.refusal.specs.Order.{before}
use Rattle.refusal.proofs.First.{NoneApply, First, first_exactly}
use Rattle.refusal.proofs.Order.{Applies, none_before}
use Rattle.device.specs.declared.Device.{Device}
use Rattle.states.specs.WellFormed.{well_formed}
use Rattle.states.proofs.Form.{form_of, well_formed_lem}
use Rattle.loader.specs.declared.Event.{Event}
use Rattle.loader.specs.declared.Stepped.{Stepped}
use Rattle.loader.specs.declared.Answer.TheVariants as answer
use Rattle.loader.specs.Answer.{outcome, left}
use Rattle.loader.specs.Step.{step_refusals, sizes_of, admitted_of, step_of}
use Rattle.loader.proofs.Outcomes.{left_stepped, left-memory, left-block, left-reply}
use Rattle.loader.proofs.Order.{step_in_order}
use Rattle.loader.proofs.Form.{step_form}

-- what the promise of `step` allows, for one call
abbrev pub Allowed : Device → Event → List ℕ → List ℕ → List ℕ → List ℕ → Stepped → List ℕ → List ℕ → List ℕ → Type 0
Allowed d e q m b y r m' b' y' = left r m' b' y' ≡ step_of logger d e q m b y

-- two outcomes that the promise allows are equal: answer, device and all three buffers
pub one_outcome : (d : Device) (e : Event) (q m b y : List ℕ) (r₁ r₂ : Stepped) (m₁ b₁ y₁ m₂ b₂ y₂ : List ℕ) → Allowed d e q m b y r₁ m₁ b₁ y₁ → Allowed d e q m b y r₂ m₂ b₂ y₂ → (r₁ ≡ r₂) × (m₁ ≡ m₂) × (b₁ ≡ b₂) × (y₁ ≡ y₂)
one_outcome d e q m b y r₁ r₂ m₁ b₁ y₁ m₂ b₂ y₂ p₁ p₂ =
    let same = p₁ ∙ sym p₂ in
    (left_stepped r₁ r₂ m₁ b₁ y₁ m₂ b₂ y₂ same, left-memory r₁ r₂ m₁ b₁ y₁ m₂ b₂ y₂ same, left-block r₁ r₂ m₁ b₁ y₁ m₂ b₂ y₂ same, left-reply r₁ r₂ m₁ b₁ y₁ m₂ b₂ y₂ same)

module _ (board : Board) (d : Device) (e : Event) (q m b y : List ℕ) where
  -- a refusal leaves the device and every buffer as they were
  pub refused_changes_nothing : (r : Refusal) → admitted_of board d e q (sizes_of m b y) ≡ Err r → step_of board d e q m b y ≡ outcome (answer.Refused r) d m b y
  unfolding step_of
  refused_changes_nothing r a = rw a

  -- a refusal is the first row that applies
  pub refused_first : (r : Refusal) → admitted_of board d e q (sizes_of m b y) ≡ Err r → First (step_refusals board d e q (sizes_of m b y)) r
  unfolding admitted_of
  refused_first r a = (first_exactly (step_refusals board d e q (sizes_of m b y)) (Err r)).0 a

  -- so none applies whose number comes before its own
  pub refused_in_order : (r : Refusal) → admitted_of board d e q (sizes_of m b y) ≡ Err r → (k : ℕ) → before k (number_of r) ≡ true → Applies (step_refusals board d e q (sizes_of m b y)) k → ⊥
  unfolding admitted_of
  refused_in_order r a = none_before (step_refusals board d e q (sizes_of m b y)) r (step_in_order board d e q (sizes_of m b y)) a

  -- where no refusal is given, no row applies
  pub admitted_faultless : admitted_of board d e q (sizes_of m b y) ≡ Ok tt → NoneApply (step_refusals board d e q (sizes_of m b y))
  unfolding admitted_of
  admitted_faultless a = (first_exactly (step_refusals board d e q (sizes_of m b y)) (Ok tt)).0 a

  -- a well-formed state stays well formed, so that no run of events ends in refusal 4
  pub step_keeps_form : Sound board → well_formed board d ≡ true → well_formed board (step_of board d e q m b y).device ≡ true
  step_keeps_form sound w = well_formed_lem board (step_of board d e q m b y).device (step_form board sound d e q m b y (form_of board d w))

-- so on the logger's board, on which `step` runs
pub logger_keeps_form : (d : Device) (e : Event) (q m b y : List ℕ) → well_formed logger d ≡ true → well_formed logger (step_of logger d e q m b y).device ≡ true
logger_keeps_form d e q m b y w = step_keeps_form logger d e q m b y logger-sound w
