-- Laws of `admitted_of` and `step_of`: what each row and each admission comes to, and that a request is admitted where all is in order. Assumes nothing.
use mathlib.Core.Path.{◌≡◌, ◌∙◌, sym}
use mathlib.Core.Bool.{true, false}
use mathlib.Core.List.{List, [], ◌∷◌}
use Prim.Native.Nat.{ℕ}
use lib.ListN.{drop}
use borrow.Author.Tests.{eq-eqb, ne_eqb, eqb-true, not-false}
use Rattle.std.specs.Prelude.{⊤, Result, Ok, Err}
use Rattle.board.specs.declared.Board.{Board}
use Rattle.board.specs.Layout.{memory_bytes}
use Rattle.board.specs.Sound.{Sound}
use Rattle.refusal.specs.declared.Refusal.{Refusal}
use Rattle.refusal.specs.declared.Refusal.TheVariants as refusal
use Rattle.refusal.specs.Order.{first_of}
use Rattle.refusal.proofs.First.{first-here, first_on, first-none, first_exactly}
use Rattle.request.specs.Request.{transfer_bytes}
use Rattle.device.specs.declared.Device.{Device}
use Rattle.device.specs.State.{started}
use Rattle.states.specs.WellFormed.{well_formed}
use Rattle.loader.specs.declared.Event.{Event}
use Rattle.loader.specs.declared.Event.TheVariants as event
use Rattle.loader.specs.declared.Answer.TheVariants.{Accepted}
use Rattle.loader.specs.declared.Sizes.{Sizes}
use Rattle.loader.specs.Answer.{outcome}
use Rattle.loader.specs.Inner.{InOrder}
use Rattle.loader.specs.Serve.{serve_of}
use Rattle.loader.specs.Step.{misfits, step_refusals, sizes_of, admitted_of, steps, step_of}

module _ (board : Board) (d : Device) (e : Event) (q m b y : List ℕ) (made : Result ⊤ Refusal) (is : made ≡ admitted_of board d e q (sizes_of m b y)) where
  -- x is the admission that was found
  pub step_is : (x : Result ⊤ Refusal) → made ≡ x → steps x e board d q m b y ≡ step_of board d e q m b y
  unfolding step_of
  step_is x t = rw (← t, is)

  pub step_attaches : made ≡ Ok tt → e ≡ event.Attach → outcome Accepted (started board) m b y ≡ step_of board d e q m b y
  unfolding step_of
  step_attaches t a = rw (← is, t, a)

  pub step_serves : made ≡ Ok tt → e ≡ event.Request → serve_of board d q m b y ≡ step_of board d e q m b y
  unfolding step_of
  step_serves t r = rw (← is, t, r)

-- the rows in turn: each is reached where those before it do not apply
module _ (board : Board) (d : Device) (e : Event) (q : List ℕ) (s : Sizes) where
  abbrev from : ℕ → Result ⊤ Refusal
  from k = first_of (drop k (step_refusals board d e q s))

  pub admit_memory : (s.memory ≡ memory_bytes board → ⊥) → Err refusal.Memory ≡ admitted_of board d e q s
  unfolding admitted_of
  admit_memory odd = sym (first-here _ _ _ (rw (ne_eqb _ _ odd)))

  module _ (memory : s.memory ≡ memory_bytes board) where
    past_memory : admitted_of board d e q s ≡ from 1
    unfolding admitted_of
    past_memory = first_on _ _ _ (rw (eq-eqb _ _ memory))

    pub admit_block : (s.block ≡ transfer_bytes → ⊥) → Err refusal.Block ≡ admitted_of board d e q s
    admit_block odd = sym (past_memory ∙ first-here _ _ _ (rw (ne_eqb _ _ odd)))

    module _ (block : s.block ≡ transfer_bytes) where
      past_block : admitted_of board d e q s ≡ from 2
      past_block = past_memory ∙ first_on _ _ _ (rw (eq-eqb _ _ block))

      pub admit_reply : (s.reply ≡ transfer_bytes → ⊥) → Err refusal.Reply ≡ admitted_of board d e q s
      admit_reply odd = sym (past_block ∙ first-here _ _ _ (rw (ne_eqb _ _ odd)))

      module _ (reply : s.reply ≡ transfer_bytes) where
        past_reply : admitted_of board d e q s ≡ from 3
        past_reply = past_block ∙ first_on _ _ _ (rw (eq-eqb _ _ reply))

        pub admit_state : well_formed board d ≡ false → Err refusal.State ≡ admitted_of board d e q s
        admit_state odd = sym (past_reply ∙ first-here _ _ _ (rw odd))

        module _ (form : well_formed board d ≡ true) where
          pub admit_last : (a : Result ⊤ Refusal) → a ≡ first_of ((refusal.Request, misfits e q) ∷ []) → a ≡ admitted_of board d e q s
          admit_last a is = is ∙ sym (past_reply ∙ first_on _ _ _ (rw form))

          pub admit_all : misfits e q ≡ false → admitted_of board d e q s ≡ Ok tt
          admit_all fit = sym (admit_last _ (sym (first_on _ _ _ fit ∙ first-none)))

-- where no row applies to a sound board, all is in order
pub admitted_in_order : (board : Board) → Sound board → (d : Device) (q m b y : List ℕ) → admitted_of board d event.Request q (sizes_of m b y) ≡ Ok tt → InOrder board d q m b y
unfolding admitted_of
admitted_in_order board sound d q m b y e =
    let none = (first_exactly (step_refusals board d event.Request q (sizes_of m b y)) (Ok tt)).0 e in
    record {
      sound = sound;
      memory = eqb-true _ _ (not-false _ none.0);
      block = eqb-true _ _ (not-false _ none.1.0);
      reply = eqb-true _ _ (not-false _ none.1.1.0);
      device = not-false _ none.1.1.1.0;
      request = not-false _ none.1.1.1.1.0;
    }

-- and the other way round
pub in_order_admitted : (board : Board) (d : Device) (q m b y : List ℕ) → InOrder board d q m b y → admitted_of board d event.Request q (sizes_of m b y) ≡ Ok tt
in_order_admitted board d q m b y i = admit_all board d event.Request q (sizes_of m b y) i.memory i.block i.reply i.device (rw i.request)
