-- What the plan writer gives in each case. Assumes nothing.
use mathlib.Core.Path.{◌≡◌, ◌∙◌, sym}
use mathlib.Core.Bool.{true, false}
use mathlib.Core.List.{List}
use Prim.Native.Nat.{ℕ, ◌≤◌, ◌<◌}
use native.Mathlib.Omega.{arith}
use lib.ListN.{length}
use Rattle.std.specs.Prelude.{⊤, Result, Ok, Err}
use Rattle.laws.specs.Bytes.{put}
use Rattle.refusal.specs.declared.Refusal.{Refusal}
use Rattle.refusal.specs.declared.Refusal.TheVariants.{Output, Protected}
use Rattle.refusal.specs.Delivery.{delivery}
use Rattle.refusal.proofs.Delivery.{delivers_refusal, delivers_eleven, delivers_bytes}
use Rattle.board.specs.declared.Board.{Board}
use Rattle.board.specs.Layout.{flash_bytes}
use Rattle.board.specs.Supply.{supplied}
use Rattle.board.proofs.Supply.{supplied_parts}
use Rattle.plan.specs.Plan.{plan_of, barred, plan_refusals, planable, planned}
use Rattle.plan.proofs.Admitted.{planable_refused, planable-barred, planable_all}

-- an image that is admitted fits in flash
pub image_fits : (board : Board) (image card : ℕ) (s : Result ⊤ Refusal) → s ≡ supplied board image card → s ≡ Ok tt → image ≤ flash_bytes board
image_fits board image card s is admitted = (supplied_parts board image card (sym is ∙ admitted)).most

module _ (board : Board) (image card out : List ℕ) (s : Result ⊤ Refusal) (is : s ≡ supplied board (length image) (length card)) where
  pub plan_refused : (why : Refusal) → s ≡ Err why → delivery (Err why) out ≡ planned board image card out
  unfolding planned planable
  plan_refused why e = delivers_refusal (plan_refusals board image card) _ out why (planable_refused board image card why (sym is ∙ e))

  module _ (admitted : s ≡ Ok tt) where
    pub plan_barred : barred board image card ≡ true → delivery (Err Protected) out ≡ planned board image card out
    unfolding planned planable
    plan_barred h = delivers_refusal (plan_refusals board image card) _ out Protected (planable-barred board image card (sym is ∙ admitted) h)

    module _ (unbarred : barred board image card ≡ false) (size : ℕ) (length-is : size ≡ length (plan_of board image)) where
      pub plan_short : length out < size → delivery (Err Output) out ≡ planned board image card out
      unfolding planned planable
      plan_short h =
          let l : length out < length (plan_of board image) = omega arith in
          delivers_eleven (plan_refusals board image card) (plan_of board image) out (planable_all board image card (sym is ∙ admitted) unbarred) l

      pub plan_done : (y : List ℕ) → size ≤ length out → y ≡ put 0 (plan_of board image) out → delivery (Ok size) y ≡ planned board image card out
      unfolding planned planable
      plan_done y h p =
          let l : length (plan_of board image) ≤ length out = omega arith in
          delivers_bytes (plan_refusals board image card) (plan_of board image) out (planable_all board image card (sym is ∙ admitted) unbarred) size y length-is l p
