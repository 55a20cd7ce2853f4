-- What the plan writer's own rows come to, and what an admitted call was supplied with. Assumes nothing.
use mathlib.Core.Path.{◌≡◌, ◌∙◌}
use mathlib.Core.Bool.{true, false}
use mathlib.Core.List.{List, [], ◌∷◌}
use Prim.Native.Nat.{ℕ}
use lib.ListN.{length}
use Rattle.std.specs.Prelude.{⊤, Result, Ok, Err}
use Rattle.refusal.specs.declared.Refusal.{Refusal}
use Rattle.refusal.specs.declared.Refusal.TheVariants.{Protected}
use Rattle.refusal.specs.Order.{first_of}
use Rattle.refusal.proofs.First.{first-here, first_on, first-none, then, first-append, append_parts, first_exactly}
use Rattle.board.specs.declared.Board.{Board}
use Rattle.board.specs.Supply.{supply_refusals, supplied}
use Rattle.board.proofs.Supply.{Supplied, supplied_parts}
use Rattle.plan.specs.Plan.{barred, planable}

module _ (board : Board) (image card : List ℕ) where
  -- rows 7 and 8, which come to s, then 12
  planable_then : (s : Result ⊤ Refusal) → supplied board (length image) (length card) ≡ s → planable board image card ≡ then s (first_of ((Protected, barred board image card) ∷ []))
  unfolding planable supplied
  planable_then s is = first-append (supply_refusals board (length image) (length card)) ((Protected, barred board image card) ∷ []) s is

  pub planable_refused : (why : Refusal) → supplied board (length image) (length card) ≡ Err why → planable board image card ≡ Err why
  planable_refused why is = planable_then (Err why) is

  pub planable-barred : supplied board (length image) (length card) ≡ Ok tt → barred board image card ≡ true → planable board image card ≡ Err Protected
  planable-barred is h = planable_then (Ok tt) is ∙ first-here _ _ _ h

  pub planable_all : supplied board (length image) (length card) ≡ Ok tt → barred board image card ≡ false → planable board image card ≡ Ok tt
  planable_all is h = planable_then (Ok tt) is ∙ first_on _ _ _ h ∙ first-none

  -- what an admitted call was supplied with
  module _ (e : planable board image card ≡ Ok tt) where
    parts : (supplied board (length image) (length card) ≡ Ok tt) × (first_of ((Protected, barred board image card) ∷ []) ≡ Ok tt)
    unfolding planable supplied
    parts = append_parts (supply_refusals board (length image) (length card)) ((Protected, barred board image card) ∷ []) e

    pub planable-supplied : supplied board (length image) (length card) ≡ Ok tt
    planable-supplied = parts.0

    pub planable_lengths : Supplied board (length image) (length card)
    planable_lengths = supplied_parts board (length image) (length card) parts.0

    pub planable_free : barred board image card ≡ false
    planable_free = ((first_exactly ((Protected, barred board image card) ∷ []) (Ok tt)).0 parts.1).0
