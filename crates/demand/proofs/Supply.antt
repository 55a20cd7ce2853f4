-- Laws of `checkable`: what the rows come to, and what an admitted call was supplied with. Assumes nothing.
use mathlib.Core.Path.{◌≡◌, ◌∙◌, sym}
use mathlib.Core.List.{List}
use Prim.Native.Nat.{ℕ, ◌≤◌}
use lib.ListN.{length}
use borrow.Author.Tests.{eq-eqb, ne_eqb, eqb-true, not-false}
use Rattle.std.specs.Prelude.{⊤, Result, Ok, Err}
use Rattle.refusal.specs.declared.Refusal.{Refusal}
use Rattle.refusal.specs.declared.Refusal.TheVariants.{Work}
use Rattle.refusal.specs.Order.{first_of}
use Rattle.refusal.proofs.First.{first-here, first_on, then, first-append, append_parts, first_exactly}
use Rattle.board.specs.declared.Board.{Board}
use Rattle.board.specs.Supply.{supply_refusals, supplied}
use Rattle.board.proofs.Supply.{Supplied, supplied_parts}
use Rattle.text.specs.Text.{limit, first_bad}
use Rattle.job.specs.Calls.{text_refusals}
use Rattle.job.proofs.Refusals.{text_parts}
use Rattle.marks.specs.Area.{work_bytes}
use Rattle.demand.specs.Checked.{check_refusals, checkable}

-- what an admitted check was supplied with
pub record Checkable (board : Board) (t : List ℕ) (image card work : ℕ) : Type 0 where
  pub area : work ≡ work_bytes board
  pub supply : Supplied board image card
  pub short : length t ≤ limit
  pub clean : first_bad t ≡ 0

module _ (board : Board) (t : List ℕ) (image card work : ℕ) where
  -- row 6
  pub checkable-work : (work ≡ work_bytes board → ⊥) → checkable board t image card work ≡ Err Work
  unfolding checkable
  checkable-work odd = first-here _ _ _ (rw (ne_eqb work (work_bytes board) odd))

  -- rows 7 and 8, which come to s, then 9 and 10
  pub checkable_then : work ≡ work_bytes board → (s : Result ⊤ Refusal) → supplied board image card ≡ s → checkable board t image card work ≡ then s (first_of (text_refusals t))
  unfolding checkable supplied
  checkable_then size s is = first_on _ _ _ (rw (eq-eqb work (work_bytes board) size)) ∙ first-append (supply_refusals board image card) (text_refusals t) s is

  pub checkable_parts : checkable board t image card work ≡ Ok tt → Checkable board t image card work
  unfolding checkable supplied
  checkable_parts e =
      let none = (first_exactly (check_refusals board t image card work) (Ok tt)).0 e in
      let p = append_parts (supply_refusals board image card) (text_refusals t) (sym (first_on _ _ _ none.0) ∙ e) in
      let r = text_parts t p.1 in
      record { area = eqb-true work (work_bytes board) (not-false _ none.0); supply = supplied_parts board image card p.0; short = r.0; clean = r.1 }
