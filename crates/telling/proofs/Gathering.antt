-- What is gathered to explain a verdict, case by case. Assumes nothing.
use mathlib.Core.Path.{◌≡◌, sym, ◌∙◌}
use mathlib.Core.Bool.{Bool, true, false}
use mathlib.Core.List.{List}
use Prim.Native.Nat.{ℕ}
use Rattle.std.specs.Prelude.{Result, Ok}
use Rattle.refusal.specs.declared.Refusal.{Refusal}
use Rattle.refusal.specs.Delivery.{delivery}
use Rattle.job.specs.Calls.{read_of}
use Rattle.verdict.specs.declared.Verdict.{Verdict}
use Rattle.telling.specs.Gathered.{told_at_once, gathered_of}

module _ (v : Verdict) (job room : List ℕ) (told : Bool) (is : told ≡ told_at_once v) where
  -- a verdict that is told at once leaves the room alone
  pub gathers_nothing : told ≡ true → delivery (Ok 0) room ≡ gathered_of v job room
  unfolding gathered_of
  gathers_nothing t = rw (sym is ∙ t)

  -- for any other the job is read into it
  pub gathers_events : (d : Result ℕ Refusal) (after : List ℕ) → told ≡ false → delivery d after ≡ read_of job room → delivery d after ≡ gathered_of v job room
  unfolding gathered_of
  gathers_events d after t e = rw (sym is ∙ t) e
