-- `flash::store` meets its contract. Assumes nothing.
use Rattle.flash.specs.Flash.{stored}
use lib.ListN.{drop}
use Prim.Native.Nat.{◌+◌}
use mathlib.Core.Path.{◌≡◌}
use Rattle.flash.proofs.store.Given as goal

abbrev pub invariant-loop-i : goal.invariant-loop-i
invariant-loop-i l = stored l.board l.word (l.at + l.i) (drop l.i l.source) l.memory ≡ stored l.board l.word l.at l.source l.initial.memory
