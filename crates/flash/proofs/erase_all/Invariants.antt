-- `flash::erase_all` meets its contract. Assumes nothing.
use Rattle.flash.specs.Flash.{erased_from, erased_all}
use Prim.Native.Nat.{◌-◌}
use mathlib.Core.Path.{◌≡◌}
use Rattle.flash.proofs.erase_all.Given as goal

abbrev pub invariant-loop-page : goal.invariant-loop-page
invariant-loop-page l = erased_from l.board l.word (l.page-end - l.page) l.page l.memory ≡ erased_all l.board l.word l.initial.memory
