-- `memory::clear_ram` meets its contract. Assumes nothing.
use Rattle.board.specs.Memory.{cleared_from, ram_cleared}
use Prim.Native.Nat.{◌-◌}
use mathlib.Core.Path.{◌≡◌}
use Rattle.memory.proofs.clear_ram.Given as goal

abbrev pub invariant-loop-part : goal.invariant-loop-part
invariant-loop-part l = cleared_from l.board (l.part-end - l.part) l.part l.memory ≡ ram_cleared l.board l.initial.memory
