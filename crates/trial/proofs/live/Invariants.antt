-- `trial::live` meets its contract. Assumes nothing.
use mathlib.Core.Path.{◌≡◌}
use Prim.Native.Nat.{◌-◌, ◌≤◌}
use lib.ListN.{length, get_or}
use Rattle.trial.specs.Trial.{unplayed, life, lives_of}
use Rattle.trial.proofs.live.Given as goal

abbrev pub invariant-loop-count : goal.invariant-loop-count
invariant-loop-count l =
    (lives_of l.packed l.place (l.events - l.count) l.count (life l.scene l.memory l.block l.reply) ≡ lives_of l.packed l.place l.events 0 (life (unplayed (get_or l.initial.memory l.place 0)) l.initial.memory l.initial.block l.initial.reply))
    × (l.scene.at ≤ length l.packed)
