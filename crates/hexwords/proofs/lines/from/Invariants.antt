-- `hexwords::lines::from`: what is left of the text is a part of it. Assumes nothing.
use Rattle.std.proofs.Common.{length, ◌≤◌}
use Rattle.hexwords.proofs.lines.from.Given as goal

abbrev pub invariant-loop : goal.invariant-loop
invariant-loop l = length l.rest ≤ length l.initial.text
