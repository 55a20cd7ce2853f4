-- `sentence::fill` meets its contract. Assumes nothing.
use Rattle.std.proofs.Common.{◌≡◌, ◌≤◌, drop}
use Rattle.append.specs.Said.{said_of}
use Rattle.sentence.specs.Sentence.{filled_of, sentence_of}
use Rattle.sentence.proofs.fill.Given as goal

abbrev pub invariant-loop-i : goal.invariant-loop-i
invariant-loop-i l =
    (said_of (filled_of (drop l.i l.template) l.part l.picked l.numbers l.texts) l.out l.end ≡ said_of (sentence_of l.template l.fn.numbers l.fn.texts) l.initial.out l.at) × (l.part ≤ l.i)
