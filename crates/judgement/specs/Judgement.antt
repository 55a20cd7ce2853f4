-- A device of the proof, which the promise of no call that a customer makes names: a job on the work area, and the
-- verdict that is read off it. Assumes nothing.
use Rattle.std.specs.Prelude.{Bool, cond, not, ◌&&◌, List, [], ◌∷◌, ℕ, zero, suc, ◌+◌, eqb, ltb, length, get_or}
use Rattle.laws.specs.Lists.{same}
use Rattle.board.specs.declared.Board.{Board}
use Rattle.board.specs.Layout.{flash_bytes, flash_from, options_from}
use Rattle.board.specs.Memory.{options_of}
use Rattle.device.specs.declared.Device.{Device}
use Rattle.device.specs.State.{started}
use Rattle.line.specs.Event.{Event}
use Rattle.marks.specs.Work.{Work, known, learnt, forgotten}
use Rattle.verdict.specs.declared.Verdict.{Verdict}
use Rattle.verdict.specs.declared.Verdict.TheVariants as verdict
use Rattle.demand.specs.Verdict.{end_fails, pages_end}
use Rattle.cells.specs.Cells.{Moved, falls, goes, moves}

-- the events of a job: the first that falls, counted from 1 after k, or how all boards end
pub data Over : Type 0 where
  fell : ℕ → Over
  ended : Device → Work → Over

-- what follows an event, if it does not fall
abbrev pub onward : Moved → (Device → Work → Over) → ℕ → Over
onward falls next k = fell (suc k)
onward (goes d w) next k = next d w

-- the events in turn, k being how many went before
unfoldable pub over_of : Board → List Event → Device → Work → ℕ → Over
over_of board [] d w k = ended d w
over_of board (e ∷ es) d w k = onward (moves board d w e) (λ d' w'. over_of board es d' w' (suc k)) k

-- flash offset f is wrong on some board
unfoldable pub suspect : Board → List ℕ → Work → ℕ → Bool
suspect board image w f =
    let place = flash_from board + f in
    cond (ltb f (length image)) (not (known w place && eqb (get_or w.values place 0) (get_or image f 0)))
    (cond (ltb f (pages_end board image)) (not (known w place && eqb (get_or w.values place 0) 0xFF))
    (known w place))

-- the lowest of `count` numbers from i on at which the test holds, or the number behind them
unfoldable pub lowest_from : (ℕ → Bool) → ℕ → ℕ → ℕ
lowest_from test zero i = i
lowest_from test (suc count) i = cond (test i) i (lowest_from test count (suc i))

-- the verdict on flash offset f, the lowest that is suspect
abbrev pub flash_verdict : Board → ℕ → Verdict
flash_verdict board f = cond (ltb f (flash_bytes board)) (verdict.Flash f) verdict.Pass

-- the first end condition that fails, or 4
unfoldable pub end_number : Board → Device → Bool → ℕ
end_number board d kept = lowest_from (end_fails board d kept) 3 1

-- the verdict of end condition c, or, where none fails, another
abbrev pub end_or : ℕ → Verdict → Verdict
end_or c other = cond (ltb c 4) (verdict.End c) other

-- the end conditions are the same on all boards: their device is one, and so are their options
unfoldable pub end_verdict : Board → List ℕ → List ℕ → Device → Work → Verdict
end_verdict board image card d w =
    end_or (end_number board d (same (options_of board w.values) card))
    (flash_verdict board (lowest_from (suspect board image w) (flash_bytes board) 0))

-- the verdict of a job that came out so
abbrev pub over_verdict : Board → List ℕ → List ℕ → Over → Verdict
over_verdict board image card (fell k) = verdict.Event k
over_verdict board image card (ended d w) = end_verdict board image card d w

-- what is known at the start: the options, and nothing else
unfoldable pub begun : Board → List ℕ → Work → Work
begun board card w = learnt (options_from board) card (forgotten board w)

-- the verdict, read off the work area
unfoldable pub verdict_of : Board → List Event → List ℕ → List ℕ → Work → Verdict
verdict_of board es image card w = over_verdict board image card (over_of board es (started board) (begun board card w) 0)
