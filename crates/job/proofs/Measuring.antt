-- Measuring a text, line by line: how many bytes its events take when packed. Assumes nothing.
use mathlib.Core.Path.{◌≡◌, ap, ◌∙◌, sym}
use mathlib.Core.Bool.{true}
use mathlib.Core.List.{List, [], ◌++◌}
use Prim.Native.Nat.{ℕ, suc, ◌+◌, ◌-◌, ◌*◌, ◌/◌, ◌≤◌, ◌<◌}
use native.Mathlib.Omega.{arith}
use lib.ListN.{length, take, drop, length-append, drop_of_length-le}
use borrow.Author.Tests.{lt-ltb, le-ltb}
use Rattle.std.specs.Prelude.{Ok, Err}
use Rattle.laws.proofs.Split.{by_lt}
use Rattle.refusal.specs.declared.Refusal.TheVariants.{Text, Line}
use Rattle.laws.specs.Lines.{first_line, lines_of}
use Rattle.line.specs.Line.{event_of, well_spelled}
use Rattle.text.specs.Text.{limit, bad_from, first_bad, events_in, events_of}
use Rattle.line.specs.Ways.{line_length}
use Rattle.line.proofs.Formed.{asks_event, asks_length}
use Rattle.line.proofs.LineLength.{short_attaches, long_asks}
use Rattle.text.proofs.Walking.{formed, line_is, turn_events}
use Rattle.packed.specs.Packed.{pack_of, packed_of}
use Rattle.job.specs.Ways.{packed_size}
use Rattle.job.specs.Calls.{measure_of}
use Rattle.job.proofs.Refusals.{text_long, text_bad, text_good}

-- how many bytes the event of the first line packs into
pub size_packed : (u : List ℕ) → well_spelled (first_line u) ≡ true → length (pack_of (event_of (first_line u))) ≡ packed_size (length (first_line u))
unfolding packed_size pack_of
size_packed u h =
    by_lt (length (first_line u)) 20
    (λ l. rw (lt-ltb (length (first_line u)) 20 l, (short_attaches u h l).event))
    (λ l.
    let x = long_asks u h l in
    let s : length (first_line u) ≡ 20 + length x.b * 2 = asks_length x in
    let w = x.whole in
    let m : length (x.a ++ x.b) ≡ length x.a + length x.b = length-append x.a x.b in
    let e : suc (length (x.a ++ x.b)) ≡ length (first_line u) / 2 - 1 = omega arith in
    rw (le-ltb (length (first_line u)) 20 l, asks_event x) e)

-- a turn at a well-formed line of what is left of a text, as a callee sees it
module _ (t : List ℕ) (at line : ℕ) (more : at < length t) (is : line ≡ line_length (take (length t - at) (drop at t))) (nonzero : line ≡ 0 → ⊥) where
  pub turn_packed : packed_of (events_of (drop at t)) ≡ pack_of (event_of (first_line (drop at t))) ++ packed_of (events_of (drop (at + line) t))
  unfolding packed_of
  turn_packed = rw (turn_events t at line more is nonzero)

  turn_size : (n : ℕ) → n ≡ packed_size line → length (packed_of (events_of (drop at t))) ≡ n + length (packed_of (events_of (drop (at + line) t)))
  turn_size n e =
      let z : length (pack_of (event_of (first_line (drop at t)))) ≡ n = size_packed (drop at t) (formed t at line more is nonzero) ∙ ap packed_size (sym (line_is t at line more is nonzero)) ∙ sym e in
      ap length turn_packed
      ∙ length-append (pack_of (event_of (first_line (drop at t)))) (packed_of (events_of (drop (at + line) t)))
      ∙ ap (λ (k : ℕ). k + length (packed_of (events_of (drop (at + line) t)))) z

  pub turn_total : (n size total : ℕ) → n ≡ packed_size line → size + length (packed_of (events_of (drop at t))) ≡ total → size + n + length (packed_of (events_of (drop (at + line) t))) ≡ total
  turn_total n size total e s =
      let k : length (packed_of (events_of (drop at t))) ≡ n + length (packed_of (events_of (drop (at + line) t))) = turn_size n e in
      omega arith

-- the end of a walk that has found no malformed line, and of one that has
pub walk_end : (t : List ℕ) (at number size : ℕ) → length t ≤ limit → length t ≤ at → bad_from number (lines_of (drop at t)) ≡ first_bad t → size + length (packed_of (events_of (drop at t))) ≡ length (packed_of (events_of t)) → Ok size ≡ measure_of t
unfolding measure_of bad_from lines_of packed_of events_of events_in
walk_end t at number size short h b s =
    let d : drop at t ≡ [] = drop_of_length-le t h in
    let z : 0 ≡ first_bad t = rw d at b in
    let n : size + 0 ≡ length (packed_of (events_in (lines_of t))) = rw d at s in
    let k : size ≡ length (packed_of (events_in (lines_of t))) = omega arith in
    rw (text_good t short (sym z)) (ap Ok k)

pub walk_bad : (t : List ℕ) (number : ℕ) → length t ≤ limit → 1 ≤ number → number ≡ first_bad t → Err (Line number) ≡ measure_of t
unfolding measure_of
walk_bad t number short h e =
    let n : first_bad t ≡ 0 → ⊥ = λ z. omega arith in
    rw (text_bad t short n) (ap (λ (k : ℕ). Err (Line k)) e)

pub measure_long : (t : List ℕ) → limit < length t → Err Text ≡ measure_of t
unfolding measure_of
measure_long t h = rw (text_long t h)
