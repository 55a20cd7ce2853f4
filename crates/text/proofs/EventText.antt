-- Events and their text: a text gives its events, they give its capital spelling; the number of the first malformed line. Assumes nothing.
use mathlib.Core.Path.{◌≡◌, refl, ap, ap₂, ◌∙◌, sym}
use mathlib.Core.Bool.{true, false, ◌&&◌}
use mathlib.Core.List.{List, [], ◌∷◌, ◌++◌}
use Prim.Native.Nat.{ℕ, zero, suc, ◌-◌, ◌≤◌, ◌<◌}
use native.Mathlib.Omega.{arith}
use native.Mathlib.Nat.{not-suc-le-zero, le_of_suc-le-suc}
use lib.ListN.{length, drop, get_or, length-append}
use lib.Seq.{drop-append_seam}
use Rattle.laws.proofs.Split.{by_bool, and_true}
use Rattle.line.specs.Event.{Event, fits, in_bytes, line_of}
use Rattle.laws.specs.Lines.{lines_of, first_line}
use Rattle.laws.proofs.Lines.{lines_first}
use Rattle.text.specs.Text.{proper, text_of, bad_from, first_bad, events_in, events_of, capital_lines, capital_text}
use Rattle.line.specs.Line.{well_spelled}
use Rattle.line.proofs.Formed.{formed_fits, formed_line, event_bytes}
use Rattle.line.proofs.EventLine.{line_event, line_formed, line_first, line-some}

lines_line : (e : Event) (s : List ℕ) → lines_of (line_of e ++ s) ≡ line_of e ∷ lines_of s
lines_line e s =
    let k : 0 < length (line_of e ++ s) = let h = line-some e in rw (length-append (line_of e) s) (omega arith) in
    let f : first_line (line_of e ++ s) ≡ line_of e = line_first e s in
    lines_first (line_of e ++ s) k
    ∙ ap₂ ◌∷◌ f (ap lines_of (ap (λ (l : List ℕ). drop (length l) (line_of e ++ s)) f ∙ drop-append_seam (line_of e) s))

-- the text of proper events has no malformed line, and gives them back
pub proper_parts : (e : Event) (es : List Event) → proper (e ∷ es) ≡ true → (fits e ≡ true) × (in_bytes e ≡ true) × (proper es ≡ true)
unfolding proper
proper_parts e es h =
    let p = and_true (fits e && in_bytes e) (proper es) h in
    let q = and_true (fits e) (in_bytes e) p.0 in
    (q.0, q.1, p.1)

text_good : (es : List Event) (k : ℕ) → proper es ≡ true → bad_from k (lines_of (text_of es)) ≡ 0
unfolding text_of bad_from lines_of
text_good [] k h = refl
text_good (e ∷ es) k h =
    let p = proper_parts e es h in
    rw (lines_line e (text_of es), line_formed e p.0 p.1) (text_good es (suc k) p.2)

pub text-clean : (es : List Event) → proper es ≡ true → first_bad (text_of es) ≡ 0
unfolding first_bad
text-clean es h = text_good es 1 h

pub text_events : (es : List Event) → proper es ≡ true → events_of (text_of es) ≡ es
unfolding text_of events_of events_in lines_of
text_events [] h = refl
text_events (e ∷ es) h =
    let p = proper_parts e es h in
    rw (lines_line e (text_of es), line_event e p.0 p.1) (ap (λ (fs : List Event). e ∷ fs) (text_events es p.2))

-- lines none of which is malformed: the first is well formed, and so are the others
pub good_first : (l : List ℕ) (ls : List (List ℕ)) (k : ℕ) → bad_from (suc k) (l ∷ ls) ≡ 0 → (well_spelled l ≡ true) × (bad_from (suc (suc k)) ls ≡ 0)
unfolding bad_from
good_first l ls k h =
    by_bool (well_spelled l)
    (λ e. (e, rw e at h))
    (λ e. let z : suc k ≡ 0 = rw e at h in absurd (omega arith))

lines_text : (ls : List (List ℕ)) (k : ℕ) → bad_from (suc k) ls ≡ 0 → text_of (events_in ls) ≡ capital_lines ls
unfolding text_of events_in capital_lines
lines_text [] k h = refl
lines_text (l ∷ ls) k h =
    let p = good_first l ls k h in
    ap₂ ◌++◌ (sym (formed_line l p.0)) (lines_text ls (suc k) p.1)

lines_proper : (ls : List (List ℕ)) (k : ℕ) → bad_from (suc k) ls ≡ 0 → proper (events_in ls) ≡ true
unfolding proper events_in
lines_proper [] k h = refl
lines_proper (l ∷ ls) k h =
    let p = good_first l ls k h in
    rw (formed_fits l p.0, event_bytes l p.0, lines_proper ls (suc k) p.1)

pub good_text : (t : List ℕ) → first_bad t ≡ 0 → text_of (events_of t) ≡ capital_text t
unfolding first_bad events_of capital_text
good_text t h = lines_text (lines_of t) 0 h

-- the text of events is its own capital spelling
pub text_capital : (es : List Event) → proper es ≡ true → capital_text (text_of es) ≡ text_of es
text_capital es h = sym (good_text (text_of es) (text-clean es h)) ∙ ap text_of (text_events es h)

pub good_proper : (t : List ℕ) → first_bad t ≡ 0 → proper (events_of t) ≡ true
unfolding first_bad events_of
good_proper t h = lines_proper (lines_of t) 0 h

-- whether there is a malformed line does not depend on the number that lines are counted from
pub bad_none : (ls : List (List ℕ)) (j k : ℕ) → bad_from (suc j) ls ≡ 0 → bad_from (suc k) ls ≡ 0
unfolding bad_from
bad_none [] j k h = refl
bad_none (l ∷ ls) j k h =
    let p = good_first l ls j h in
    rw p.0 (bad_none ls (suc j) (suc k) p.1)

-- the line named is malformed, and each before it is well formed
pub record Names (ls : List (List ℕ)) (i : ℕ) : Type 0 where
  pub within : i < length ls
  pub malformed : well_spelled (get_or ls i []) ≡ false
  pub before : (j : ℕ) → j < i → well_spelled (get_or ls j []) ≡ true

bad_names : (ls : List (List ℕ)) (k m : ℕ) → bad_from (suc k) ls ≡ suc m → (k ≤ m) × Names ls (m - k)
unfolding bad_from
bad_names [] k m h = absurd (omega arith)
bad_names (l ∷ ls) k m h =
    by_bool (well_spelled l)
    (λ e.
    let p = bad_names ls (suc k) m (rw e at h) in
    let c : k ≤ m = let q = p.0 in omega arith in
    let d : m - k ≡ suc (m - suc k) = let q = p.0 in omega arith in (
      c,
      rw d
          (record {
            within = let w = p.1.within in omega arith;
            malformed = p.1.malformed;
            before = later e (m - suc k) p.1.before;
          }),
    ))
    (λ e.
    let z : suc k ≡ suc m = rw e at h in
    let c : k ≤ m = omega arith in
    let d : m - k ≡ 0 = omega arith in
    (c, rw d (record { within = omega arith; malformed = e; before = λ j w. absurd (not-suc-le-zero w) })))
  where
    later : well_spelled l ≡ true → (i : ℕ) → ((j : ℕ) → j < i → well_spelled (get_or ls j []) ≡ true) → (j : ℕ) → j < suc i → well_spelled (get_or (l ∷ ls) j []) ≡ true
    later e i g zero w = e
    later e i g (suc j) w = g j (le_of_suc-le-suc w)

pub named_from_one : (ls : List (List ℕ)) (i : ℕ) → bad_from 1 ls ≡ suc i → Names ls i
named_from_one ls i e =
    let z : i - 0 ≡ i = omega arith in
    rw z at (bad_names ls 0 i e).1
