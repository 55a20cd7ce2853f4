-- A walk over a text, line by line: what one turn of it does. Assumes nothing.
use mathlib.Core.Path.{◌≡◌, ap, ap₂, ◌∙◌, sym}
use mathlib.Core.Bool.{true}
use mathlib.Core.List.{List, ◌∷◌, ◌++◌}
use Prim.Native.Nat.{ℕ, ◌+◌, ◌-◌, ◌≤◌, ◌<◌}
use native.Mathlib.Omega.{arith}
use native.Mathlib.Numerals.{add-one}
use lib.ListN.{length, take, drop, length-drop}
use lib.Seq.{drop-drop}
use borrow.Author.Tests.{lt-leb, le-leb}
use Rattle.laws.proofs.Bytes.{rest_is}
use Rattle.request.specs.Setup.{setup_of}
use Rattle.request.specs.declared.Setup.{Setup}
use Rattle.hexfield.specs.Hex.{all_digits, bytes_of}
use Rattle.text.specs.declared.Item.TheVariants as item
use Rattle.line.specs.Event.{Event, attach, request}
use Rattle.line.specs.Ways.{line_length}
use Rattle.laws.specs.Lines.{first_line, lines_of}
use Rattle.laws.proofs.Lines.{lines_first}
use Rattle.line.specs.Line.{event_of, well_spelled}
use Rattle.text.specs.Text.{bad_from, events_in, events_of}
use Rattle.text.specs.Walk.{item_for, item_of}
use Rattle.line.proofs.Formed.{Asks, asks_event, asks_setup, asks_whole, asks_digits}
use Rattle.line.proofs.LineLength.{length_good, formed_if, malformed_if, short_attaches, long_asks}

-- the digits of a setup, by their places in the text and in the line
pub setup_here : (t : List ℕ) (at : ℕ) → take (at + 18 - (at + 2)) (drop (at + 2) t) ≡ take 16 (drop 2 (drop at t))
setup_here t at = let n : at + 18 - (at + 2) ≡ 16 = omega arith in ap₂ take n (sym (drop-drop 2 at t))

-- the setup that they spell is that of the request
pub setup_asked : (t : List ℕ) (at : ℕ) (x : Asks (drop at t)) (s : Setup) → s ≡ setup_of (bytes_of (take (at + 18 - (at + 2)) (drop (at + 2) t))) → s ≡ setup_of x.a
setup_asked t at x s e = e ∙ ap (λ (d : List ℕ). setup_of (bytes_of d)) (setup_here t at) ∙ ap setup_of (asks_setup x)

pub some_left : (t : List ℕ) (at : ℕ) → at < length t → 0 < length (drop at t)
some_left t at more = simp length-drop (omega arith)

-- the lines of what is left of a text: the next one, and those behind it
pub lines_here : (t : List ℕ) (at : ℕ) → at < length t → lines_of (drop at t) ≡ first_line (drop at t) ∷ lines_of (drop (at + length (first_line (drop at t))) t)
lines_here t at more =
    lines_first (drop at t) (some_left t at more) ∙ ap (λ (l : List ℕ). first_line (drop at t) ∷ lines_of l) (drop-drop (length (first_line (drop at t))) at t)

-- what is left of a text, as a callee sees it
module _ (t : List ℕ) (at line : ℕ) (more : at < length t) (is : line ≡ line_length (take (length t - at) (drop at t))) where
  left_is : line ≡ line_length (drop at t)
  left_is = is ∙ ap line_length (rest_is at t)

  -- a turn at a malformed line
  pub turn_bad : (number : ℕ) → line ≡ 0 → bad_from number (lines_of (drop at t)) ≡ number
  unfolding bad_from
  turn_bad number z = rw (lines_here t at more, malformed_if (drop at t) (some_left t at more) (sym left_is ∙ z))

  pub item_bad : line ≡ 0 → item.Bad ≡ item_of t at
  unfolding item_of
  item_bad z = rw (lt-leb (length t) at more, malformed_if (drop at t) (some_left t at more) (sym left_is ∙ z))

  -- a turn at a well-formed line
  module _ (nonzero : line ≡ 0 → ⊥) where
    pub formed : well_spelled (first_line (drop at t)) ≡ true
    formed = formed_if (drop at t) (λ z. nonzero (left_is ∙ z))

    pub line_is : line ≡ length (first_line (drop at t))
    line_is = left_is ∙ length_good (drop at t) formed

    lines : lines_of (drop at t) ≡ first_line (drop at t) ∷ lines_of (drop (at + line) t)
    lines = lines_here t at more ∙ ap (λ (n : ℕ). first_line (drop at t) ∷ lines_of (drop (at + n) t)) (sym line_is)

    pub turn_good : (number : ℕ) → bad_from number (lines_of (drop at t)) ≡ bad_from (number + 1) (lines_of (drop (at + line) t))
    unfolding bad_from
    turn_good number = rw (lines, formed, add-one number)

    pub turn_events : events_of (drop at t) ≡ event_of (first_line (drop at t)) ∷ events_of (drop (at + line) t)
    unfolding events_of events_in
    turn_events = rw lines

    item_is : (e : Event) → event_of (first_line (drop at t)) ≡ e → item_for at line e ≡ item_of t at
    unfolding item_of
    item_is e k = rw (lt-leb (length t) at more, formed, k, ← line_is)

    pub item_attach : line < 20 → item.Attach (at + line) ≡ item_of t at
    unfolding item_for
    item_attach h =
        let l : length (first_line (drop at t)) < 20 = let e = line_is in omega arith in
        item_is attach (short_attaches (drop at t) formed l).event

    pub item_request : (s : Setup) → 20 ≤ line → s ≡ setup_of (bytes_of (take (at + 18 - (at + 2)) (drop (at + 2) t))) → item.Request s (at + 19) (at + line) ≡ item_of t at
    unfolding item_for
    item_request s h e =
        let l : 20 ≤ length (first_line (drop at t)) = let k = line_is in omega arith in
        let x = long_asks (drop at t) formed l in
        let q : s ≡ setup_of (x.a ++ x.b) = setup_asked t at x s e ∙ sym (asks_whole x) in
        ap (λ (z : Setup). item.Request z (at + 19) (at + line)) q ∙ item_is (request (x.a ++ x.b)) (asks_event x)

    pub item_digits : 20 ≤ line → all_digits (take (at + 18 - (at + 2)) (drop (at + 2) t)) ≡ true
    item_digits h =
        let l : 20 ≤ length (first_line (drop at t)) = let k = line_is in omega arith in
        ap all_digits (setup_here t at) ∙ asks_digits (long_asks (drop at t) formed l)

pub item_end : (t : List ℕ) (at : ℕ) → length t ≤ at → item.End ≡ item_of t at
unfolding item_of
item_end t at h = rw (le-leb (length t) at h)
