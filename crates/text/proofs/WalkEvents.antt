-- A walk over a text that has no malformed line from a place on: what stands there and behind it, and what the item of that place tells. Assumes nothing.
use mathlib.Core.Path.{◌≡◌, refl, ap, ap₂, ◌∙◌, sym}
use mathlib.Core.Bool.{true}
use mathlib.Core.List.{List, [], ◌∷◌, ◌++◌}
use Prim.Native.Nat.{ℕ, ◌+◌, ◌-◌, ◌*◌, ◌≤◌, ◌<◌}
use native.Mathlib.Omega.{arith}
use lib.ListN.{length, take, drop, get_or, length-drop, drop_of_length-le}
use lib.Seq.{length-take-le, drop-drop, drop_at}
use Rattle.laws.proofs.Split.{by_eq, by_lt}
use Rattle.request.specs.Setup.{setup_of, data_length}
use Rattle.request.specs.declared.Setup.{Setup}
use Rattle.hexfield.specs.Hex.{all_digits, bytes_of}
use Rattle.text.specs.declared.Item.{Item}
use Rattle.text.specs.declared.Item.TheVariants as item
use Rattle.line.specs.Event.{Event, attach, request}
use Rattle.laws.specs.Lines.{first_line, lines_of}
use Rattle.laws.proofs.Lines.{first_some, first-length}
use Rattle.line.specs.Line.{event_of, well_spelled}
use Rattle.text.specs.Text.{bad_from, first_bad, events_in, events_of}
use Rattle.text.specs.Walk.{item_of}
use Rattle.line.proofs.Formed.{asks_event, asks_length, asks_whole, asks_body, asks_spells}
use Rattle.line.proofs.LineLength.{attaches}
use Rattle.text.proofs.Walking.{some_left, lines_here, setup_asked, item_end}
use Rattle.text.proofs.Known.{kind-here, known_attach, line_asks, counted, known_request}
use Rattle.text.proofs.EventText.{good_first, bad_none}

-- the event e stands at a place, and no line is malformed from the end of its line on
pub record Beyond (t : List ℕ) (at : ℕ) (e : Event) (next : ℕ) : Type 0 where
  pub events : events_of (drop at t) ≡ e ∷ events_of (drop next t)
  pub clean : first_bad (drop next t) ≡ 0
  pub more : at < next
  pub within : next ≤ length t

-- a request stands there, and its data between data-at and the LF in front of next
pub record Requested (t : List ℕ) (at : ℕ) (s : Setup) (data-at next : ℕ) : Type 0 where
  pub bytes : List ℕ
  pub asked : s ≡ setup_of bytes
  pub ends : next ≡ data-at + data_length s * 2 + 1
  pub long : length (take (next - 1 - data-at) (drop data-at t)) ≡ data_length s * 2
  pub digits : all_digits (take (next - 1 - data-at) (drop data-at t)) ≡ true
  pub spells : bytes_of (take (next - 1 - data-at) (drop data-at t)) ≡ drop 8 bytes
  pub onward : Beyond t at (request bytes) next

-- what an item tells
abbrev pub Tells : List ℕ → ℕ → Item → Type 0
Tells t at item.End = length t ≤ at
Tells t at item.Bad = ⊥
Tells t at (item.Attach next) = Beyond t at attach next
Tells t at (item.Request s data-at next) = Requested t at s data-at next

-- at the end of a text no event is left
pub events_end : (t : List ℕ) (at : ℕ) → length t ≤ at → events_of (drop at t) ≡ []
unfolding events_of events_in lines_of
events_end t at h = ap events_of (drop_of_length-le t h)

module _ (t : List ℕ) (at : ℕ) (clean : first_bad (drop at t) ≡ 0) where
  -- before its end
  module _ (more : at < length t) where
    abbrev u : List ℕ
    u = drop at t

    parts : (well_spelled (first_line u) ≡ true) × (first_bad (drop (at + length (first_line u)) t) ≡ 0)
    unfolding first_bad
    parts =
        let rest = lines_of (drop (at + length (first_line u)) t) in
        let p = good_first (first_line u) rest 0 (ap (bad_from 1) (sym (lines_here t at more)) ∙ clean) in
        (p.0, bad_none rest 1 0 p.1)

    pub formed_here : well_spelled (first_line u) ≡ true
    formed_here = parts.0

    pub beyond_here : (e : Event) (next : ℕ) → event_of (first_line u) ≡ e → at + length (first_line u) ≡ next → Beyond t at e next
    unfolding events_of events_in
    beyond_here e next is ends =
        let s = first_some u (some_left t at more) in
        let w = first-length u in
        let l : length u ≡ length t - at = length-drop at t in
        record {
          events = rw (lines_here t at more, is, ends);
          clean = rw ends at parts.1;
          more = let h : at < next = omega arith in h;
          within = let h : next ≤ length t = omega arith in h;
        }

    attach-here : get_or t at 0 ≡ 65 → Beyond t at attach (at + 2)
    attach-here k =
        let x = attaches u formed_here (kind-here t at ∙ k) in
        beyond_here attach (at + 2) x.event (ap (λ (l : List ℕ). at + length l) x.first)

    request-here : (get_or t at 0 ≡ 65 → ⊥) → (s : Setup) → s ≡ setup_of (bytes_of (take (at + 18 - (at + 2)) (drop (at + 2) t))) → Requested t at s (at + 19) (at + 19 + data_length s * 2 + 1)
    request-here other s reads =
        let x = line_asks t at more formed_here other in
        let n = data_length s * 2 in
        let next = at + 19 + n + 1 in
        let c : data_length s ≡ length x.b = counted t at more formed_here other s (data_length s) reads refl in
        let stop : 19 + n ≡ 19 + length x.b * 2 = omega arith in
        let size = asks_length x in
        let line : at + length (first_line u) ≡ next = omega arith in
        let go = beyond_here (request (x.a ++ x.b)) next (asks_event x) line in
        let k : next - 1 - (at + 19) ≡ 19 + n - 19 = omega arith in
        let m : next - 1 - (at + 19) ≡ n = omega arith in
        let field : take (next - 1 - (at + 19)) (drop (at + 19) t) ≡ take (19 + n - 19) (drop 19 u) = ap₂ take k (sym (drop-drop 19 at t)) in
        let room : next - 1 - (at + 19) ≤ length (drop (at + 19) t) = let w = go.within in simp length-drop (omega arith) in
        record {
          bytes = x.a ++ x.b;
          asked = setup_asked t at x s reads ∙ sym (asks_whole x);
          ends = refl;
          long = length-take-le (next - 1 - (at + 19)) (drop (at + 19) t) room ∙ m;
          digits = ap all_digits field ∙ asks_body x (19 + n) stop;
          spells = ap bytes_of field ∙ asks_spells x (19 + n) stop ∙ sym (drop_at x.a x.b 8 x.whole);
          onward = go;
        }

  here : Tells t at (item_of t at)
  here =
      by_lt at (length t)
      (λ more.
      let f = formed_here more in
      by_eq (get_or t at 0) 65
      (λ k. rw (sym (known_attach t at more f k)) (attach-here more k))
      (λ o. rw (sym (known_request t at more f o _ _ refl refl)) (request-here more o _ refl)))
      (λ h. rw (sym (item_end t at h)) h)

  pub item_tells : (i : Item) → item_of t at ≡ i → Tells t at i
  item_tells i is = rw is at here
