-- The second demand, as CR 2 reads it: what the definitions of specs/ amount to. Assumes nothing.
use mathlib.Core.Path.{◌≡◌, ap, ap₂, ◌∙◌, sym}
use mathlib.Core.Bool.{true}
use mathlib.Core.List.{List, [], ◌∷◌, map}
use mathlib.Core.Logic.{◌⊎◌, ⊎_elim}
use Prim.Native.Nat.{ℕ, suc, ◌≤◌, ◌<◌}
use lib.ListN.{length, take, get_or}
use Rattle.std.specs.Prelude.{Result, Ok, Err}
use Rattle.laws.specs.Bytes.{put}
use Rattle.laws.proofs.Append.{take_put}
use Rattle.laws.specs.Lists.{all_bytes}
use Rattle.refusal.specs.declared.Refusal.{Refusal}
use Rattle.refusal.specs.declared.Refusal.TheVariants.{Line}
use Rattle.line.specs.Event.{Event}
use Rattle.laws.specs.Lines.{lines_of}
use Rattle.digit.specs.Digit.{capital_of}
use Rattle.hexfield.specs.Hex.{capitals}
use Rattle.line.specs.Line.{InField, capital_line}
use Rattle.line.proofs.CapitalLine.{capital_other, capital_inside, capital_outside}
use Rattle.text.specs.Text.{limit, proper, text_of, first_bad, events_of, capital_text}
use Rattle.packed.specs.Packed.{packed_of, unpacked}
use Rattle.refusal.specs.Delivery.{in_numbers, delivery, delivered}
use Rattle.packed.specs.Calls.{write_refusals, write_of}
use Rattle.job.specs.Calls.{text_refusals, measure_of, read_of}
use Rattle.text.proofs.EventText.{text-clean, text_events, text_capital, good_text, good_proper, Names, named_from_one}
use Rattle.text.proofs.CapitalText.{capital_lines_lem, capital_bad, capital_events, capital_text_stays, text_in_capitals, capital_text_length}
use Rattle.packed.proofs.EventPacked.{packed_packs, packed_events, packs_packed, packs-proper}
use Rattle.refusal.proofs.Delivery.{numbers_injective, delivery_injective, delivers_refusal, delivers_output}
use Rattle.packed.proofs.Refusals.{packed_whole, write-within}
use Rattle.job.proofs.Refusals.{text_bad, text_good, capital_refusals}
use Rattle.packed.proofs.Answers.{write_bytes}
use Rattle.job.proofs.Answers.{read_bytes, never_ten}

-- Two lists of proper events with the same text are the same list.
pub text_of_injective : (es fs : List Event) → proper es ≡ true → proper fs ≡ true → text_of es ≡ text_of fs → es ≡ fs
text_of_injective es fs p q e = sym (text_events es p) ∙ ap events_of e ∙ text_events fs q

-- Two lists of proper events with the same packed list are the same list.
pub packed_of_injective : (es fs : List Event) → proper es ≡ true → proper fs ≡ true → packed_of es ≡ packed_of fs → es ≡ fs
packed_of_injective es fs p q e = sym (packed_events es p) ∙ ap unpacked e ∙ packed_events fs q

-- The capital spelling changes hex fields alone. It is the text but for the case of letters, it has its lines, each in
-- capital spelling, and in a line of `Q` each byte of a hex field becomes its capital; every other byte of a line stays.
pub spelling_keeps_letters : (t : List ℕ) → (capitals (capital_text t) ≡ capitals t) × (length (capital_text t) ≡ length t)
spelling_keeps_letters t = (text_in_capitals t, capital_text_length t)

pub spelling_by_lines : (t : List ℕ) → lines_of (capital_text t) ≡ map capital_line (lines_of t)
spelling_by_lines t = capital_lines_lem t

pub spelling_in_fields : (l : List ℕ) (i : ℕ) → get_or l 0 0 ≡ 81 → InField l i → i < length l → get_or (capital_line l) i 0 ≡ capital_of (get_or l i 0)
spelling_in_fields l i k in_field h = capital_inside l i k in_field h

pub spelling_elsewhere : (l : List ℕ) (i : ℕ) → (InField l i → ⊥) ⊎ (get_or l 0 0 ≡ 81 → ⊥) → get_or (capital_line l) i 0 ≡ get_or l i 0
spelling_elsewhere l i = ⊎_elim (capital_outside l i) (λ n. ap (λ (x : List ℕ). get_or x i 0) (capital_other l n))

-- A capital spelling is its own.
pub spelling_stays : (t : List ℕ) → capital_text (capital_text t) ≡ capital_text t
spelling_stays t = capital_text_stays t

-- A text and its capital spelling have the same events and the same first malformed line, and get the same answer.
pub same_events : (t : List ℕ) → (events_of (capital_text t) ≡ events_of t) × (first_bad (capital_text t) ≡ first_bad t)
same_events t = (capital_events t, capital_bad t)

pub same_measure : (t : List ℕ) → measure_of (capital_text t) ≡ measure_of t
unfolding measure_of
same_measure t = rw (capital_refusals t, capital_events t)

pub same_reading : (t out : List ℕ) → read_of (capital_text t) out ≡ read_of t out
unfolding read_of
same_reading t out = rw (capital_refusals t, capital_events t)

-- A text whose capital spelling is the text of a list of proper events has no malformed line.
pub events_text_well_formed : (t : List ℕ) (es : List Event) → proper es ≡ true → text_of es ≡ capital_text t → first_bad t ≡ 0
events_text_well_formed t es p e = sym (capital_bad t) ∙ ap first_bad (sym e) ∙ text-clean es p

-- The capital spelling of a text without one is the text of its events, which are proper.
pub well_formed_spells : (t : List ℕ) → first_bad t ≡ 0 → (proper (events_of t) ≡ true) × (text_of (events_of t) ≡ capital_text t)
well_formed_spells t h = (good_proper t h, good_text t h)

-- So two texts without one have the same events exactly where they have the same capital spelling.
pub one_spelling : (t u : List ℕ) → first_bad t ≡ 0 → first_bad u ≡ 0 → (events_of t ≡ events_of u → capital_text t ≡ capital_text u) × (capital_text t ≡ capital_text u → events_of t ≡ events_of u)
one_spelling t u h k = (
  λ e. sym (good_text t h) ∙ ap text_of e ∙ good_text u k,
  λ e. sym (capital_events t) ∙ ap events_of e ∙ capital_events u,
)

-- Within the limit, the reader gives 10 where the capital spelling is the text of no list of proper events.
pub refused_if_none : (t out : List ℕ) → length t ≤ limit → ((es : List Event) → proper es ≡ true → text_of es ≡ capital_text t → ⊥) → read_of t out ≡ delivery (Err (Line (first_bad t))) out
unfolding read_of
refused_if_none t out h n = sym (delivers_refusal (text_refusals t) _ out _ (text_bad t h (λ z. n (events_of t) (good_proper t z) (good_text t z))))

-- And only there: where the reader gives 10, whatever the line, no list of proper events has this text, in any spelling.
pub refused_only_if_none : (t out : List ℕ) (k : ℕ) → read_of t out ≡ delivery (Err (Line k)) out → (es : List Event) → proper es ≡ true → text_of es ≡ capital_text t → ⊥
refused_only_if_none t out k e es p s = never_ten t out k (events_text_well_formed t es p s) e

-- The line that is named is malformed, and every line before it is well formed. Lines are counted from 1.
pub first_malformed : (t : List ℕ) (i : ℕ) → first_bad t ≡ suc i → Names (lines_of t) i
unfolding first_bad
first_malformed t i e = named_from_one (lines_of t) i e

-- Reading what the writer wrote gives the packed list back, and its length.
pub reading_what_was_written : (p out back : List ℕ) (n : ℕ) → all_bytes p ≡ true → length p ≤ length back → (write_of p out).answer ≡ 0 ∷ n ∷ [] → read_of (take n (write_of p out).buffer) back ≡ delivery (Ok (length p)) (put 0 p back)
unfolding read_of
reading_what_was_written p out back n y room e =
    let w = write_bytes p out n e in
    let q : proper (unpacked p) ≡ true = packs-proper p w.0 y in
    let k : packed_of (unpacked p) ≡ p = packs_packed p w.0 in
    let t : take n (write_of p out).buffer ≡ text_of (unpacked p) = ap₂ take w.2 w.3 ∙ take_put (text_of (unpacked p)) out in
    let r : packed_of (events_of (text_of (unpacked p))) ≡ p = ap packed_of (text_events (unpacked p) q) ∙ k in
    let free = text_good (text_of (unpacked p)) w.1 (text-clean (unpacked p) q) in
    ap (λ (x : List ℕ). read_of x back) t ∙ ap (λ (l : List ℕ). delivered (text_refusals (text_of (unpacked p))) l back) r ∙ delivers_output _ p back free room

-- Writing what the reader read gives the capital spelling of the text, and its length, which is the text's.
pub writing_what_was_read : (t out back : List ℕ) (n : ℕ) → length t ≤ length back → (read_of t out).answer ≡ 0 ∷ n ∷ [] → write_of (take n (read_of t out).buffer) back ≡ delivery (Ok (length t)) (put 0 (capital_text t) back)
unfolding write_of
writing_what_was_read t out back n room e =
    let w = read_bytes t out n e in
    let c = capital_text t in
    let l : length c ≡ length t = capital_text_length t in
    let q : proper (events_of t) ≡ true = good_proper t w.1 in
    let p : take n (read_of t out).buffer ≡ packed_of (events_of t) = ap₂ take w.2 w.3 ∙ take_put (packed_of (events_of t)) out in
    let r : text_of (unpacked (packed_of (events_of t))) ≡ c = ap text_of (packed_events (events_of t) q) ∙ good_text t w.1 in
    let free = write-within (packed_of (events_of t)) (packed_whole (packed_of (events_of t)) (packed_packs (events_of t) q)) (rw (r, l) w.0) in
    ap (λ (x : List ℕ). write_of x back) p
    ∙ ap (λ (x : List ℕ). delivered (write_refusals (packed_of (events_of t))) x back) r
    ∙ delivers_output _ c back free (rw l room)
    ∙ ap (λ (k : ℕ). delivery (Ok k) (put 0 c back)) l

-- No other spelling is ever written: what the writer gives is its own capital spelling.
pub written_in_capitals : (p out : List ℕ) (n : ℕ) → all_bytes p ≡ true → (write_of p out).answer ≡ 0 ∷ n ∷ [] → capital_text (take n (write_of p out).buffer) ≡ take n (write_of p out).buffer
written_in_capitals p out n y e =
    let w = write_bytes p out n e in
    let t : take n (write_of p out).buffer ≡ text_of (unpacked p) = ap₂ take w.2 w.3 ∙ take_put (text_of (unpacked p)) out in
    rw t (text_capital (unpacked p) (packs-proper p w.0 y))

-- Any two outcomes that a promise of `measure`, of the reader or of the writer allows are equal.
pub one_measure : (t : List ℕ) (r s : Result ℕ Refusal) → in_numbers r ≡ in_numbers (measure_of t) → in_numbers s ≡ in_numbers (measure_of t) → r ≡ s
one_measure t r s a b = numbers_injective r s (a ∙ sym b)

pub one_reading : (t out x y : List ℕ) (r s : Result ℕ Refusal) → delivery r x ≡ read_of t out → delivery s y ≡ read_of t out → (r ≡ s) × (x ≡ y)
one_reading t out x y r s a b = delivery_injective r s x y (a ∙ sym b)

pub one_writing : (p out x y : List ℕ) (r s : Result ℕ Refusal) → delivery r x ≡ write_of p out → delivery s y ≡ write_of p out → (r ≡ s) × (x ≡ y)
one_writing p out x y r s a b = delivery_injective r s x y (a ∙ sym b)
