-- What the reader gives in each case. Assumes nothing.
use mathlib.Core.Path.{◌≡◌, ◌∙◌, sym}
use mathlib.Core.List.{List, [], ◌∷◌}
use Prim.Native.Nat.{ℕ, ◌≤◌, ◌<◌}
use native.Mathlib.Omega.{arith}
use lib.ListN.{length}
use Rattle.std.specs.Prelude.{⊤, Result, Ok, Err}
use Rattle.laws.specs.Bytes.{put}
use Rattle.laws.proofs.Split.{by_lt}
use Rattle.refusal.specs.declared.Refusal.{Refusal}
use Rattle.refusal.specs.declared.Refusal.TheVariants.{Text, Line, Output}
use Rattle.refusal.specs.Order.{first_of}
use Rattle.refusal.specs.Delivery.{in_numbers, delivery}
use Rattle.refusal.proofs.First.{refused_not}
use Rattle.refusal.proofs.Delivery.{numbers_injective, counted-bytes, counted_refused, delivers_refusal, delivers_eleven, delivers_bytes, delivered-bytes, delivered_own}
use Rattle.text.specs.Text.{limit, first_bad, events_of}
use Rattle.packed.specs.Packed.{packed_of}
use Rattle.job.specs.Calls.{text_refusals, measure_of, read_of}
use Rattle.job.proofs.Refusals.{text_long, text_good, text_parts}

-- an answer of n bytes is that of a text that is short enough, and has no malformed line
pub read_bytes : (t out : List ℕ) (n : ℕ) → (read_of t out).answer ≡ 0 ∷ n ∷ [] → (length t ≤ limit) × (first_bad t ≡ 0) × (n ≡ length (packed_of (events_of t))) × ((read_of t out).buffer ≡ put 0 (packed_of (events_of t)) out)
unfolding read_of
read_bytes t out n e =
    let d = delivered-bytes (text_refusals t) (packed_of (events_of t)) out n e in
    let p = text_parts t d.0 in
    (p.0, p.1, d.1, d.2)

-- what `measure` answered
module _ (t : List ℕ) (r : Result ℕ Refusal) (is : in_numbers r ≡ in_numbers (measure_of t)) where
  pub measured_refused : (why : Refusal) → r ≡ Err why → first_of (text_refusals t) ≡ Err why
  unfolding measure_of
  measured_refused why e = counted_refused _ _ why (sym (numbers_injective r (measure_of t) is) ∙ e)

  pub measured_bytes : (n : ℕ) → r ≡ Ok n → (first_of (text_refusals t) ≡ Ok tt) × (n ≡ length (packed_of (events_of t)))
  unfolding measure_of
  measured_bytes n e = counted-bytes _ _ n (sym (numbers_injective r (measure_of t) is) ∙ e)

  -- and the reader by it
  module _ (out : List ℕ) where
    pub read_refused : (why : Refusal) → r ≡ Err why → delivery (Err why) out ≡ read_of t out
    unfolding read_of
    read_refused why e = delivers_refusal (text_refusals t) _ out why (measured_refused why e)

    module _ (n : ℕ) (e : r ≡ Ok n) where
      pub measured_good : first_bad t ≡ 0
      measured_good = (text_parts t (measured_bytes n e).0).1

      pub measured_room : n ≤ length out → length (packed_of (events_of t)) ≤ length out
      measured_room h = let k = (measured_bytes n e).1 in omega arith

      pub read_short : length out < n → delivery (Err Output) out ≡ read_of t out
      unfolding read_of
      read_short h =
          let m = measured_bytes n e in
          let l : length out < length (packed_of (events_of t)) = let k = m.1 in omega arith in
          delivers_eleven (text_refusals t) _ out m.0 l

      pub read_done : (y : List ℕ) → n ≤ length out → y ≡ put 0 (packed_of (events_of t)) out → delivery (Ok n) y ≡ read_of t out
      unfolding read_of
      read_done y h p = let m = measured_bytes n e in delivers_bytes (text_refusals t) _ out m.0 n y m.1 (measured_room h) p

-- a text without a malformed line is never refused with 10
pub never_ten : (t out : List ℕ) (k : ℕ) → first_bad t ≡ 0 → read_of t out ≡ delivery (Err (Line k)) out → ⊥
unfolding read_of
never_ten t out k g e =
    let is = delivered_own (text_refusals t) (packed_of (events_of t)) out (Line k) out (λ x. let z : ◌≡◌ {A = ℕ} 0 1 = cc in omega arith) e in
    by_lt limit (length t)
    (λ h. let x : ◌≡◌ {A = Result ⊤ Refusal} (Err Text) (Err (Line k)) = sym (text_long t h) ∙ is in let z : ◌≡◌ {A = ℕ} 0 1 = cc in omega arith)
    (λ h. refused_not (Line k) (sym is ∙ text_good t h g))
