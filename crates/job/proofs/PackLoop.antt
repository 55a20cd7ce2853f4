-- One turn of the loop that packs a text, and its end. Assumes nothing.
use mathlib.Core.Path.{◌≡◌, refl, ap, ap₂, ◌∙◌, sym}
use mathlib.Core.Bool.{true}
use mathlib.Core.List.{List, ◌++◌}
use Prim.Native.Nat.{ℕ, ◌+◌, ◌-◌, ◌≤◌, ◌<◌}
use native.Mathlib.Omega.{arith}
use lib.ListN.{length, take, drop, length-append}
use lib.Seq.{sets}
use Rattle.laws.specs.Bytes.{put}
use Rattle.laws.proofs.Bytes.{sets-put, rest_is}
use Rattle.laws.proofs.Append.{sets-append}
use Rattle.line.specs.Event.{Event}
use Rattle.packed.specs.Packed.{pack_of, packed_of}
use Rattle.line.specs.Ways.{line_length}
use Rattle.job.specs.Ways.{packed_size}
use Rattle.laws.specs.Lines.{first_line}
use Rattle.line.specs.Line.{event_of, well_spelled}
use Rattle.text.specs.Text.{first_bad, events_of}
use Rattle.line.proofs.LineLength.{length_good}
use Rattle.job.proofs.Measuring.{size_packed, turn_packed, turn_total}
use Rattle.text.proofs.WalkEvents.{Beyond, formed_here, beyond_here, events_end}

module _ (t : List ℕ) (at : ℕ) (more : at < length t) (good : first_bad (drop at t) ≡ 0) where
  -- the first line of what is left, as a callee sees it
  same_line : first_line (take (length t - at) (drop at t)) ≡ first_line (drop at t)
  same_line = ap first_line (rest_is at t)

  pub next_formed : well_spelled (first_line (take (length t - at) (drop at t))) ≡ true
  next_formed = ap well_spelled same_line ∙ formed_here t at good more

  module _ (line : ℕ) (is : line ≡ length (first_line (take (length t - at) (drop at t)))) where
    long : line ≡ length (first_line (drop at t))
    long = is ∙ ap length same_line

    pub next_beyond : Beyond t at (event_of (first_line (drop at t))) (at + line)
    next_beyond = beyond_here t at good more (event_of (first_line (drop at t))) (at + line) refl (ap (λ (n : ℕ). at + n) (sym long))

    nonzero : line ≡ 0 → ⊥
    nonzero z = let h = next_beyond.more in omega arith

    told : line ≡ line_length (take (length t - at) (drop at t))
    told = is ∙ sym (length_good (take (length t - at) (drop at t)) next_formed)

    packed : packed_of (events_of (drop at t)) ≡ pack_of (event_of (first_line (drop at t))) ++ packed_of (events_of (drop (at + line) t))
    packed = turn_packed t at line more told nonzero

    pub next_total : (n to total : ℕ) → n ≡ packed_size line → to + length (packed_of (events_of (drop at t))) ≡ total → to + n + length (packed_of (events_of (drop (at + line) t))) ≡ total
    next_total n to total e s = turn_total t at line more told nonzero n to total e s

    pub next_laid : (out out₂ : List ℕ) (to n : ℕ) → to + length (pack_of (event_of (first_line (take (length t - at) (drop at t))))) ≤ length out → n ≡ packed_size line → out₂ ≡ put to (pack_of (event_of (first_line (take (length t - at) (drop at t))))) out → sets out₂ (to + n) (packed_of (events_of (drop (at + line) t))) ≡ sets out to (packed_of (events_of (drop at t)))
    next_laid out out₂ to n room e put_is =
        let p = pack_of (event_of (first_line (drop at t))) in
        let q : pack_of (event_of (first_line (take (length t - at) (drop at t)))) ≡ p = ap (λ (l : List ℕ). pack_of (event_of l)) same_line in
        let r : to + length p ≤ length out = ap_le q in
        let k : n ≡ length p = e ∙ ap packed_size long ∙ sym (size_packed (drop at t) (formed_here t at good more)) in
        let s : out₂ ≡ sets out to p = put_is ∙ ap (λ (l : List ℕ). put to l out) q ∙ sym (sets-put p out to r) in
        ap₂ (λ (l : List ℕ) (i : ℕ). sets l (to + i) (packed_of (events_of (drop (at + line) t)))) s k
        ∙ sym (sets-append p (packed_of (events_of (drop (at + line) t))) out to)
        ∙ ap (sets out to) (sym packed)
      where
        ap_le : {p : List ℕ} → pack_of (event_of (first_line (take (length t - at) (drop at t)))) ≡ p → to + length p ≤ length out
        ap_le q = let h = ap length q in omega arith

  -- there is room for the next event where there is room for all that are left
  pub next_room : (to total n : ℕ) → to + length (packed_of (events_of (drop at t))) ≡ total → total ≤ n → to + length (pack_of (event_of (first_line (take (length t - at) (drop at t))))) ≤ n
  next_room to total n s h =
      let line = length (first_line (take (length t - at) (drop at t))) in
      let e : length (packed_of (events_of (drop at t))) ≡ length (pack_of (event_of (first_line (drop at t)))) + length (packed_of (events_of (drop (at + line) t))) = ap length (packed line refl) ∙ length-append (pack_of (event_of (first_line (drop at t)))) (packed_of (events_of (drop (at + line) t))) in
      let q : length (pack_of (event_of (first_line (take (length t - at) (drop at t))))) ≡ length (pack_of (event_of (first_line (drop at t)))) = ap (λ (l : List ℕ). length (pack_of (event_of l))) same_line in
      omega arith

pub pack_end : (t out out₀ : List ℕ) (at to : ℕ) → length t ≤ at → length (packed_of (events_of t)) ≤ length out₀ → sets out to (packed_of (events_of (drop at t))) ≡ sets out₀ 0 (packed_of (events_of t)) → out ≡ put 0 (packed_of (events_of t)) out₀
unfolding packed_of
pack_end t out out₀ at to h room e =
    let r : 0 + length (packed_of (events_of t)) ≤ length out₀ = omega arith in
    ap (λ (es : List Event). sets out to (packed_of es)) (sym (events_end t at h)) ∙ e ∙ sets-put (packed_of (events_of t)) out₀ 0 r
