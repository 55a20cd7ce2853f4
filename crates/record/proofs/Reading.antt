-- The record of the first line of a text, read into a buffer. Assumes nothing.
use Rattle.std.proofs.Common.{◌≡◌, ℕ, ◌+◌, ◌-◌, ◌*◌, ◌/◌, ◌<◌, ◌≤◌, Bool, true, false, unwrap_or, List, length, get_or, take, drop, sym, ap, ◌∙◌, ⊎_elim, arith}
use Rattle.std.specs.Bool.{then_some}
use Rattle.laws.specs.Bytes.{put}
use Rattle.laws.proofs.Append.{take_put}
use Rattle.laws.proofs.Split.{by_bool}
use Rattle.laws.specs.Lines.{first_line}
use Rattle.digit.specs.Digit.{value_of}
use Rattle.digit.proofs.Values.{byte_small}
use Rattle.hexfield.specs.Hex.{all_digits, bytes_of}
use Rattle.hexfield.proofs.Fields.{bytes-length}
use Rattle.record.specs.Record.{length_in, spelled, record_in, sound, good_record}
use Rattle.record.specs.Ways.{spelled_length, record_line_length, record_laid}
use Rattle.record.proofs.Spelling.{Spells, spells, spells_size, spells_length, spells_spelled, spells_record, spells_field, length_good, length_digits, length_fit, ends_some}

-- a length tells whether the first line spells a record
pub spells_by : (u : List ℕ) (n : ℕ) → n ≡ spelled_length u → (n ≡ 0 → ⊥) → Spells u
unfolding spelled_length
spells_by u n e z = by_bool (spelled (first_line u)) (spells u) (λ h. absurd (z (e ∙ rw h)))

unspelled_by : (u : List ℕ) → spelled_length u ≡ 0 → spelled (first_line u) ≡ false
unspelled_by u z =
    by_bool (spelled (first_line u))
    (λ h. let e = length_good u h in let l = spells_length (spells u h) in absurd (omega arith))
    (λ h. h)

-- where it spells none, nothing is read
pub read_none : (u out : List ℕ) (n : ℕ) → n ≡ spelled_length u → n ≡ 0 → (0 ≡ record_line_length u) × (out ≡ record_laid u out)
unfolding record_line_length good_record record_laid
read_none u out n e z =
    let s = unspelled_by u (sym e ∙ z) in
    (rw s, rw s)

module _ {u : List ℕ} (q : Spells u) where
  spells_long : 11 < length u
  spells_long =
      let l = spells_size q in
      let t = ends_some q.e q.ends in
      omega arith

  -- how many bytes are read, by the length of the line
  pub count_is : (n : ℕ) → n ≡ spelled_length u → (n - 2) / 2 ≡ 5 + length_in u
  count_is n e =
      let l = length_good u (spells_spelled q) in
      let s = spells_length q in
      ⊎_elim (λ w. let k : length q.e ≡ 1 = ap length w in omega arith) (λ w. let k : length q.e ≡ 2 = ap length w in omega arith) q.ends

  length-fits : (value_of (get_or u 1 0) < 16) × (value_of (get_or u 2 0) < 16)
  length-fits = length_fit u (length_digits u q) spells_long

  pub length_small : length_in u < 256
  unfolding length_in
  length_small =
      let f = length-fits in
      byte_small (get_or u 1 0) (get_or u 2 0) f.0 f.1

  pub record_length : length (record_in (first_line u)) ≡ 5 + length_in u
  record_length =
      let t = q.twice in
      let b = bytes-length q.ds in
      let e : length (bytes_of q.ds) ≡ 5 + length_in u = omega arith in
      ap length (spells_record q) ∙ e

  -- n bytes are read from the digits behind the mark
  module _ (n : ℕ) (is : n ≡ 5 + length_in u) where
    pub field_is : take (1 + n * 2 - 1) (drop 1 u) ≡ q.ds
    field_is =
        let e : 1 + n * 2 - 1 ≡ (5 + length_in u) * 2 = omega arith in
        ap (λ (k : ℕ). take k (drop 1 u)) e ∙ spells_field q

    pub field_digits : all_digits (take (1 + n * 2 - 1) (drop 1 u)) ≡ true
    field_digits = ap all_digits field_is ∙ q.digits

    pub field_length : length (take (1 + n * 2 - 1) (drop 1 u)) ≡ n * 2
    field_length = let t = q.twice in let e : length q.ds ≡ n * 2 = omega arith in ap length field_is ∙ e

    module _ (out after : List ℕ) (laid : after ≡ put 0 (bytes_of (take (1 + n * 2 - 1) (drop 1 u))) out) where
      as_record : after ≡ put 0 (record_in (first_line u)) out
      as_record = laid ∙ ap (λ (l : List ℕ). put 0 (bytes_of l) out) field_is ∙ ap (λ (l : List ℕ). put 0 l out) (sym (spells_record q))

      pub record_laid_lem : after ≡ record_laid u out
      unfolding record_laid
      record_laid_lem = rw (spells_spelled q) as_record

      pub record_front : take n after ≡ record_in (first_line u)
      record_front =
          let e : n ≡ length (record_in (first_line u)) = let l = record_length in omega arith in
          ap (λ (k : ℕ). take k after) e ∙ ap (take (length (record_in (first_line u)))) as_record ∙ take_put (record_in (first_line u)) out

  pub length_within : (n : ℕ) → n ≡ spelled_length u → (0 < n) × (n ≤ length u)
  length_within n e =
      let l = length_good u (spells_spelled q) in
      let s = spells_length q in
      let z = spells_size q in
      (omega arith, omega arith)

  -- whether the record is sound tells whether it is read
  pub read_told : (b : Bool) (m : ℕ) → m ≡ spelled_length u → b ≡ sound (record_in (first_line u)) → unwrap_or (then_some b m) 0 ≡ record_line_length u
  unfolding record_line_length good_record
  read_told true m e s = e ∙ length_good u (spells_spelled q) ∙ rw (spells_spelled q, ← s)
  read_told false m e s = rw (spells_spelled q, ← s)
