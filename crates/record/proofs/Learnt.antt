-- What a caller of `read` learns of a line. Assumes nothing.
use Rattle.std.proofs.Common.{◌≡◌, ℕ, ◌+◌, ◌-◌, ◌/◌, ◌<◌, ◌≤◌, true, false, ◌&&◌, List, length, get_or, take, drop, sym, ap, ◌∙◌, arith, get_or-take}
use Rattle.laws.specs.Bytes.{put}
use Rattle.laws.proofs.Bytes.{put-length}
use Rattle.laws.proofs.Append.{take_put}
use Rattle.laws.proofs.Split.{by_bool, and_true}
use Rattle.laws.specs.Lines.{first_line}
use Rattle.laws.proofs.Lines.{first_some}
use Rattle.hexfield.proofs.Fields.{byte_of_lem}
use Rattle.record.specs.Record.{length_in, spelled, record_in, length_of, type_of, sound, good_record}
use Rattle.record.specs.Ways.{record_line_length, record_laid}
use Rattle.record.proofs.Spelling.{Spells, spells, spells_record, spells_length, spells_length_here, ends_some}
use Rattle.record.proofs.Reading.{record_length, length_small}

-- the length field is the first byte of the record
length_field : {u : List ℕ} → (q : Spells u) → length_of (record_in (first_line u)) ≡ length_in u
unfolding length_of
length_field {u} q =
    let t = q.twice in
    let h : 0 < length q.ds / 2 = omega arith in
    ap (λ (l : List ℕ). get_or l 0 0) (spells_record q)
    ∙ sym (byte_of_lem q.ds 0 h)
    ∙ sym (spells_length_here q)

-- the first line of u is no bad record, and its record is in front of `after`
pub record Reads (u out after : List ℕ) : Type 0 where
  pub formed : good_record (first_line u) ≡ true
  pub good : sound (record_in (first_line u)) ≡ true
  pub whole : length (record_in (first_line u)) ≡ 5 + length_of (record_in (first_line u))
  pub short : length_of (record_in (first_line u)) < 256
  pub long : 12 ≤ length (first_line u)
  pub bytes : get_or after 0 0 ≡ length_of (record_in (first_line u))
  pub type : get_or after 3 0 ≡ type_of (record_in (first_line u))
  pub front : (n : ℕ) → n ≡ 5 + length_of (record_in (first_line u)) → take (n - 0) (drop 0 after) ≡ record_in (first_line u)
  pub kept : length after ≡ length out

formed_if : (u : List ℕ) → (record_line_length u ≡ 0 → ⊥) → good_record (first_line u) ≡ true
unfolding record_line_length
formed_if u z = by_bool (good_record (first_line u)) (λ h. h) (λ h. absurd (z (rw h)))

pub reads : (u out after : List ℕ) (n : ℕ) → n ≡ record_line_length u → (n ≡ 0 → ⊥) → after ≡ record_laid u out → 260 ≤ length out → Reads u out after × (n ≡ length (first_line u))
unfolding record_line_length good_record record_laid length_of type_of
reads u out after n e z laid room =
    let f : (spelled (first_line u) && sound (record_in (first_line u))) ≡ true = formed_if u (λ x. z (e ∙ x)) in
    let p = and_true (spelled (first_line u)) (sound (record_in (first_line u))) f in
    let q = spells u p.0 in
    let r = record_in (first_line u) in
    let l : length_of r ≡ length_in u = length_field q in
    let w : length r ≡ 5 + length_in u = record_length q in
    let s = length_small q in
    let is : after ≡ put 0 r out = laid ∙ rw p.0 in
    let fits : 0 + length r ≤ length out = omega arith in
    let front : take (length r) after ≡ r = ap (take (length r)) is ∙ take_put r out in
    let at : (i : ℕ) → i < length r → get_or after i 0 ≡ get_or r i 0 = λ i k. sym (get_or-take (length r) after i 0 k) ∙ ap (λ (x : List ℕ). get_or x i 0) front in
    let long = spells_length q in
    let first : get_or after 0 0 ≡ length_of r = at 0 (omega arith) in
    let fourth : get_or after 3 0 ≡ type_of r = at 3 (omega arith) in (
      record {
        formed = f;
        good = p.1;
        whole = w ∙ ap (λ (k : ℕ). 5 + k) (sym l);
        short = let g : length_of r < 256 = omega arith in g;
        long = let g : 12 ≤ length (first_line u) = let x = ends_some q.e q.ends in omega arith in g;
        bytes = first;
        type = fourth;
        front = λ m k. let g : m - 0 ≡ length r = omega arith in ap (λ (x : ℕ). take x after) g ∙ front;
        kept = ap length is ∙ put-length 0 r out fits;
      },
      e ∙ rw f,
    )

-- a length of 0 is that of a bad record
pub bad_record : (u : List ℕ) → 0 < length u → record_line_length u ≡ 0 → good_record (first_line u) ≡ false
unfolding record_line_length
bad_record u some z =
    by_bool (good_record (first_line u))
    (λ h. let s = first_some u some in let l : length (first_line u) ≡ 0 = rw h at z in absurd (omega arith))
    (λ h. h)
