-- A line that was written, read again; and the fields of a record that was made. Assumes nothing.
use Rattle.std.proofs.Common.{◌≡◌, ℕ, ◌+◌, ◌-◌, ◌*◌, ◌/◌, ◌%◌, ◌<◌, ◌≤◌, true, List, [], ◌∷◌, ◌++◌, length, get_or, drop, sym, refl, ap, ◌∙◌, ap₂, inl, append_assoc, arith, lt-ltb}
use lib.Seq.{take-append_seam, drop-append_seam}
use Rattle.laws.specs.Lists.{all_bytes}
use Rattle.laws.proofs.Lists.{bytes-append}
use Rattle.laws.specs.Lines.{first_line, lines_of}
use Rattle.laws.proofs.Lines.{lines_first}
use Rattle.hexfield.specs.Hex.{hex_of}
use Rattle.hexfield.proofs.Fields.{hex_length, bytes_hex, digits_hex, byte_of_lem}
use Rattle.record.specs.Record.{length_in, spelled, record_in, length_of, offset_of, type_of, data_of, sum_of, suits, sound, good_record, summed, record_of, record_line}
use Rattle.record.proofs.Spelling.{Spells, length_in_lem, spells_first, spells_record, spells_spelled}
use Rattle.record.proofs.Writing.{record_length_of}

-- a record of bytes, as long as it says
module _ (r : List ℕ) (bytes : all_bytes r ≡ true) (whole : length r ≡ 5 + length_of r) where
  front : (s : List ℕ) → record_line r ++ s ≡ 58 ∷ (hex_of r ++ ((10 ∷ []) ++ s))
  unfolding record_line
  front s = ap (λ (l : List ℕ). 58 ∷ l) (append_assoc (hex_of r) (10 ∷ []) s)

  length_there : (s : List ℕ) → length_in (record_line r ++ s) ≡ length_of r
  unfolding length_of
  length_there s =
      let l = hex_length r in
      let two : 2 ≤ length (hex_of r) = omega arith in
      let half : 0 < length (hex_of r) / 2 = omega arith in
      ap length_in (front s)
      ∙ length_in_lem (hex_of r) ((10 ∷ []) ++ s) two
      ∙ byte_of_lem (hex_of r) 0 half
      ∙ ap (λ (l : List ℕ). get_or l 0 0) (bytes_hex r bytes)

  spells_written : (s : List ℕ) → Spells (record_line r ++ s)
  spells_written s =
      let l = hex_length r in
      let e = length_there s in
      let t : length (hex_of r) ≡ (5 + length_in (record_line r ++ s)) * 2 = omega arith in
      record { ds = hex_of r; e = 10 ∷ []; r = s; digits = digits_hex r; twice = t; ends = inl refl; is = front s }

  pub written_first : (s : List ℕ) → first_line (record_line r ++ s) ≡ record_line r
  unfolding record_line spells_written
  written_first s = spells_first (spells_written s)

  pub written_record : record_in (record_line r) ≡ r
  unfolding spells_written
  written_record = ap record_in (sym (written_first [])) ∙ spells_record (spells_written []) ∙ bytes_hex r bytes

  pub written_formed : sound r ≡ true → good_record (record_line r) ≡ true
  unfolding good_record
  written_formed h =
      let s : spelled (record_line r) ≡ true = ap spelled (sym (written_first [])) ∙ spells_spelled (spells_written []) in
      rw (s, ap sound written_record ∙ h)

  pub written_lines : (s : List ℕ) → lines_of (record_line r ++ s) ≡ record_line r ∷ lines_of s
  written_lines s =
      let some : 0 < length (record_line r ++ s) = rw (front s) (omega arith) in
      lines_first (record_line r ++ s) some
      ∙ ap₂ (λ (l : List ℕ) (t : List ℕ). l ∷ lines_of t) (written_first s) (ap (λ (l : List ℕ). drop (length l) (record_line r ++ s)) (written_first s) ∙ drop-append_seam (record_line r) s)

-- all bytes with the sum
sum-append : (xs ys : List ℕ) → sum_of (xs ++ ys) ≡ sum_of xs + sum_of ys
unfolding sum_of
sum-append [] ys = omega arith
sum-append (x ∷ xs) ys = let i = sum-append xs ys in omega arith

sum_one : (k : ℕ) → sum_of (k ∷ []) ≡ k
unfolding sum_of
sum_one k = omega arith

pub summed_zero : (r : List ℕ) → sum_of (summed r) % 256 ≡ 0
unfolding summed
summed_zero r =
    let c = (256 - sum_of r % 256) % 256 in
    let a : sum_of (r ++ (c ∷ [])) ≡ sum_of r + sum_of (c ∷ []) = sum-append r (c ∷ []) in
    let b : sum_of (c ∷ []) ≡ c = sum_one c in
    omega arith

-- a record that was made
module _ (type offset : ℕ) (xs : List ℕ) where
  pub made_type : type_of (record_of type offset xs) ≡ type
  unfolding type_of record_of summed
  made_type = refl

  pub made_length : length_of (record_of type offset xs) ≡ length xs
  unfolding length_of record_of summed
  made_length = refl

  pub made_offset : offset_of (record_of type offset xs) ≡ offset
  unfolding offset_of record_of summed
  made_offset = omega arith

  pub made_data : data_of (record_of type offset xs) ≡ xs
  unfolding data_of length_of record_of summed
  made_data = take-append_seam xs _

  pub made_whole : length (record_of type offset xs) ≡ 5 + length_of (record_of type offset xs)
  made_whole = record_length_of type offset xs ∙ ap (λ (k : ℕ). 5 + k) (sym made_length)

  made_sum : sum_of (record_of type offset xs) % 256 ≡ 0
  unfolding record_of
  made_sum = summed_zero (length xs ∷ offset / 256 ∷ offset % 256 ∷ type ∷ xs)

  pub made_sound : suits type (length xs) offset ≡ true → sound (record_of type offset xs) ≡ true
  unfolding sound
  made_sound h =
      let z = made_sum in
      rw (made_type, made_length, made_offset, h, z)

  pub made_bytes : type < 256 → offset < 65536 → length xs < 256 → all_bytes xs ≡ true → all_bytes (record_of type offset xs) ≡ true
  unfolding record_of summed all_bytes
  made_bytes t o l b =
      let hi : offset / 256 < 256 = omega arith in
      let lo : offset % 256 < 256 = omega arith in
      let s = sum_of (length xs ∷ offset / 256 ∷ offset % 256 ∷ type ∷ xs) in
      let c : (256 - s % 256) % 256 < 256 = omega arith in
      let end : all_bytes ((256 - s % 256) % 256 ∷ []) ≡ true = rw (lt-ltb ((256 - s % 256) % 256) 256 c) in
      rw (lt-ltb (length xs) 256 l, lt-ltb (offset / 256) 256 hi, lt-ltb (offset % 256) 256 lo, lt-ltb type 256 t) (bytes-append xs ((256 - s % 256) % 256 ∷ []) b end)
