-- Writing a record's line, step by step. Assumes nothing.
use Rattle.std.proofs.Common.{◌≡◌, ℕ, suc, ◌+◌, ◌-◌, ◌*◌, ◌/◌, ◌%◌, ◌<◌, ◌≤◌, List, [], ◌∷◌, ◌++◌, length, take, set, sym, ap, ◌∙◌, ap₂, add-one, arith, length-append, length-set, take-suc-set}
use lib.Seq.{sets}
use Rattle.laws.specs.Bytes.{put}
use Rattle.laws.proofs.Bytes.{sets-put, put-length}
use Rattle.laws.proofs.Append.{sets-append, take_put, put_behind}
use Rattle.hexfield.specs.Hex.{hex_of}
use Rattle.hexfield.proofs.Fields.{hex_length}
use Rattle.record.specs.Record.{sum_of, summed, record_of, record_line}

pub line_length_of : (r : List ℕ) → length (record_line r) ≡ 2 + length r * 2
unfolding record_line
line_length_of r =
    let h = hex_length r in
    simp length-append (omega arith)

pub record_length_of : (type offset : ℕ) (xs : List ℕ) → length (record_of type offset xs) ≡ 5 + length xs
unfolding record_of summed
record_length_of type offset xs = simp length-append (omega arith)

-- the mark, the digits and the end, one after the other
pub line-spelled : (r out o₁ : List ℕ) (at end : ℕ) → at + (2 + length r * 2) ≤ length out → end ≡ at + 1 + length r * 2 → o₁ ≡ put (at + 1) (hex_of r) (set out at 58) → set o₁ end 10 ≡ put at (record_line r) out
unfolding record_line
line-spelled r out o₁ at end room is one =
    let h = hex_length r in
    let l = length-set out at 58 in
    let fits : at + 1 + length (hex_of r) ≤ length (set out at 58) = omega arith in
    let laid : o₁ ≡ sets (set out at 58) (suc at) (hex_of r) = one ∙ sym (sets-put (hex_of r) (set out at 58) (at + 1) fits) ∙ ap (λ (i : ℕ). sets (set out at 58) i (hex_of r)) (add-one at) in
    let stop : suc at + length (hex_of r) ≡ end = omega arith in
    let k : length (58 ∷ (hex_of r ++ (10 ∷ []))) ≡ 2 + length r * 2 = simp length-append (omega arith) in
    let whole : at + length (58 ∷ (hex_of r ++ (10 ∷ []))) ≤ length out = omega arith in
    sym
    (sym (sets-put (58 ∷ (hex_of r ++ (10 ∷ []))) out at whole)
    ∙ sets-append (hex_of r) (10 ∷ []) (set out at 58) (suc at)
    ∙ ap₂ (λ (m : List ℕ) (i : ℕ). sets m i (10 ∷ [])) (sym laid) stop)

-- head, data and sum in a buffer z
module _ (head xs z o₁ o₂ : List ℕ) (four : length head ≡ 4) (room : 5 + length xs ≤ length z) (one : o₁ ≡ put 0 head z) (two : o₂ ≡ put 4 xs o₁) where
  joined : o₂ ≡ put 0 (head ++ xs) z
  joined =
      let f : 4 ≡ 0 + length head = omega arith in
      let g : 4 + length xs ≤ length z = omega arith in
      two ∙ ap (put 4 xs) one ∙ put_behind 0 4 head xs z f g

  pub joined_length : length o₂ ≡ length z
  joined_length =
      let l : length (head ++ xs) ≡ length head + length xs = length-append head xs in
      let r : 0 + length (head ++ xs) ≤ length z = omega arith in
      ap length joined ∙ put-length 0 (head ++ xs) z r

  pub joined_front : (n : ℕ) → n ≡ 4 + length xs → take n o₂ ≡ head ++ xs
  joined_front n is =
      let l : length (head ++ xs) ≡ length head + length xs = length-append head xs in
      let e : n ≡ length (head ++ xs) = omega arith in
      ap (λ (k : ℕ). take k o₂) e ∙ ap (take (length (head ++ xs))) joined ∙ take_put (head ++ xs) z

  pub record_made : (n s c : ℕ) → n ≡ 4 + length xs → s ≡ sum_of (take n o₂) % 256 → c ≡ (256 - s) % 256 → take (n + 1) (set o₂ n c) ≡ summed (head ++ xs)
  unfolding summed
  record_made n s c is e f =
      let g : c ≡ (256 - sum_of (head ++ xs) % 256) % 256 = f ∙ ap (λ (k : ℕ). (256 - k) % 256) (e ∙ ap (λ (l : List ℕ). sum_of l % 256) (joined_front n is)) in
      let l = joined_length in
      let inside : n < length o₂ = omega arith in
      let next : n + 1 ≡ suc n = omega arith in
      ap (λ (k : ℕ). take k (set o₂ n c)) next
      ∙ take-suc-set o₂ n c inside
      ∙ ap₂ (λ (h : List ℕ) (x : ℕ). h ++ (x ∷ [])) (joined_front n is) g

  -- with the head of a record, the line of all that is the record's
  module _ (type offset n s c : ℕ) (is : n ≡ 4 + length xs) (heads : head ≡ length xs ∷ offset / 256 ∷ offset % 256 ∷ type ∷ []) (e : s ≡ sum_of (take n o₂) % 256) (f : c ≡ (256 - s) % 256) where
    made : take (n + 1) (set o₂ n c) ≡ record_of type offset xs
    unfolding record_of
    made = record_made n s c is e f ∙ ap (λ (h : List ℕ). summed (h ++ xs)) heads

    pub write-room : (at : ℕ) (out : List ℕ) → at + length (record_line (record_of type offset xs)) ≤ length out → at + (2 + length (take (n + 1) (set o₂ n c)) * 2) ≤ length out
    write-room at out h =
        let l = ap length made in
        let k = line_length_of (record_of type offset xs) in
        omega arith

    pub written : (at : ℕ) (out after : List ℕ) → after ≡ put at (record_line (take (n + 1) (set o₂ n c))) out → (after ≡ put at (record_line (record_of type offset xs)) out) × (n * 2 + 4 ≡ length (record_line (record_of type offset xs)))
    written at out after w =
        let k = line_length_of (record_of type offset xs) in
        let l = record_length_of type offset xs in
        (w ∙ ap (λ (r : List ℕ). put at (record_line r) out) made, omega arith)
