-- Writing an image's text: lengths, one record further, and the parts in their order. Assumes nothing.
use mathlib.Core.Path.{◌≡◌, refl, ap, ap₂, ◌∙◌, sym}
use mathlib.Core.List.{List, [], ◌++◌, append_assoc}
use Prim.Native.Nat.{ℕ, zero, suc, ◌+◌, ◌-◌, ◌*◌, ◌%◌, ◌≤◌, ◌<◌}
use native.Mathlib.Omega.{arith}
use lib.ListN.{length, take, drop, length-append, length-drop, take-append-drop, drop_of_length-le}
use lib.Seq.{sets, take_all, drop-drop}
use borrow.Author.Tests.{lt-ltb, le-ltb}
use Rattle.laws.specs.Bytes.{put}
use Rattle.laws.proofs.Bytes.{sets-put, put-length, take_at_most}
use Rattle.laws.proofs.Append.{sets-append, put_behind}
use Rattle.laws.proofs.Split.{by_lt}
use Rattle.buffer.specs.Least.{least_of}
use Rattle.board.specs.declared.Board.{Board}
use Rattle.board.specs.Layout.{flash_first}
use Rattle.record.specs.Record.{record_of, record_line, offset_count}
use Rattle.record.proofs.Writing.{line_length_of, record_length_of}
use Rattle.ihex.specs.Writing.{records_of, upper_half, upper_line, data_lines, end_line, hex_text}
use Rattle.ihex.specs.Ways.{OneSegment, data_text, text_bytes}

pub written_length : (type offset : ℕ) (xs : List ℕ) → length (record_line (record_of type offset xs)) ≡ 12 + length xs * 2
written_length type offset xs =
    let a = line_length_of (record_of type offset xs) in
    let b = record_length_of type offset xs in
    omega arith

data_length_lem : (k offset : ℕ) (xs : List ℕ) → k ≡ records_of (length xs) → length (data_lines k offset xs) ≡ records_of (length xs) * 12 + length xs * 2
unfolding data_lines
data_length_lem zero offset xs e = omega arith
data_length_lem (suc k) offset xs e =
    let r = drop 16 xs in
    let d : length (drop 16 xs) ≡ length xs - 16 = length-drop 16 xs in
    let a : length (take 16 xs) + length (drop 16 xs) ≡ length xs = sym (length-append (take 16 xs) (drop 16 xs)) ∙ ap length (take-append-drop 16 xs) in
    let f : k ≡ records_of (length (drop 16 xs)) = omega arith in
    let i = data_length_lem k (offset + 16) (drop 16 xs) f in
    let w = written_length 0 offset (take 16 xs) in
    let l = length-append (record_line (record_of 0 offset (take 16 xs))) (data_lines k (offset + 16) (drop 16 xs)) in
    omega arith

upper_length : (board : Board) → length (upper_line board) ≡ 16
upper_length board = written_length 4 0 (upper_half board)

end_length : length end_line ≡ 12
end_length = written_length 1 0 []

pub text-length : (board : Board) (xs : List ℕ) → length (hex_text board xs) ≡ text_bytes (length xs)
unfolding hex_text
text-length board xs =
    let lines : List ℕ = data_lines (records_of (length xs)) (flash_first board % offset_count) xs in
    let d : length lines ≡ records_of (length xs) * 12 + length xs * 2 = data_length_lem (records_of (length xs)) (flash_first board % offset_count) xs refl in
    let u = upper_length board in
    let e = end_length in
    let a = length-append (upper_line board) (lines ++ end_line) in
    let b = length-append lines end_line in
    omega arith

-- on such a board the data begin at offset 0
pub text_is : (board : Board) → OneSegment board → (xs : List ℕ) → hex_text board xs ≡ upper_line board ++ (data_text xs ++ end_line)
unfolding hex_text data_text
text_is board one xs = rw one.begins

-- what is left of the data from a place on
unfoldable pub left : List ℕ → ℕ → List ℕ
left xs from = data_lines (records_of (length (drop from xs))) from (drop from xs)

pub left_start : (xs : List ℕ) → left xs 0 ≡ data_text xs
unfolding left data_text
left_start xs = refl

pub left-none : (xs : List ℕ) (from : ℕ) → length xs ≤ from → left xs from ≡ []
unfolding left data_lines
left-none xs from h = rw (drop_of_length-le xs h)

pub left-first : (xs : List ℕ) (from : ℕ) → from < length xs → left xs from ≡ record_line (record_of 0 from (take 16 (drop from xs))) ++ left xs (from + 16)
unfolding left data_lines
left-first xs from h =
    let d : length (drop from xs) ≡ length xs - from = length-drop from xs in
    let e : length (drop (from + 16) xs) ≡ length xs - (from + 16) = length-drop (from + 16) xs in
    let k : records_of (length (drop from xs)) ≡ suc (records_of (length (drop (from + 16) xs))) = omega arith in
    ap (λ (m : ℕ). data_lines m from (drop from xs)) k
    ∙ ap (λ (l : List ℕ). record_line (record_of 0 from (take 16 (drop from xs))) ++ data_lines (records_of (length (drop (from + 16) xs))) (from + 16) l) (drop-drop 16 from xs)

-- the part of an image that a record takes
pub part_is : (xs : List ℕ) (from end : ℕ) → from < length xs → end ≡ least_of (from + 16) (length xs) → take (end - from) (drop from xs) ≡ take 16 (drop from xs)
part_is xs from end h e =
    let d : length (drop from xs) ≡ length xs - from = length-drop from xs in
    by_lt (from + 16) (length xs)
    (λ l.
    let x : end ≡ from + 16 = e ∙ rw (lt-ltb (from + 16) (length xs) l) in
    let y : end - from ≡ 16 = omega arith in
    ap (λ (n : ℕ). take n (drop from xs)) y)
    (λ l.
    let x : end ≡ length xs = e ∙ rw (le-ltb (from + 16) (length xs) l) in
    let y : length (drop from xs) ≤ end - from = omega arith in
    let z : length (drop from xs) ≤ 16 = omega arith in
    take_all (end - from) (drop from xs) y ∙ sym (take_all 16 (drop from xs) z))

-- one record written into out at place `to`
module _ (xs out : List ℕ) (from to end : ℕ) (more : from < length xs) (ends : end ≡ least_of (from + 16) (length xs)) (room : to + length (left xs from) ≤ length out) where
  abbrev line : List ℕ
  line = record_line (record_of 0 from (take (end - from) (drop from xs)))

  line_is : line ≡ record_line (record_of 0 from (take 16 (drop from xs)))
  line_is = ap (λ (l : List ℕ). record_line (record_of 0 from l)) (part_is xs from end more ends)

  parts : left xs from ≡ line ++ left xs (from + 16)
  parts = left-first xs from more ∙ ap (λ (l : List ℕ). l ++ left xs (from + 16)) (sym line_is)

  sum : length (left xs from) ≡ length line + length (left xs (from + 16))
  sum = ap length parts ∙ length-append line (left xs (from + 16))

  pub line-room : (length (take (end - from) (drop from xs)) < 256) × (to + length line ≤ length out)
  line-room =
      let s = sum in
      let p : length (take (end - from) (drop from xs)) ≤ 16 = rw (part_is xs from end more ends) (take_at_most 16 (drop from xs)) in
      (omega arith, omega arith)

  pub line_turn : (out' : List ℕ) (r : ℕ) → out' ≡ put to line out → r ≡ length line → (sets out' (to + r) (left xs (from + 16)) ≡ sets out to (left xs from)) × (to + r + length (left xs (from + 16)) ≡ to + length (left xs from))
  line_turn out' r laid is =
      let s = sum in
      let f : to + length line ≤ length out = omega arith in
      (ap₂ (λ (m : List ℕ) (k : ℕ). sets m (to + k) (left xs (from + 16))) (laid ∙ sym (sets-put line out to f)) is ∙ sym (sets-append line (left xs (from + 16)) out to) ∙ ap (sets out to) (sym parts), omega arith)

-- the end of the data
pub data_laid : (xs out out₀ : List ℕ) (from to at : ℕ) → length xs ≤ from → at + length (data_text xs) ≤ length out₀ → sets out to (left xs from) ≡ sets out₀ at (data_text xs) → to + length (left xs from) ≡ at + length (data_text xs) → (out ≡ put at (data_text xs) out₀) × (to ≡ at + length (data_text xs))
data_laid xs out out₀ from to at over room laid total =
    let e = left-none xs from over in
    let z : to + 0 ≡ at + length (data_text xs) = ap (λ (l : List ℕ). to + length l) (sym e) ∙ total in
    (ap (sets out to) (sym e) ∙ laid ∙ sets-put (data_text xs) out₀ at room, omega arith)

-- the three parts of a text in out, one behind the other; the line of the upper half as the code makes it
module _ (board : Board) (one : OneSegment board) (xs out : List ℕ) (room : length (hex_text board xs) ≤ length out) (upper : List ℕ) (is : upper ≡ upper_line board) where
  upper_size : length upper ≡ 16
  upper_size = ap length is ∙ upper_length board

  total : 28 + length (data_text xs) ≤ length out
  unfolding data_text
  total = let t = text-length board xs in let d = data_length_lem (records_of (length xs)) 0 xs refl in omega arith

  pub upper_room : 0 + length upper ≤ length out
  upper_room = let t = total in let u = upper_size in omega arith

  module _ (o₁ : List ℕ) (a : ℕ) (first : o₁ ≡ put 0 upper out) (after : a ≡ length upper) where
    first-kept : length o₁ ≡ length out
    first-kept = ap length first ∙ put-length 0 upper out upper_room

    pub data_room : a + length (data_text xs) ≤ length o₁
    data_room = let t = total in let u = upper_size in let k = first-kept in omega arith

    module _ (o₂ : List ℕ) (b : ℕ) (two : o₂ ≡ put a (data_text xs) o₁) (behind : b ≡ a + length (data_text xs)) where
      second_kept : length o₂ ≡ length out
      second_kept = ap length two ∙ put-length a (data_text xs) o₁ data_room ∙ first-kept

      pub end_room : b + length end_line ≤ length o₂
      end_room = let t = total in let u = upper_size in let e = end_length in let k = second_kept in omega arith

      pub text-laid : (o₃ : List ℕ) → o₃ ≡ put b end_line o₂ → o₃ ≡ put 0 (hex_text board xs) out
      text-laid o₃ three =
          let u = upper_size in
          let e = end_length in
          let t = total in
          let l = length-append upper (data_text xs) in
          let j₁ : a ≡ 0 + length upper = omega arith in
          let r₁ : a + length (data_text xs) ≤ length out = omega arith in
          let both : o₂ ≡ put 0 (upper ++ data_text xs) out = two ∙ ap (put a (data_text xs)) first ∙ put_behind 0 a upper (data_text xs) out j₁ r₁ in
          let j₂ : b ≡ 0 + length (upper ++ data_text xs) = omega arith in
          let r₂ : b + length end_line ≤ length out = omega arith in
          three
          ∙ ap (put b end_line) both
          ∙ put_behind 0 b (upper ++ data_text xs) end_line out j₂ r₂
          ∙ ap (λ (x : List ℕ). put 0 x out) (append_assoc upper (data_text xs) end_line ∙ ap (λ (u : List ℕ). u ++ (data_text xs ++ end_line)) is ∙ sym (text_is board one xs))
