-- What is known after values were learnt or all was forgotten, and what the tests of a span of marks say of each byte. Assumes nothing.
use mathlib.Core.Path.{◌≡◌, refl, ap, ◌∙◌, sym}
use mathlib.Core.Bool.{true, false, ◌&&◌}
use mathlib.Core.List.{List, ◌++◌}
use Prim.Native.Nat.{ℕ, zero, suc, ◌+◌, ◌-◌, ◌≤◌, ◌<◌}
use native.Mathlib.Omega.{arith}
use lib.Dec.{eqb}
use lib.ListN.{length, take, drop, get_or, replicate, length-append, length-replicate, get_or-replicate, replicate-append-replicate}
use lib.Seq.{length-take-le, drop-cons}
use borrow.Author.Tests.{eqb-true, eq-eqb}
use Rattle.laws.specs.Bytes.{put, filled}
use Rattle.laws.specs.Lists.{all_are}
use Rattle.laws.proofs.Append.{put_behind}
use Rattle.laws.proofs.Bytes.{put-length, filled-length}
use Rattle.laws.proofs.Places.{Outside, put_in, put_outside}
use Rattle.laws.proofs.Split.{by_eq, and_true}
use Rattle.board.specs.declared.Board.{Board}
use Rattle.board.specs.Layout.{memory_bytes}
use Rattle.request.specs.Request.{transfer_bytes}
use Rattle.marks.specs.Work.{Work, known_mark, known, valued, blocked, knowing, learnt, forgotten, all_known, none_known, Sized}

-- other values, and another block, leave what is known
pub valued-known : (m : List ℕ) (w : Work) (i : ℕ) → known (valued m w) i ≡ known w i
unfolding known
valued-known m w i = refl

pub blocked-known : (b : List ℕ) (w : Work) (i : ℕ) → known (blocked b w) i ≡ known w i
unfolding known
blocked-known b w i = refl

pub valued_sized : (board : Board) (m : List ℕ) (w : Work) → length m ≡ memory_bytes board → Sized board w → Sized board (valued m w)
valued_sized board m w l s = record { values = l; marks = s.marks; block = s.block }

pub blocked_sized : (board : Board) (b : List ℕ) (w : Work) → length b ≡ transfer_bytes → Sized board w → Sized board (blocked b w)
blocked_sized board b w l s = record { values = s.values; marks = s.marks; block = l }

-- what is learnt are values
learnt-values : (from : ℕ) (xs : List ℕ) (w : Work) → (learnt from xs w).values ≡ put from xs w.values
unfolding learnt knowing
learnt-values from xs w = refl

learnt-block : (from : ℕ) (xs : List ℕ) (w : Work) → (learnt from xs w).block ≡ w.block
unfolding learnt knowing
learnt-block from xs w = refl

-- values that were laid, and as many bytes that became known
pub learnt_is : (from count : ℕ) (xs : List ℕ) (w w₁ w₂ : Work) → length xs ≡ count → w₁ ≡ valued (put from xs w.values) w → w₂ ≡ knowing from count w₁ → w₂ ≡ learnt from xs w
unfolding learnt
learnt_is from count xs w w₁ w₂ l a b = b ∙ rw (a, l)

module _ (board : Board) (from : ℕ) (xs : List ℕ) (w : Work) (h : from + length xs ≤ memory_bytes board) (s : Sized board w) where
  ones : List ℕ
  ones = replicate (length xs) known_mark

  ones_length : length ones ≡ length xs
  unfolding ones
  ones_length = length-replicate {A = ℕ} (length xs) known_mark

  learnt-marks : (learnt from xs w).marks ≡ put from ones w.marks
  unfolding learnt knowing filled ones
  learnt-marks = refl

  values-room : from + length xs ≤ length w.values
  values-room = omega (arith, s.values)

  marks-room : from + length ones ≤ length w.marks
  marks-room = omega (arith, s.marks, ones_length)

  pub learnt_sized : Sized board (learnt from xs w)
  learnt_sized =
      record {
        values = ap length (learnt-values from xs w) ∙ put-length from xs w.values values-room ∙ s.values;
        marks = ap length learnt-marks ∙ put-length from ones w.marks marks-room ∙ s.marks;
        block = ap length (learnt-block from xs w) ∙ s.block;
      }

  pub learnt-known : (i : ℕ) → from ≤ i → i < from + length xs → known (learnt from xs w) i ≡ true
  unfolding known ones
  learnt-known i a b =
      let high : i < from + length ones = omega (arith, ones_length) in
      let place : i - from < length xs = omega arith in
      let one : get_or (learnt from xs w).marks i 0 ≡ known_mark = ap (λ (l : List ℕ). get_or l i 0) learnt-marks ∙ put_in from ones w.marks marks-room i a high ∙ get_or-replicate (length xs) (i - from) known_mark 0 place in
      rw one (eq-eqb known_mark known_mark refl)

  pub learnt_known_outside : (i : ℕ) → Outside from (length xs) i → known (learnt from xs w) i ≡ known w i
  unfolding known
  learnt_known_outside i o =
      ap (λ (k : ℕ). eqb k known_mark) (ap (λ (l : List ℕ). get_or l i 0) learnt-marks ∙ put_outside from ones w.marks i marks-room (rw ones_length o))

  pub learnt_value : (i : ℕ) → from ≤ i → i < from + length xs → get_or (learnt from xs w).values i 0 ≡ get_or xs (i - from) 0
  learnt_value i a b = ap (λ (l : List ℕ). get_or l i 0) (learnt-values from xs w) ∙ put_in from xs w.values values-room i a b

  pub learnt_value_outside : (i : ℕ) → Outside from (length xs) i → get_or (learnt from xs w).values i 0 ≡ get_or w.values i 0
  learnt_value_outside i o = ap (λ (l : List ℕ). get_or l i 0) (learnt-values from xs w) ∙ put_outside from xs w.values i values-room o

-- so many bytes of the block are there
pub block-front : (board : Board) (count : ℕ) (w : Work) → Sized board w → count ≤ transfer_bytes → length (take count w.block) ≡ count
block-front board count w s h =
    let room : count ≤ length w.block = omega (arith, s.block) in
    length-take-le count w.block room

-- values learnt behind values are learnt with them
pub learnt_behind : (board : Board) (from at : ℕ) (xs ys : List ℕ) (w : Work) → at ≡ from + length xs → at + length ys ≤ memory_bytes board → Sized board w → learnt at ys (learnt from xs w) ≡ learnt from (xs ++ ys) w
unfolding learnt knowing filled
learnt_behind board from at xs ys w e h s =
    let one : List ℕ → List ℕ = λ (zs : List ℕ). replicate (length zs) known_mark in
    let a : length (replicate (length xs) known_mark) ≡ length xs = length-replicate {A = ℕ} (length xs) known_mark in
    let b : length (replicate (length ys) known_mark) ≡ length ys = length-replicate {A = ℕ} (length ys) known_mark in
    let values : at + length ys ≤ length w.values = omega (arith, s.values) in
    let next : at ≡ from + length (replicate (length xs) known_mark) = omega arith in
    let marks : at + length (replicate (length ys) known_mark) ≤ length w.marks = omega (arith, s.marks) in
    let both : replicate (length xs) known_mark ++ replicate (length ys) known_mark ≡ replicate (length (xs ++ ys)) known_mark = replicate-append-replicate (length xs) (length ys) known_mark ∙ ap (λ (k : ℕ). replicate k known_mark) (sym (length-append xs ys)) in
    rw (put_behind from at xs ys w.values e values, put_behind from at (replicate (length xs) known_mark) (replicate (length ys) known_mark) w.marks next marks, both)

-- nothing is known after all was forgotten
module _ (board : Board) (w : Work) (s : Sized board w) where
  pub forgotten_sized : Sized board (forgotten board w)
  unfolding forgotten
  forgotten_sized =
      let room : 0 + memory_bytes board ≤ length w.marks = omega (arith, s.marks) in
      record { values = s.values; marks = filled-length 0 (memory_bytes board) 0 w.marks room ∙ s.marks; block = s.block }

  pub forgotten_unknown : (i : ℕ) → i < memory_bytes board → known (forgotten board w) i ≡ false
  unfolding forgotten known known_mark filled
  forgotten_unknown i h =
      let zeros : List ℕ = replicate (memory_bytes board) 0 in
      let l : length zeros ≡ memory_bytes board = length-replicate {A = ℕ} (memory_bytes board) 0 in
      let room : 0 + length zeros ≤ length w.marks = omega (arith, s.marks) in
      let low : 0 ≤ i = omega arith in
      let high : i < 0 + length zeros = omega arith in
      let place : i - 0 < memory_bytes board = omega arith in
      rw (put_in 0 zeros w.marks room i low high ∙ get_or-replicate (memory_bytes board) (i - 0) 0 0 place)

-- the tests of a span, byte by byte
pub all_none : (from : ℕ) (w : Work) → all_known from 0 w ≡ true
unfolding all_known all_are
all_none from w = refl

pub all_next : (board : Board) (from count : ℕ) (w : Work) → Sized board w → from < memory_bytes board → all_known from (suc count) w ≡ (known w from && all_known (suc from) count w)
unfolding all_known all_are known
all_next board from count w s h =
    let inside : from < length w.marks = omega (arith, s.marks) in
    rw (drop-cons w.marks from 0 inside)

pub all_known_lem : (board : Board) (from count : ℕ) (w : Work) → Sized board w → from + count ≤ memory_bytes board → all_known from count w ≡ true → (i : ℕ) → from ≤ i → i < from + count → known w i ≡ true
all_known_lem board from zero w s h e i a b = absurd (omega arith)
all_known_lem board from (suc count) w s h e i a b =
    let parts = and_true (known w from) (all_known (suc from) count w) (sym (all_next board from count w s (omega arith)) ∙ e) in
    by_eq i from (λ z. ap (known w) z ∙ parts.0) (λ z. all_known_lem board (suc from) count w s (omega arith) parts.1 i (omega arith) (omega arith))

-- a mark of 0 is none
zero_unknown : (count from : ℕ) (ms : List ℕ) → from + count ≤ length ms → all_are 0 count (drop from ms) ≡ true → (i : ℕ) → from ≤ i → i < from + count → eqb (get_or ms i 0) known_mark ≡ false
unfolding all_are known_mark
zero_unknown zero from ms h e i a b = absurd (omega arith)
zero_unknown (suc count) from ms h e i a b =
    let inside : from < length ms = omega arith in
    let parts = and_true (eqb (get_or ms from 0) 0) (all_are 0 count (drop (suc from) ms)) (rw (drop-cons ms from 0 inside) at e) in
    by_eq i from (λ z. ap (λ (k : ℕ). eqb (get_or ms k 0) known_mark) z ∙ ap (λ (x : ℕ). eqb x known_mark) (eqb-true (get_or ms from 0) 0 parts.0)) (λ z. zero_unknown count (suc from) ms (omega arith) parts.1 i (omega arith) (omega arith))

pub none-known : (board : Board) (from count : ℕ) (w : Work) → Sized board w → from + count ≤ memory_bytes board → none_known from count w ≡ true → (i : ℕ) → from ≤ i → i < from + count → known w i ≡ false
unfolding none_known known
none-known board from count w s h e i a b =
    let room : from + count ≤ length w.marks = omega (arith, s.marks) in
    zero_unknown count from w.marks room e i a b
