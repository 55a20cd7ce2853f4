-- What a store into a work area does to what it says. Assumes nothing.
use mathlib.Core.Path.{◌≡◌, refl, ap, ◌∙◌, sym}
use mathlib.Core.Logic.{inl}
use mathlib.Core.List.{List, [], ◌∷◌}
use Prim.Native.Nat.{ℕ, ◌+◌, ◌-◌, ◌≤◌, ◌<◌}
use native.Mathlib.Omega.{arith}
use lib.ListN.{length, take, drop, get_or, set}
use lib.Seq.{ext_get_or}
use Rattle.std.proofs.lemmas.List.{take-take}
use Rattle.laws.specs.Bytes.{put, Apart}
use Rattle.laws.proofs.Bytes.{sets-put}
use Rattle.laws.proofs.Split.{by_lt}
use Rattle.laws.proofs.Places.{apart_within, apart_swapped, part_length, part_at, part_put_in, part_put_out}
use Rattle.board.specs.declared.Board.{Board}
use Rattle.board.specs.Layout.{memory_bytes}
use Rattle.request.specs.Request.{transfer_bytes}
use Rattle.marks.specs.Area.{work_bytes}
use Rattle.marks.specs.Work.{Work, values_from, marks_from, block_from, work_of, valued, marked, blocked, Sized}

-- what begins at an offset in a part and ends there is apart from what the part is apart from
offset_apart : (from count other others at size : ℕ) → at + size ≤ count → Apart from count other others → Apart (from + at) size other others
offset_apart from count other others at size h o = apart_within from count (from + at) size other others (omega arith) (omega arith) o

-- the three parts of a work area have no place in common
module _ (board : Board) where
  values-marks : Apart (values_from board) (memory_bytes board) (marks_from board) (memory_bytes board)
  unfolding values_from marks_from
  values-marks = let z : values_from board + memory_bytes board ≤ marks_from board = omega arith in inl z

  values-block : Apart (values_from board) (memory_bytes board) (block_from board) transfer_bytes
  unfolding values_from block_from
  values-block = let z : values_from board + memory_bytes board ≤ block_from board = omega arith in inl z

  marks_block : Apart (marks_from board) (memory_bytes board) (block_from board) transfer_bytes
  unfolding marks_from block_from
  marks_block = let z : marks_from board + memory_bytes board ≤ block_from board = omega arith in inl z

module _ (board : Board) (w : List ℕ) (l : length w ≡ work_bytes board) where
  pub values-room : values_from board + memory_bytes board ≤ length w
  unfolding values_from
  values-room = omega arith

  pub marks-room : marks_from board + memory_bytes board ≤ length w
  unfolding marks_from
  marks-room = omega arith

  pub block_room : block_from board + transfer_bytes ≤ length w
  unfolding block_from
  block_room = omega arith

  pub work_sized : Sized board (work_of board w)
  unfolding work_of
  work_sized =
      record {
        values = part_length (values_from board) (memory_bytes board) w values-room;
        marks = part_length (marks_from board) (memory_bytes board) w marks-room;
        block = part_length (block_from board) transfer_bytes w block_room;
      }

  -- the values as code lends them, by their two ends
  pub values_lent : (from size : ℕ) → from ≡ values_from board → size ≡ memory_bytes board → take (from + size - from) (drop from w) ≡ (work_of board w).values
  unfolding work_of
  values_lent from size f s =
      let k : from + size - from ≡ memory_bytes board = omega arith in
      rw (k, f) refl

  -- the front of the block likewise
  pub block_lent : (from count : ℕ) → from ≡ block_from board → count ≤ transfer_bytes → take count (drop from w) ≡ take count (work_of board w).block
  unfolding work_of
  block_lent from count f h = rw f (sym (take-take count transfer_bytes (drop (block_from board) w) h))

  -- each of the values, of the marks and of the bytes of the block
  pub value_at : (i : ℕ) → i < memory_bytes board → get_or w (values_from board + i) 0 ≡ get_or (work_of board w).values i 0
  unfolding work_of
  value_at i h = sym (part_at (values_from board) (memory_bytes board) w values-room i h)

  pub mark_at : (i : ℕ) → i < memory_bytes board → get_or w (marks_from board + i) 0 ≡ get_or (work_of board w).marks i 0
  unfolding work_of
  mark_at i h = sym (part_at (marks_from board) (memory_bytes board) w marks-room i h)

  pub block_at : (i : ℕ) → i < transfer_bytes → get_or w (block_from board + i) 0 ≡ get_or (work_of board w).block i 0
  unfolding work_of
  block_at i h = sym (part_at (block_from board) transfer_bytes w block_room i h)

  -- bytes laid over the values, over the marks and over the block
  module _ (at : ℕ) (xs : List ℕ) where
    pub values-put : at + length xs ≤ memory_bytes board → work_of board (put (values_from board + at) xs w) ≡ valued (put at xs (work_of board w).values) (work_of board w)
    unfolding work_of
    values-put h =
        let room : values_from board + at + length xs ≤ length w = omega (arith, values-room) in
        rw (part_put_in (values_from board) (memory_bytes board) at xs w values-room h, part_put_out (marks_from board) (memory_bytes board) (values_from board + at) xs w marks-room room (offset_apart _ _ _ _ at (length xs) h (values-marks board)), part_put_out (block_from board) transfer_bytes (values_from board + at) xs w block_room room (offset_apart _ _ _ _ at (length xs) h (values-block board)))

    pub marks-put : at + length xs ≤ memory_bytes board → work_of board (put (marks_from board + at) xs w) ≡ marked (put at xs (work_of board w).marks) (work_of board w)
    unfolding work_of
    marks-put h =
        let room : marks_from board + at + length xs ≤ length w = omega (arith, marks-room) in
        rw (part_put_in (marks_from board) (memory_bytes board) at xs w marks-room h, part_put_out (values_from board) (memory_bytes board) (marks_from board + at) xs w values-room room (offset_apart _ _ _ _ at (length xs) h (apart_swapped _ _ _ _ (values-marks board))), part_put_out (block_from board) transfer_bytes (marks_from board + at) xs w block_room room (offset_apart _ _ _ _ at (length xs) h (marks_block board)))

    pub block-put : at + length xs ≤ transfer_bytes → work_of board (put (block_from board + at) xs w) ≡ blocked (put at xs (work_of board w).block) (work_of board w)
    unfolding work_of
    block-put h =
        let room : block_from board + at + length xs ≤ length w = omega (arith, block_room) in
        rw (part_put_in (block_from board) transfer_bytes at xs w block_room h, part_put_out (values_from board) (memory_bytes board) (block_from board + at) xs w values-room room (offset_apart _ _ _ _ at (length xs) h (apart_swapped _ _ _ _ (values-block board))), part_put_out (marks_from board) (memory_bytes board) (block_from board + at) xs w marks-room room (offset_apart _ _ _ _ at (length xs) h (apart_swapped _ _ _ _ (marks_block board))))

  -- one value stored
  pub value_set : (i v : ℕ) → i < memory_bytes board → work_of board (set w (values_from board + i) v) ≡ valued (set (work_of board w).values i v) (work_of board w)
  value_set i v h =
      let one : i + length (v ∷ []) ≤ memory_bytes board = omega arith in
      let here : values_from board + i + length (v ∷ []) ≤ length w = omega (arith, values-room) in
      let there : i + length (v ∷ []) ≤ length (work_of board w).values = omega (arith, work_sized.values) in
      ap (work_of board) (sets-put (v ∷ []) w (values_from board + i) here)
      ∙ values-put i (v ∷ []) one
      ∙ ap (λ (m : List ℕ). valued m (work_of board w)) (sym (sets-put (v ∷ []) (work_of board w).values i there))

-- what a work area says tells all its bytes
pub work_injective : (board : Board) (v w : List ℕ) → length v ≡ work_bytes board → length w ≡ work_bytes board → work_of board v ≡ work_of board w → v ≡ w
unfolding values_from marks_from block_from
work_injective board v w k l e =
    ext_get_or 0 v w (k ∙ sym l)
    (λ i h.
    by_part board i (omega arith)
    (λ j b p. ap (λ (x : ℕ). get_or v x 0) p ∙ value_at board v k j b ∙ ap (λ (x : Work). get_or x.values j 0) e ∙ sym (value_at board w l j b) ∙ ap (λ (x : ℕ). get_or w x 0) (sym p))
    (λ j b p. ap (λ (x : ℕ). get_or v x 0) p ∙ mark_at board v k j b ∙ ap (λ (x : Work). get_or x.marks j 0) e ∙ sym (mark_at board w l j b) ∙ ap (λ (x : ℕ). get_or w x 0) (sym p))
    (λ j b p. ap (λ (x : ℕ). get_or v x 0) p ∙ block_at board v k j b ∙ ap (λ (x : Work). get_or x.block j 0) e ∙ sym (block_at board w l j b) ∙ ap (λ (x : ℕ). get_or w x 0) (sym p)))
  where
    -- each place of it is one of a value, of a mark or of the block
    by_part : {C : Type 0} (board : Board) (i : ℕ) → i < work_bytes board → ((j : ℕ) → j < memory_bytes board → i ≡ values_from board + j → C) → ((j : ℕ) → j < memory_bytes board → i ≡ marks_from board + j → C) → ((j : ℕ) → j < transfer_bytes → i ≡ block_from board + j → C) → C
    by_part board i h x y z =
        by_lt i (memory_bytes board) (λ a. x (i - values_from board) (omega arith) (omega arith))
        (λ a. by_lt i (memory_bytes board + memory_bytes board) (λ b. y (i - marks_from board) (omega arith) (omega arith)) (λ b. z (i - block_from board) (omega arith) (omega arith)))
