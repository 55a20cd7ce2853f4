-- What each function of the work area does to what it says, by the store that it makes. Assumes nothing.
use mathlib.Core.Path.{◌≡◌, ap, ◌∙◌}
use mathlib.Core.List.{List}
use Prim.Native.Nat.{ℕ, ◌+◌, ◌-◌, ◌≤◌}
use native.Mathlib.Omega.{arith}
use lib.ListN.{length, replicate, length-replicate}
use Rattle.laws.specs.Bytes.{put, filled}
use Rattle.board.specs.declared.Board.{Board}
use Rattle.board.specs.Layout.{memory_bytes}
use Rattle.marks.specs.Area.{work_bytes}
use Rattle.marks.specs.Work.{values_from, marks_from, work_of, valued, marked}
use Rattle.marks.proofs.View.{values-put, marks-put}

module _ (board : Board) (w : List ℕ) (l : length w ≡ work_bytes board) where
  pub fill_is : (from to v values : ℕ) (w' : List ℕ) → from ≤ to → to ≤ memory_bytes board → values ≡ values_from board → w' ≡ filled (values + from) (values + to - (values + from)) v w → work_of board w' ≡ valued (filled from (to - from) v (work_of board w).values) (work_of board w)
  unfolding filled
  fill_is from to v values w' a b f e =
      let k : values + to - (values + from) ≡ to - from = omega arith in
      let n : length (replicate (to - from) v) ≡ to - from = length-replicate {A = ℕ} (to - from) v in
      let room : from + length (replicate (to - from) v) ≤ memory_bytes board = omega arith in
      ap (work_of board) (e ∙ rw (k, f)) ∙ values-put board w l from (replicate (to - from) v) room

  pub lay_is : (at values : ℕ) (xs w' : List ℕ) → at + length xs ≤ memory_bytes board → values ≡ values_from board → w' ≡ put (values + at) xs w → work_of board w' ≡ valued (put at xs (work_of board w).values) (work_of board w)
  lay_is at values xs w' h f e = ap (work_of board) (e ∙ rw f) ∙ values-put board w l at xs h

  pub mark_is : (from to v marks : ℕ) (w' : List ℕ) → from ≤ to → to ≤ memory_bytes board → marks ≡ marks_from board → w' ≡ filled (marks + from) (marks + to - (marks + from)) v w → work_of board w' ≡ marked (filled from (to - from) v (work_of board w).marks) (work_of board w)
  unfolding filled
  mark_is from to v marks w' a b f e =
      let k : marks + to - (marks + from) ≡ to - from = omega arith in
      let n : length (replicate (to - from) v) ≡ to - from = length-replicate {A = ℕ} (to - from) v in
      let room : from + length (replicate (to - from) v) ≤ memory_bytes board = omega arith in
      ap (work_of board) (e ∙ rw (k, f)) ∙ marks-put board w l from (replicate (to - from) v) room
