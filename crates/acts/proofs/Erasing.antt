-- One turn of each loop that erases pages or clears RAM on every board, its end, and the whole. Assumes nothing.
use mathlib.Core.Path.{◌≡◌}
use mathlib.Core.Bool.{false}
use Prim.Native.Nat.{ℕ, suc, ◌+◌, ◌-◌, ◌≤◌, ◌<◌}
use native.Mathlib.Omega.{arith}
use native.Mathlib.Numerals.{add-one}
use lib.ListN.{replicate}
use Rattle.board.specs.declared.Board.{Board}
use Rattle.board.specs.Layout.{page_bytes, page_from}
use Rattle.board.specs.Memory.{ram_parts, part_from, part_bytes}
use Rattle.protection.specs.Protection.{write_protected}
use Rattle.marks.specs.Work.{Work, learnt}
use Rattle.cells.specs.Cells.{page_erased, pages_erased, parts_learnt, ram_learnt}

pub page_open : (board : Board) (word page : ℕ) (w : Work) → write_protected word page ≡ false → learnt (page_from board page) (replicate (page_bytes board) 0xFF) w ≡ page_erased board word page w
unfolding page_erased
page_open board word page w e = rw e

pub pages_turn : (board : Board) (word : ℕ) (w : Work) (page e : ℕ) → page < e → pages_erased board word (e - page) page w ≡ pages_erased board word (e - (page + 1)) (page + 1) (page_erased board word page w)
unfolding pages_erased
pages_turn board word w page e h =
    let k : e - page ≡ suc (e - (page + 1)) = omega arith in
    rw (k, add-one page)

pub pages_end_lem : (board : Board) (word : ℕ) (w : Work) (page e : ℕ) → e ≤ page → pages_erased board word (e - page) page w ≡ w
unfolding pages_erased
pages_end_lem board word w page e h =
    let k : e - page ≡ 0 = omega arith in
    rw k

pub parts_turn : (board : Board) (w : Work) (part e : ℕ) → part < e → parts_learnt board (e - part) part w ≡ parts_learnt board (e - (part + 1)) (part + 1) (learnt (part_from board part) (replicate (part_bytes board part) 0) w)
unfolding parts_learnt
parts_turn board w part e h =
    let k : e - part ≡ suc (e - (part + 1)) = omega arith in
    rw (k, add-one part)

pub parts_end : (board : Board) (w : Work) (part e : ℕ) → e ≤ part → parts_learnt board (e - part) part w ≡ w
unfolding parts_learnt
parts_end board w part e h =
    let k : e - part ≡ 0 = omega arith in
    rw k

pub parts_whole : (board : Board) (w : Work) (parts : ℕ) → parts ≡ ram_parts board → parts_learnt board parts 0 w ≡ ram_learnt board w
unfolding ram_learnt
parts_whole board w parts e = rw e
