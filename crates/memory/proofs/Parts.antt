-- Laws of `cleared_from`: a turn of the loop over the parts of RAM, and its end. Assumes nothing.
use mathlib.Core.Path.{◌≡◌}
use mathlib.Core.List.{List}
use Prim.Native.Nat.{ℕ, suc, ◌+◌, ◌-◌, ◌≤◌, ◌<◌}
use native.Mathlib.Omega.{arith}
use native.Mathlib.Numerals.{add-one}
use Rattle.laws.specs.Bytes.{filled}
use Rattle.board.specs.declared.Board.{Board}
use Rattle.board.specs.Memory.{part_from, part_bytes, cleared_from}

pub parts_turn : (board : Board) (m : List ℕ) (part parts : ℕ) → part < parts → cleared_from board (parts - part) part m ≡ cleared_from board (parts - (part + 1)) (part + 1) (filled (part_from board part) (part_bytes board part) 0 m)
unfolding cleared_from
parts_turn board m part parts h =
    let k : parts - part ≡ suc (parts - (part + 1)) = omega arith in
    rw (k, add-one part)

pub parts_end : (board : Board) (m : List ℕ) (part parts : ℕ) → parts ≤ part → cleared_from board (parts - part) part m ≡ m
unfolding cleared_from
parts_end board m part parts h =
    let k : parts - part ≡ 0 = omega arith in
    rw k
