-- What takes bytes of the block to the values: one at a time, a turn of the loop and its end; or all at once. Assumes nothing.
use mathlib.Core.Path.{◌≡◌, refl, ap, ap₂, ◌∙◌, sym}
use mathlib.Core.Bool.{true, false}
use mathlib.Core.List.{List}
use Prim.Native.Nat.{ℕ, ◌+◌, ◌-◌, ◌≤◌, ◌<◌}
use native.Mathlib.Omega.{arith}
use native.Mathlib.Nat.{add-zero}
use lib.ListN.{length, take, drop, get_or, set}
use lib.Seq.{get_or-take}
use Rattle.std.specs.List.{copy_within}
use Rattle.laws.specs.Bytes.{put}
use Rattle.board.specs.declared.Board.{Board}
use Rattle.board.specs.Layout.{memory_bytes}
use Rattle.request.specs.Request.{transfer_bytes}
use Rattle.flash.specs.Flash.{kept, stored}
use Rattle.flash.proofs.Flash.{stored_open, stored_kept, stored_end}
use Rattle.marks.specs.Area.{work_bytes}
use Rattle.marks.specs.Work.{Work, values_from, block_from, work_of, valued}
use Rattle.marks.proofs.Known.{block-front}
use Rattle.marks.proofs.View.{work_sized, block_at, block_lent, value_set, values-put}

-- what a store of xs has left to do from their i-th byte on
abbrev pub storing : Board → ℕ → ℕ → ℕ → List ℕ → Work → Work
storing board word at i xs w = valued (stored board word (at + i) (drop i xs) w.values) w

-- what the loop was given
pub record Given (board : Board) (w : List ℕ) (at count values block : ℕ) : Type 0 where
  pub size : length w ≡ work_bytes board
  pub room : at + count ≤ memory_bytes board
  pub short : count ≤ transfer_bytes
  pub values_there : values ≡ values_from board
  pub block_there : block ≡ block_from board

-- a turn at the i-th of `count` bytes; the block is still what it was in w₀
module _ (board : Board) (w₀ w w' : List ℕ) (at count i values block : ℕ) (g : Given board w₀ at count values block) (l : length w ≡ length w₀) (h : i < count) (same : (work_of board w).block ≡ (work_of board w₀).block) where
  source : List ℕ
  source = take count (work_of board w₀).block

  more : i < length source
  unfolding source
  more = omega (arith, block-front board count (work_of board w₀) (work_sized board w₀ g.size) g.short)

  inside : at + i < length (work_of board w).values
  inside = omega (arith, g.room, (work_sized board w (l ∙ g.size)).values)

  piece : get_or w (block + i) 0 ≡ get_or source i 0
  unfolding source
  piece =
      let k : i < transfer_bytes = omega (arith, g.short) in
      ap (λ (x : ℕ). get_or w (x + i) 0) g.block_there ∙ block_at board w (l ∙ g.size) i k ∙ ap (λ (x : List ℕ). get_or x i 0) same ∙ sym (get_or-take count (work_of board w₀).block i 0 h)

  -- the byte has gone to the values
  moved : w' ≡ set w (values + (at + i)) (get_or w (block + i) 0) → work_of board w' ≡ valued (set (work_of board w).values (at + i) (get_or source i 0)) (work_of board w)
  moved e =
      let k : at + i < memory_bytes board = omega (arith, g.room) in
      ap (work_of board) (e ∙ ap₂ (λ (k x : ℕ). set w (k + (at + i)) x) g.values_there piece) ∙ value_set board w (l ∙ g.size) (at + i) (get_or source i 0) k

  pub store_open : (word : ℕ) → kept board word (at + i) ≡ false → w' ≡ set w (values + (at + i)) (get_or w (block + i) 0) → storing board word at (i + 1) (take count (work_of board w₀).block) (work_of board w') ≡ storing board word at i (take count (work_of board w₀).block) (work_of board w)
  unfolding source
  store_open word k e =
      ap (storing board word at (i + 1) source) (moved e)
      ∙ ap (λ (m : List ℕ). valued m (work_of board w)) (stored_open board word (work_of board w).values _ source at i more inside k refl)

  pub store_kept : (word : ℕ) → kept board word (at + i) ≡ true → w' ≡ w → storing board word at (i + 1) (take count (work_of board w₀).block) (work_of board w') ≡ storing board word at i (take count (work_of board w₀).block) (work_of board w)
  unfolding source
  store_kept word k e =
      ap (λ (x : List ℕ). storing board word at (i + 1) source (work_of board x)) e
      ∙ ap (λ (m : List ℕ). valued m (work_of board w)) (stored_kept board word (work_of board w).values _ source at i more inside k refl)

-- the end, behind all of them
module _ (board : Board) (w₀ w : List ℕ) (at count i values block : ℕ) (g : Given board w₀ at count values block) (h : count ≤ i) where
  all : List ℕ
  all = take count (work_of board w₀).block

  has : length all ≡ count
  unfolding all
  has = block-front board count (work_of board w₀) (work_sized board w₀ g.size) g.short

  pub store_end : (word : ℕ) → storing board word at i (take count (work_of board w₀).block) (work_of board w) ≡ storing board word at 0 (take count (work_of board w₀).block) (work_of board w₀) → work_of board w ≡ valued (stored board word at (take count (work_of board w₀).block) (work_of board w₀).values) (work_of board w₀)
  unfolding all
  store_end word e =
      let past : length all ≤ i = omega (arith, has) in
      ap (λ (m : List ℕ). valued m (work_of board w)) (sym (stored_end board word (work_of board w).values all (at + i) i past))
      ∙ e
      ∙ rw (add-zero at)

-- all at once, as the library copies within a slice
pub copy_is : (board : Board) (w w' : List ℕ) (at count values block : ℕ) → Given board w at count values block → w' ≡ copy_within w block (block + count) (values + at) → work_of board w' ≡ valued (put at (take count (work_of board w).block) (work_of board w).values) (work_of board w)
unfolding put
copy_is board w w' at count values block g e =
    let n : block + count - block ≡ count = omega arith in
    let source : List ℕ = take count (work_of board w).block in
    let lent : take count (drop block w) ≡ source = block_lent board w g.size block count g.block_there g.short in
    let has : length source ≡ count = block-front board count (work_of board w) (work_sized board w g.size) g.short in
    let fits : at + length source ≤ memory_bytes board = omega (arith, has, g.room) in
    let is : w' ≡ put (values_from board + at) source w = e ∙ rw (n, lent, g.values_there, has) refl in
    ap (work_of board) is ∙ values-put board w g.size at source fits
