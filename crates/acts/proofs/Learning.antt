-- What is laid and learnt, in the terms in which the functions meet it. Assumes nothing.
use mathlib.Core.Path.{◌≡◌, ◌∙◌}
use mathlib.Core.List.{List}
use Prim.Native.Nat.{ℕ, ◌+◌, ◌-◌, ◌≤◌}
use native.Mathlib.Omega.{arith}
use lib.ListN.{length, take, replicate, length-replicate}
use Rattle.laws.specs.Bytes.{put, filled}
use Rattle.board.specs.declared.Board.{Board}
use Rattle.board.specs.Layout.{options_from, option_bytes, defaults}
use Rattle.request.specs.Request.{transfer_bytes}
use Rattle.marks.specs.Work.{Work, valued, knowing, learnt, Sized}
use Rattle.marks.proofs.Known.{learnt_is, block-front}

-- bytes laid, and as many that became known
pub laid_learnt : (from count : ℕ) (xs : List ℕ) (w w₁ w₂ : Work) → length xs ≡ count → w₁ ≡ valued (put from xs w.values) w → w₂ ≡ knowing from (from + count - from) w₁ → w₂ ≡ learnt from xs w
laid_learnt from count xs w w₁ w₂ l a b =
    let k : length xs ≡ from + count - from = omega arith in
    learnt_is from (from + count - from) xs w w₁ w₂ k a b

-- the front of the block
pub block_learnt : (board : Board) (at count : ℕ) (w w₁ w₂ : Work) → Sized board w → count ≤ transfer_bytes → w₁ ≡ valued (put at (take count w.block) w.values) w → w₂ ≡ knowing at (at + count - at) w₁ → w₂ ≡ learnt at (take count w.block) w
block_learnt board at count w w₁ w₂ s h a b = laid_learnt at count (take count w.block) w w₁ w₂ (block-front board count w s h) a b

-- equal bytes
pub filled_learnt : (from count v : ℕ) (w w₁ w₂ : Work) → w₁ ≡ valued (filled from (from + count - from) v w.values) w → w₂ ≡ knowing from (from + count - from) w₁ → w₂ ≡ learnt from (replicate count v) w
unfolding filled
filled_learnt from count v w w₁ w₂ a b =
    let k : from + count - from ≡ count = omega arith in
    laid_learnt from count (replicate count v) w w₁ w₂ (length-replicate {A = ℕ} count v) (a ∙ rw k) b

-- the default options
pub options_learnt : (board : Board) (from : ℕ) (ds : List ℕ) (w w₁ w₂ : Work) → ds ≡ defaults → from ≡ options_from board → w₁ ≡ valued (put from ds w.values) w → w₂ ≡ knowing from (from + option_bytes - from) w₁ → w₂ ≡ learnt (options_from board) defaults w
options_learnt board from ds w w₁ w₂ d f a b =
    let k : length ds ≡ option_bytes = rw d in
    laid_learnt from option_bytes ds w w₁ w₂ k a b ∙ rw (d, f)
