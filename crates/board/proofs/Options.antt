-- Laws of `options_of`: the option bytes as a part of the memory. Assumes nothing.
use mathlib.Core.Path.{◌≡◌, ◌∙◌, sym}
use mathlib.Core.Logic.{inl, inr, ⊎_elim}
use mathlib.Core.List.{List}
use Prim.Native.Nat.{ℕ, ◌+◌, ◌-◌, ◌≤◌, ◌<◌}
use native.Mathlib.Omega.{arith}
use lib.ListN.{length, take, drop, get_or}
use lib.Seq.{ext_get_or, get_or-take, get_or-drop}
use Rattle.laws.specs.Bytes.{put}
use Rattle.laws.proofs.Append.{part_put}
use Rattle.laws.proofs.Places.{Outside, part_length}
use Rattle.board.specs.declared.Board.{Board}
use Rattle.board.specs.Layout.{flash_bytes, flash_from, options_from, option_bytes, memory_bytes}
use Rattle.board.specs.Memory.{options_of}
use Rattle.board.specs.Sound.{Sound}

pub options_at_lem : (board : Board) (m : List ℕ) (k : ℕ) → k < option_bytes → get_or (options_of board m) k 0 ≡ get_or m (options_from board + k) 0
unfolding options_of
options_at_lem board m k h = get_or-take option_bytes (drop (options_from board) m) k 0 h ∙ get_or-drop (options_from board) m k 0

pub options-length : (board : Board) → Sound board → (m : List ℕ) → length m ≡ memory_bytes board → length (options_of board m) ≡ option_bytes
unfolding options_of
options-length board sound m l =
    let room : options_from board + option_bytes ≤ length m = omega (arith, sound.options_in_memory) in
    part_length (options_from board) option_bytes m room

pub options-put : (board : Board) (card m : List ℕ) → length card ≡ option_bytes → options_from board + length card ≤ length m → options_of board (put (options_from board) card m) ≡ card
unfolding options_of
options-put board card m l h =
    let begins : options_from board ≤ length m = omega arith in
    rw l at (part_put card m (options_from board) begins)

-- the option bytes as code lends them, by their two ends
pub options_lent : (board : Board) (from : ℕ) (m : List ℕ) → from ≡ options_from board → take (from + option_bytes - from) (drop from m) ≡ options_of board m
unfolding options_of
options_lent board from m f =
    let k : from + option_bytes - from ≡ option_bytes = omega arith in
    rw (k, f)

-- memories with the same option bytes, one by one
pub options-same : (board : Board) → Sound board → (m v : List ℕ) → length m ≡ memory_bytes board → length v ≡ memory_bytes board → ((k : ℕ) → k < option_bytes → get_or m (options_from board + k) 0 ≡ get_or v (options_from board + k) 0) → options_of board m ≡ options_of board v
options-same board sound m v l n same =
    let a = options-length board sound m l in
    let b = options-length board sound v n in
    ext_get_or 0 (options_of board m) (options_of board v) (a ∙ sym b)
    (λ k h.
    let o : k < option_bytes = omega arith in
    options_at_lem board m k o ∙ same k o ∙ sym (options_at_lem board v k o))

-- no flash byte is an option byte
pub flash_outside_options : (board : Board) → Sound board → (f : ℕ) → f < flash_bytes board → Outside (options_from board) option_bytes (flash_from board + f)
flash_outside_options board sound f h =
    ⊎_elim (λ a. let z : flash_from board + f < options_from board = omega arith in inl z) (λ a. let z : options_from board + option_bytes ≤ flash_from board + f = omega arith in inr z) sound.flash_from_options
