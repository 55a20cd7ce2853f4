-- A board's memory is what is known of all boards, and else what the board held at the start. Assumes nothing.
use mathlib.Core.Path.{◌≡◌, ◌∙◌, sym}
use mathlib.Core.Bool.{true, cond}
use mathlib.Core.List.{List}
use Prim.Native.Nat.{ℕ, ◌+◌, ◌≤◌, ◌<◌}
use native.Mathlib.Omega.{arith}
use lib.ListN.{length, get_or}
use Rattle.laws.specs.Bytes.{put}
use Rattle.laws.proofs.Bytes.{put-length}
use Rattle.laws.proofs.Places.{put_in, put_outside, among}
use Rattle.board.specs.declared.Board.{Board}
use Rattle.board.specs.Layout.{options_from, option_bytes, memory_bytes}
use Rattle.marks.specs.Work.{Work, known, learnt, Sized}
use Rattle.marks.proofs.Known.{learnt_sized, learnt-known, learnt_value, learnt_known_outside, learnt_value_outside}

-- byte i of a board that began as m₀
abbrev pub cell_of : Work → List ℕ → ℕ → ℕ
cell_of w m₀ i = cond (known w i) (get_or w.values i 0) (get_or m₀ i 0)

pub record Alike (board : Board) (m₀ m : List ℕ) (w : Work) : Type 0 where
  pub memory : length m ≡ memory_bytes board
  pub work : Sized board w
  pub cells : (i : ℕ) → i < memory_bytes board → get_or m i 0 ≡ cell_of w m₀ i
  pub options : (k : ℕ) → k < option_bytes → known w (options_from board + k) ≡ true

-- what is laid over the board's memory and learnt
module _ (board : Board) (from : ℕ) (xs m₀ m : List ℕ) (w : Work) (h : from + length xs ≤ memory_bytes board) (s : Alike board m₀ m w) where
  room : from + length xs ≤ length m
  room = omega (arith, s.memory)

  pub learnt_alike : Alike board m₀ (put from xs m) (learnt from xs w)
  learnt_alike =
      record {
        memory = put-length from xs m room ∙ s.memory;
        work = learnt_sized board from xs w h s.work;
        cells = λ i b.
            among from (length xs) i
            (λ p q. put_in from xs m room i p q ∙ sym (rw (learnt-known board from xs w h s.work i p q) (learnt_value board from xs w h s.work i p q)))
            (λ o. put_outside from xs m i room o ∙ s.cells i b ∙ sym (rw (learnt_known_outside board from xs w h s.work i o, learnt_value_outside board from xs w h s.work i o)));
        options = λ k b.
            among from (length xs) (options_from board + k) (λ p q. learnt-known board from xs w h s.work (options_from board + k) p q)
            (λ o. learnt_known_outside board from xs w h s.work (options_from board + k) o ∙ s.options k b);
      }
