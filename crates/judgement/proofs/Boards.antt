-- Fresh boards stand where the work area begins; and two of them, to show a fault on. Assumes nothing.
use mathlib.Core.Path.{◌≡◌, refl, ap, ◌∙◌, sym}
use mathlib.Core.Bool.{true, false}
use mathlib.Core.List.{List}
use Prim.Native.Nat.{ℕ, zero, suc, ◌+◌, ◌-◌, ◌≤◌, ◌<◌}
use native.Mathlib.Omega.{arith}
use lib.Dec.{ltb}
use lib.ListN.{length, get_or, replicate, length-replicate, get_or-replicate}
use Rattle.laws.specs.Bytes.{put}
use Rattle.laws.specs.Lists.{all_bytes}
use Rattle.laws.proofs.Bytes.{put-length}
use Rattle.laws.proofs.Lists.{bytes-put}
use Rattle.laws.proofs.Places.{Outside, put_outside, among}
use Rattle.board.specs.declared.Board.{Board}
use Rattle.board.specs.Layout.{options_from, option_bytes, memory_bytes}
use Rattle.board.specs.Sound.{Sound}
use Rattle.board.proofs.Options.{options_at_lem, options-put}
use Rattle.request.specs.Request.{transfer_bytes}
use Rattle.device.specs.State.{started}
use Rattle.loader.specs.World.{World}
use Rattle.demand.specs.Boards.{Fresh}
use Rattle.marks.specs.Work.{Work, known, learnt, forgotten, Sized}
use Rattle.marks.proofs.Known.{learnt_sized, learnt-known, learnt_value, learnt_known_outside, forgotten_sized, forgotten_unknown}
use Rattle.judgement.specs.Judgement.{begun}
use Rattle.cells.proofs.Likeness.{Alike}
use Rattle.judgement.proofs.Events.{Stands}

module _ (board : Board) (sound : Sound board) (card : List ℕ) (w : Work) (sized : Sized board w) (lc : length card ≡ option_bytes) where
  bare : Work
  bare = forgotten board w

  bare_sized : Sized board bare
  unfolding bare
  bare_sized = forgotten_sized board w sized

  bare_unknown : (i : ℕ) → i < memory_bytes board → known bare i ≡ false
  unfolding bare
  bare_unknown i h = forgotten_unknown board w sized i h

  ends : options_from board + length card ≤ memory_bytes board
  ends = omega (arith, sound.options_in_memory)

  begun_is : begun board card w ≡ learnt (options_from board) card bare
  unfolding begun bare
  begun_is = refl

  pub begun_sized : Sized board (begun board card w)
  begun_sized = rw begun_is (learnt_sized board (options_from board) card bare ends bare_sized)

  -- an option byte is known from the start, and no other byte is
  begun_option : (k : ℕ) → k < option_bytes → known (begun board card w) (options_from board + k) ≡ true
  begun_option k h =
      let low : options_from board ≤ options_from board + k = omega arith in
      let high : options_from board + k < options_from board + length card = omega arith in
      rw begun_is (learnt-known board (options_from board) card bare ends bare_sized (options_from board + k) low high)

  pub begun_value : (k : ℕ) → k < option_bytes → get_or (begun board card w).values (options_from board + k) 0 ≡ get_or card k 0
  begun_value k h =
      let low : options_from board ≤ options_from board + k = omega arith in
      let high : options_from board + k < options_from board + length card = omega arith in
      let back : options_from board + k - options_from board ≡ k = omega arith in
      rw begun_is (learnt_value board (options_from board) card bare ends bare_sized (options_from board + k) low high ∙ ap (λ (j : ℕ). get_or card j 0) back)

  pub begun_own : (i : ℕ) → i < memory_bytes board → Outside (options_from board) option_bytes i → known (begun board card w) i ≡ false
  begun_own i h o =
      rw begun_is (learnt_known_outside board (options_from board) card bare ends bare_sized i (rw lc o) ∙ bare_unknown i h)

  pub fresh_alike : (x : World) → Fresh board card x → Alike board x.memory x.memory (begun board card w)
  fresh_alike x f =
      record {
        memory = f.memory;
        work = begun_sized;
        cells = λ i h.
            among (options_from board) option_bytes i
            (λ lo hi.
            let k : i - options_from board < option_bytes = omega arith in
            let back : options_from board + (i - options_from board) ≡ i = omega arith in
            let option : get_or x.memory (options_from board + (i - options_from board)) 0 ≡ get_or (begun board card w).values (options_from board + (i - options_from board)) 0 =
            sym (options_at_lem board x.memory (i - options_from board) k) ∙ ap (λ (l : List ℕ). get_or l (i - options_from board) 0) f.options ∙ sym (begun_value (i - options_from board) k) in
            sym (rw (ap (known (begun board card w)) (sym back) ∙ begun_option (i - options_from board) k) (rw back at (sym option))))
            (λ o. sym (rw (begun_own i h o)));
        options = begun_option;
      }

  pub fresh_stands : (x : World) → Fresh board card x → Stands board x.memory x (started board) (begun board card w)
  fresh_stands x f = record { device = f.device; alike = fresh_alike x f; held = tt; block = f.block; reply = f.reply }

all_replicate : (c count : ℕ) → ltb c 256 ≡ true → all_bytes (replicate count c) ≡ true
unfolding all_bytes
all_replicate c zero h = refl
all_replicate c (suc count) h = rw (h, all_replicate c count h)

-- a board whose flash and RAM hold c everywhere
unfoldable pub plain : Board → List ℕ → ℕ → World
plain board card c = record { device = started board; memory = put (options_from board) card (replicate (memory_bytes board) c); block = replicate transfer_bytes 0; reply = replicate transfer_bytes 0 }

module _ (board : Board) (sound : Sound board) (card : List ℕ) (c : ℕ) (lc : length card ≡ option_bytes) (bytes : all_bytes card ≡ true) (small : ltb c 256 ≡ true) where
  same_length : length (replicate (memory_bytes board) c) ≡ memory_bytes board
  same_length = length-replicate {A = ℕ} (memory_bytes board) c

  room : options_from board + length card ≤ length (replicate (memory_bytes board) c)
  room = omega (arith, same_length, sound.options_in_memory)

  pub plain_fresh : Fresh board card (plain board card c)
  unfolding plain
  plain_fresh =
      record {
        device = refl;
        memory = put-length (options_from board) card (replicate (memory_bytes board) c) room ∙ same_length;
        bytes = bytes-put (options_from board) card (replicate (memory_bytes board) c) bytes (all_replicate c (memory_bytes board) small);
        options = options-put board card (replicate (memory_bytes board) c) lc room;
        block = length-replicate {A = ℕ} transfer_bytes 0;
        reply = length-replicate {A = ℕ} transfer_bytes 0;
      }

  pub plain_byte : (i : ℕ) → i < memory_bytes board → Outside (options_from board) option_bytes i → get_or (plain board card c).memory i 0 ≡ c
  unfolding plain
  plain_byte i h o = put_outside (options_from board) card (replicate (memory_bytes board) c) i room (rw lc o) ∙ get_or-replicate (memory_bytes board) i c 0 h
