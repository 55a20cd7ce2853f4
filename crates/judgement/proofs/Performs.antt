-- What an action does to every board, by what it does to the work area. Assumes nothing.
use mathlib.Core.Path.{◌≡◌, refl}
use mathlib.Core.Bool.{true, false, true≢false}
use mathlib.Core.List.{List}
use Prim.Native.Nat.{ℕ, ◌+◌, ◌≤◌, ◌<◌}
use native.Mathlib.Omega.{arith}
use lib.Dec.{eqb}
use lib.ListN.{length, take}
use Rattle.laws.specs.Bytes.{put}
use Rattle.laws.proofs.Split.{by_bool}
use Rattle.board.specs.declared.Board.{Board}
use Rattle.board.specs.Layout.{flash_pages, memory_bytes}
use Rattle.board.specs.Sound.{Sound}
use Rattle.protection.specs.Protection.{word_of}
use Rattle.request.specs.Request.{transfer_bytes}
use Rattle.action.specs.declared.Action.{Action}
use Rattle.action.specs.declared.Action.TheVariants.{Rest, Fail, Point, Erase, EraseAll, Unprotect, ClearRam, StoreFlash, StoreRam, StoreOptions}
use Rattle.flash.specs.Flash.{blank}
use Rattle.perform.specs.Perform.{performed_of}
use Rattle.action.specs.Action.{writes_of}
use Rattle.action.specs.Reach.{Fits}
use Rattle.marks.specs.Work.{Work, learnt}
use Rattle.marks.proofs.Known.{block-front}
use Rattle.cells.specs.Cells.{surely, writes, worked_of}
use Rattle.cells.proofs.Likeness.{Alike, learnt_alike}
use Rattle.cells.proofs.Actions.{Zeros, page_alike, all_alike, ram_alike, whole_alike, stored_alike, surely-known, surely-blank, surely-not, word_same}

-- an action that goes well on every board
pub record Performs (board : Board) (action : Action) (b m₀ m : List ℕ) (w : Work) : Type 0 where
  pub status : (performed_of board action b m).status ≡ 0
  pub alike : Alike board m₀ (performed_of board action b m).memory (worked_of board action w).work

module _ (board : Board) (sound : Sound board) (b m₀ m : List ℕ) (w : Work) (s : Alike board m₀ m w) where
  -- bytes from the block, written and learnt
  puts : (at count : ℕ) → at + count ≤ memory_bytes board → count ≤ transfer_bytes → take count b ≡ take count w.block → Alike board m₀ (put at (take count b) m) (learnt at (take count w.block) w)
  puts at count h k e =
      let room : at + length (take count w.block) ≤ memory_bytes board = omega (arith, block-front board count w s.work k) in
      rw e (learnt_alike board at (take count w.block) m₀ m w room s)

  -- a write to flash that goes well
  writes_well : (at count : ℕ) → at + count ≤ memory_bytes board → count ≤ transfer_bytes → take count b ≡ take count w.block → (writes board (word_of board w.values) at count w).status ≡ 0 → Performs board (StoreFlash at count) b m₀ m w
  writes_well at count h k e z =
      let l = block-front board count w s.work k in
      let room : at + length (take count w.block) ≤ memory_bytes board = omega (arith, l) in
      by_bool (surely board (word_of board w.values) at count w)
      (λ y.
      let passed : blank board (word_of board w.values) at (length (take count w.block)) m ≡ true = rw l (surely-blank board (word_of board w.values) at count m₀ m w h s y) in
      let sure = surely-known board (word_of board w.values) at count m₀ m w h s y in
      record {
        status = rw (word_same board sound m₀ m w s, e, passed);
        alike = rw (word_same board sound m₀ m w s, e, passed, y) (stored_alike board m₀ (word_of board w.values) at (take count w.block) m w room (λ i p q x. sure i p (omega (arith, l)) x) s);
      })
      (λ y. let bad : ◌≡◌ {A = ℕ} 3 0 = rw y at z in absurd (omega arith))

  pub performs_well : (action : Action) → Fits board action → take (writes_of action).count b ≡ take (writes_of action).count w.block → (worked_of board action w).status ≡ 0 → Performs board action b m₀ m w
  performs_well Rest f e z = record { status = refl; alike = s }
  performs_well (Fail status) f e z = record { status = z; alike = s }
  performs_well (Point address) f e z = record { status = refl; alike = s }
  performs_well (Erase page) f e z =
      let below : page < flash_pages board = omega (arith, f.pages) in
      record { status = refl; alike = rw (word_same board sound m₀ m w s) (page_alike board sound m₀ (word_of board w.values) page m w below s) }
  performs_well EraseAll f e z = record { status = refl; alike = rw (word_same board sound m₀ m w s) (all_alike board sound m₀ (word_of board w.values) m w s) }
  performs_well Unprotect f e z = record { status = refl; alike = whole_alike board sound m₀ m w s }
  performs_well ClearRam f e z = record { status = refl; alike = ram_alike board sound m₀ m w s }
  performs_well (StoreFlash at count) f e z = writes_well at count f.ends f.count e z
  performs_well (StoreRam at count) f e z = record { status = refl; alike = puts at count f.ends f.count e }
  performs_well (StoreOptions at count) f e z = record { status = refl; alike = puts at count f.ends f.count e }

  -- one that does not, on a board whose flash and RAM began as zero: the status is the same
  pub performs_ill : Zeros board m₀ → (action : Action) → Fits board action → take (writes_of action).count b ≡ take (writes_of action).count w.block → eqb (worked_of board action w).status 0 ≡ false → (performed_of board action b m).status ≡ (worked_of board action w).status
  performs_ill z Rest f e q = refl
  performs_ill z (Fail status) f e q = refl
  performs_ill z (Point address) f e q = refl
  performs_ill z (Erase page) f e q = refl
  performs_ill z EraseAll f e q = refl
  performs_ill z Unprotect f e q = refl
  performs_ill z ClearRam f e q = refl
  performs_ill z (StoreFlash at count) f e q =
      let l = block-front board count w s.work f.count in
      by_bool (surely board (word_of board w.values) at count w) (λ y. absurd (true≢false (rw y at q)))
      (λ y.
      let failed : blank board (word_of board w.values) at (length (take count w.block)) m ≡ false = rw l (surely-not board (word_of board w.values) at count m₀ m w f.ends s z y) in
      rw (word_same board sound m₀ m w s, e, failed, y))
  performs_ill z (StoreRam at count) f e q = refl
  performs_ill z (StoreOptions at count) f e q = refl
