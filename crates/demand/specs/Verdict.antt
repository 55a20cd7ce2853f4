-- The verdict, as a relation. Document 01, "The checker and the plan"; the customer's third demand. Assumes nothing.
use Rattle.std.specs.Prelude.{◌≡◌, Bool, true, false, cond, not, List, ℕ, suc, ◌<◌, eqb, ltb, length, get_or}
use Rattle.board.specs.declared.Board.{Board}
use Rattle.board.specs.Layout.{page_offset, flash_first, flash_bytes, pages_of}
use Rattle.board.specs.Memory.{flash_at, options_of}
use Rattle.device.specs.declared.Device.{Device}
use Rattle.mode.specs.declared.Mode.{Mode}
use Rattle.mode.specs.declared.Mode.TheVariants.{Idle, DownloadSync, DownloadBusy, DownloadIdle, ManifestSync, UploadIdle, Error, Left, Rebooting}
use Rattle.laws.specs.Lists.{same}
use Rattle.line.specs.Event.{Event}
use Rattle.verdict.specs.declared.Verdict.{Verdict}
use Rattle.verdict.specs.declared.Verdict.TheVariants as verdict
use Rattle.loader.specs.World.{World, after}
use Rattle.demand.specs.Boards.{Fresh, fails_at}

-- the mode Left, which no wire number tells from Rebooting
abbrev pub is_left : Mode → Bool
is_left Idle = false
is_left DownloadSync = false
is_left DownloadBusy = false
is_left DownloadIdle = false
is_left ManifestSync = false
is_left UploadIdle = false
is_left Error = false
is_left Left = true
is_left Rebooting = false

-- "End c, first of: 1 mode is not Left, 2 pointer is not 0x08000000, 3 options differ from the card": does condition c fail in
-- this state, with the options kept or not?
unfoldable pub end_fails : Board → Device → Bool → ℕ → Bool
end_fails board d kept c =
    cond (eqb c 1) (not (is_left d.mode))
    (cond (eqb c 2) (not (eqb d.pointer (flash_first board)))
    (cond (eqb c 3) (not kept) false))

-- condition c fails on the board w
unfoldable pub end_fault : Board → List ℕ → ℕ → World → Bool
end_fault board card c w = end_fails board w.device (same (options_of board w.memory) card) c

-- the flash offset at which the image's last page ends
abbrev pub pages_end : Board → List ℕ → ℕ
pages_end board image = page_offset board (pages_of board (length image))

-- "the image in place, the rest of its last page erased, and every other flash page .. as before": the byte wanted at offset f of a board that began as w
abbrev pub wanted_at : Board → List ℕ → World → ℕ → ℕ
wanted_at board image w f = cond (ltb f (length image)) (get_or image f 0) (cond (ltb f (pages_end board image)) 0xFF (flash_at board w.memory f))

-- offset f is wrong on the board w after the job
unfoldable pub wrong_at : Board → List Event → List ℕ → ℕ → World → Bool
wrong_at board es image f w = not (eqb (flash_at board (after board es w).memory f) (wanted_at board image w f))

-- a fault that some board shows
pub record OnSome (board : Board) (card : List ℕ) (fault : World → Bool) : Type 0 where
  pub world : World
  pub fresh : Fresh board card world
  pub shows : fault world ≡ true

-- a fault that no board shows
abbrev pub OnNone : Board → List ℕ → (World → Bool) → Type 0
OnNone board card fault = (w : World) → Fresh board card w → fault w ≡ false

-- x is the least number whose fault some board shows
pub record Least (board : Board) (card : List ℕ) (fault : ℕ → World → Bool) (x : ℕ) : Type 0 where
  pub here : OnSome board card (fault x)
  pub before : (j : ℕ) → j < x → OnNone board card (fault j)

-- the faults of a job, in the order in which they are looked for
module _ (board : Board) (es : List Event) (image card : List ℕ) where
  -- no event fails
  abbrev pub RunsClean : Type 0
  RunsClean = (k : ℕ) → OnNone board card (fails_at board es k)

  -- no end condition fails
  abbrev pub EndsWell : Type 0
  EndsWell = (c : ℕ) → OnNone board card (λ w. end_fault board card c (after board es w))

  -- no flash byte is wrong
  abbrev pub FlashRight : Type 0
  FlashRight = (f : ℕ) → f < flash_bytes board → OnNone board card (wrong_at board es image f)

  -- "Event k, the least k (from 1) .. on some board; or End c ..; or Flash f, the lowest flash offset, from 0 ..; else Pass"
  abbrev pub Judged : Verdict → Type 0
  Judged verdict.Pass = RunsClean × EndsWell × FlashRight
  Judged (verdict.Event k) = (j : ℕ) × (k ≡ suc j) × Least board card (fails_at board es) j
  Judged (verdict.End c) = RunsClean × Least board card (λ x w. end_fault board card x (after board es w)) c
  Judged (verdict.Flash f) = RunsClean × EndsWell × (f < flash_bytes board) × Least board card (wrong_at board es image) f
  Judged (verdict.Refused r) = ⊥
