-- A single board that lives through a packed job: no rule of the paper, but what explanations go by. Assumes nothing.
use Rattle.std.specs.Prelude.{false, cond, ◌||◌, List, ℕ, zero, suc, ◌+◌, ◌-◌, eqb, ltb, length, take, drop, get_or, replicate}
use Rattle.laws.specs.Bytes.{put, filled}
use Rattle.board.specs.declared.Place.{Place}
use Rattle.board.specs.declared.Place.TheVariants.{Flash, Ram, Options, Outside}
use Rattle.board.specs.Layout.{logger, options_from, option_bytes, memory_bytes}
use Rattle.board.specs.Memory.{options_of}
use Rattle.board.specs.Span.{place_of}
use Rattle.protection.specs.Protection.{word_of, read_protected}
use Rattle.flash.specs.Flash.{kept}
use Rattle.request.specs.Request.{transfer_bytes}
use Rattle.mode.specs.declared.Mode.{Mode}
use Rattle.mode.specs.declared.Mode.TheVariants.{Idle, DownloadSync, DownloadBusy, DownloadIdle, ManifestSync, UploadIdle, Error, Left, Rebooting}
use Rattle.device.specs.declared.Pending.{Pending}
use Rattle.device.specs.declared.Pending.TheVariants.{Nothing, SetPointer, ErasePage, MassErase, ReadUnprotect, Write}
use Rattle.device.specs.declared.Device.{Device}
use Rattle.device.specs.State.{started}
use Rattle.access.specs.Access.{block_address}
use Rattle.loader.specs.Answer.{Outcome}
use Rattle.packed.specs.Ways.{piece_length}
use Rattle.player.specs.Played.{played_of}
use Rattle.compare.specs.Change.{first_change}
use Rattle.trial.specs.declared.Scene.{Scene}

-- 1 in the two modes in which the loader is about to leave, or has left
abbrev pub leaving_of : Mode → ℕ
leaving_of Idle = 0
leaving_of DownloadSync = 0
leaving_of DownloadBusy = 0
leaving_of DownloadIdle = 0
leaving_of ManifestSync = 1
leaving_of UploadIdle = 0
leaving_of Error = 0
leaving_of Left = 1
leaving_of Rebooting = 0

-- nothing has happened yet, and the watched byte is this one
abbrev pub unplayed : ℕ → Scene
unplayed byte = record { device = started logger; count = 0; at = 0; byte = byte; changed = 0; earlier = 0; pointed = 0; left = 0; is_protected = false; dirt = 0; altered = 0 }

-- the event in this line, up to place `at` of the job, leaves the device and the byte so; the line is noted for what it changed
abbrev pub next_of : Scene → ℕ → ℕ → Device → ℕ → Scene
next_of s line at d byte =
    record {
      device = d;
      count = line;
      at = at;
      byte = byte;
      changed = cond (eqb byte s.byte) s.changed line;
      earlier = cond (eqb byte s.byte) s.earlier s.changed;
      pointed = cond (eqb s.device.pointer d.pointer) s.pointed line;
      left = cond (eqb (leaving_of s.device.mode) (leaving_of d.mode)) s.left line;
      is_protected = s.is_protected;
      dirt = s.dirt;
      altered = s.altered;
    }

-- the board: what is known of it so far, and its three buffers
pub record Life : Type 0 where
  pub scene : Scene
  pub memory : List ℕ
  pub block : List ℕ
  pub reply : List ℕ

-- the four in one
abbrev pub life : Scene → List ℕ → List ℕ → List ℕ → Life
life s m b y = record { scene = s; memory = m; block = b; reply = y }

-- the board after what an event left; the byte at `place` is watched
abbrev pub lived_on : Scene → ℕ → ℕ → ℕ → Outcome → Life
lived_on s place line end o = life (next_of s line end o.device (get_or o.memory place 0)) o.memory o.block o.reply

-- the next event of the job happens, in this line
unfoldable pub turn_of : List ℕ → ℕ → ℕ → Life → Life
turn_of packed place line l =
    let rest = drop l.scene.at packed in
    lived_on l.scene place line (l.scene.at + piece_length rest)
    (played_of l.scene.device (take (piece_length rest) rest) l.memory l.block l.reply)

-- the next so many events, as far as the job has them; `line` is the last that happened
unfoldable pub lives_of : List ℕ → ℕ → ℕ → ℕ → Life → Life
lives_of packed place zero line l = l
lives_of packed place (suc n) line l = cond (ltb l.scene.at (length packed)) (lives_of packed place n (suc line) (turn_of packed place (suc line) l)) l

-- of so many places from place i on, the first that is not erased and not in a write-protected page, or the place behind them
unfoldable pub first_written : List ℕ → ℕ → ℕ → ℕ
first_written m zero i = i
first_written m (suc n) i = cond (eqb (get_or m i 0) 0xFF || kept logger (word_of logger m) i) (first_written m n (suc i)) i

-- a place in flash, and the front of memory for any other
abbrev pub flash_place : Place → ℕ
flash_place (Flash at) = at
flash_place (Ram at) = 0
flash_place (Options at) = 0
flash_place Outside = 0

-- the place where the write that waits begins, if it is one into flash
abbrev pub target_of : ℕ → Pending → ℕ
target_of pointer Nothing = 0
target_of pointer (SetPointer address) = 0
target_of pointer (ErasePage address) = 0
target_of pointer MassErase = 0
target_of pointer ReadUnprotect = 0
target_of pointer (Write block count) = flash_place (place_of logger (block_address transfer_bytes block pointer) count)

-- what the memory is like then: read protection, the first byte in the way of the write that waits, the first option that is not the card's
unfoldable pub surveyed : Scene → List ℕ → List ℕ → Scene
surveyed s m card =
    let from = target_of s.device.pointer s.device.pending in
    record {
      device = s.device;
      count = s.count;
      at = s.at;
      byte = s.byte;
      changed = s.changed;
      earlier = s.earlier;
      pointed = s.pointed;
      left = s.left;
      is_protected = read_protected logger m;
      dirt = first_written m (length m - from) from;
      altered = first_change (options_of logger m) card option_bytes 0;
    }

-- the memory of a board whose flash and RAM are all `old`, with the options of the card; as it was where the card has another length
unfoldable pub equipped : ℕ → List ℕ → List ℕ → List ℕ
equipped old card m =
    cond (eqb (length card) option_bytes) (put (options_from logger) card (filled 0 (memory_bytes logger) old m)) m

-- so many zero bytes
abbrev pub zeros : ℕ → List ℕ
zeros n = replicate n 0

-- a board with this memory that was just plugged in
abbrev pub born : ℕ → List ℕ → Life
born place m = life (unplayed (get_or m place 0)) m (zeros transfer_bytes) (zeros transfer_bytes)

-- what is known in the end
abbrev pub last_of : List ℕ → Life → Scene
last_of card l = surveyed l.scene l.memory card

-- the first events of a job on a board with this card, whose flash and RAM were all `old`; the byte at `place` is watched
unfoldable pub trial_of : List ℕ → ℕ → List ℕ → ℕ → ℕ → Scene
trial_of packed events card old place = last_of card (lives_of packed place events 0 (born place (equipped old card (zeros (memory_bytes logger)))))
