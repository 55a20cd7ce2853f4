-- A device of the proof, which the promise of no call that a customer makes names: what is known of every board at once,
-- and what actions and events do to it. Assumes nothing.
use Rattle.std.specs.Prelude.{Bool, true, cond, ◌&&◌, ◌||◌, List, ℕ, zero, suc, eqb, take, drop, replicate}
use Rattle.laws.specs.Bytes.{put}
use Rattle.board.specs.declared.Board.{Board}
use Rattle.board.specs.Layout.{flash_pages, page_bytes, page_from, flash_bytes, flash_from, options_from, defaults}
use Rattle.board.specs.Memory.{ram_parts, part_from, part_bytes}
use Rattle.protection.specs.Protection.{read_protected, word_of, write_protected}
use Rattle.request.specs.declared.Setup.{Setup}
use Rattle.request.specs.Setup.{setup_of}
use Rattle.mode.specs.declared.Mode.TheVariants.{UploadIdle}
use Rattle.device.specs.declared.Device.{Device}
use Rattle.device.specs.declared.Ran.{Ran}
use Rattle.mode.specs.Wire.{err_write}
use Rattle.device.specs.State.{started, entered, after_status, report_of}
use Rattle.decision.specs.declared.Decision.{Decision}
use Rattle.decision.specs.declared.Decision.TheVariants as decided
use Rattle.command.specs.Command.{command_of}
use Rattle.decision.specs.Decide.{decide_of}
use Rattle.access.specs.declared.Access.{Access}
use Rattle.access.specs.declared.Access.TheVariants.{Denied, InFlash, InRam, InOptions}
use Rattle.action.specs.declared.Action.{Action}
use Rattle.action.specs.declared.Action.TheVariants.{Rest, Fail, Point, Erase, EraseAll, Unprotect, ClearRam, StoreFlash, StoreRam, StoreOptions}
use Rattle.access.specs.Access.{block_access}
use Rattle.action.specs.Action.{status_action, ran_of}
use Rattle.flash.specs.Flash.{kept, blank, stored}
use Rattle.line.specs.Event.{Event, attach, request}
use Rattle.marks.specs.Work.{Work, known, valued, blocked, learnt}

-- each of `count` bytes from place i on is known, but for those in write-protected pages
unfoldable pub sure_from : Board → ℕ → ℕ → ℕ → Work → Bool
sure_from board word zero i w = true
sure_from board word (suc count) i w = (known w i || kept board word i) && sure_from board word count (suc i) w

-- the erased test passes on every board: each byte that will be written is known, and erased
unfoldable pub surely : Board → ℕ → ℕ → ℕ → Work → Bool
surely board word at count w = blank board word at count w.values && sure_from board word count at w

-- a page after its erase: known to be 0xFF, or as it was where it is write-protected
unfoldable pub page_erased : Board → ℕ → ℕ → Work → Work
page_erased board word page w = cond (write_protected word page) w (learnt (page_from board page) (replicate (page_bytes board) 0xFF) w)

-- the same of `count` pages from `page` on
unfoldable pub pages_erased : Board → ℕ → ℕ → ℕ → Work → Work
pages_erased board word zero page w = w
pages_erased board word (suc count) page w = pages_erased board word count (suc page) (page_erased board word page w)

-- all flash, write-protected or not
unfoldable pub flash_learnt : Board → Work → Work
flash_learnt board w = learnt (flash_from board) (replicate (flash_bytes board) 0xFF) w

-- `count` parts of RAM from part k on, known to be zero
unfoldable pub parts_learnt : Board → ℕ → ℕ → Work → Work
parts_learnt board zero k w = w
parts_learnt board (suc count) k w = parts_learnt board count (suc k) (learnt (part_from board k) (replicate (part_bytes board k) 0) w)

-- the RAM
unfoldable pub ram_learnt : Board → Work → Work
ram_learnt board w = parts_learnt board (ram_parts board) 0 w

-- the status of an action on every board, and what is known after it
pub record Worked : Type 0 where
  pub status : ℕ
  pub work : Work

-- the two in one
abbrev pub worked : ℕ → Work → Worked
worked status w = record { status = status; work = w }

-- a write to flash: where the erased test cannot fail on any board the block is stored, else the event fails on some
abbrev pub writes : Board → ℕ → ℕ → ℕ → Work → Worked
writes board word at count w =
    cond (surely board word at count w) (worked 0 (valued (stored board word at (take count w.block) w.values) w)) (worked err_write w)

-- each action on every board at once
abbrev pub worked_of : Board → Action → Work → Worked
worked_of board Rest w = worked 0 w
worked_of board (Fail status) w = worked status w
worked_of board (Point address) w = worked 0 w
worked_of board (Erase page) w = worked 0 (page_erased board (word_of board w.values) page w)
worked_of board EraseAll w = worked 0 (pages_erased board (word_of board w.values) (flash_pages board) 0 w)
worked_of board Unprotect w = worked 0 (learnt (options_from board) defaults (ram_learnt board (flash_learnt board w)))
worked_of board ClearRam w = worked 0 (ram_learnt board w)
worked_of board (StoreFlash at count) w = writes board (word_of board w.values) at count w
worked_of board (StoreRam at count) w = worked 0 (learnt at (take count w.block) w)
worked_of board (StoreOptions at count) w = worked 0 (learnt at (take count w.block) w)

-- an event on every board: it fails on some, or all go on alike
pub data Moved : Type 0 where
  falls : Moved
  goes : Device → Work → Moved

-- a GETSTATUS that ran something, or nothing
abbrev pub reports : Device → Ran → Work → Moved
reports d ran w = cond (eqb (report_of d ran).status 0) (goes (after_status d ran) w) falls

-- a GETSTATUS whose command is this action
abbrev pub runs : Board → Action → Device → Work → Moved
runs board action d w = reports d (ran_of action d.pointer (worked_of board action w).status) (worked_of board action w).work

-- a GETSTATUS in any mode
unfoldable pub status_moves : Board → Device → Work → Moved
status_moves board d w = runs board (status_action board (read_protected board w.values) d) d w

-- an UPLOAD by what its checks say
abbrev pub read_moves : Access → Device → Work → Moved
read_moves (Denied status) d w = falls
read_moves (InFlash at) d w = goes (entered d UploadIdle) w
read_moves (InRam at) d w = goes (entered d UploadIdle) w
read_moves (InOptions at) d w = goes (entered d UploadIdle) w

-- an UPLOAD of memory; its checks look at the options alone
unfoldable pub reads_moves : Board → Device → Setup → Work → Moved
reads_moves board d s w = read_moves (block_access board (read_protected board w.values) s.value s.length d.pointer) d w

-- a request with the setup s and the data stage xs
abbrev pub decision_moves : Decision → Board → Device → Setup → List ℕ → Work → Moved
decision_moves decided.Silent board d s xs w = falls
decision_moves (decided.Stall next) board d s xs w = falls
decision_moves (decided.Accept next) board d s xs w = goes next w
decision_moves (decided.Take next) board d s xs w = goes next (blocked (put 0 xs w.block) w)
decision_moves (decided.Commands next count) board d s xs w = goes next w
decision_moves decided.Read board d s xs w = reads_moves board d s w
decision_moves decided.State board d s xs w = goes d w
decision_moves decided.Status board d s xs w = status_moves board d w

-- a request, decided as the loader decides it
unfoldable pub request_moves : Board → Device → Setup → List ℕ → Work → Moved
request_moves board d s xs w = decision_moves (decide_of d s (command_of xs)) board d s xs w

-- an event
unfoldable pub moves : Board → Device → Work → Event → Moved
moves board d w attach = goes (started board) w
moves board d w (request q) = request_moves board d (setup_of q) (drop 8 q) w
