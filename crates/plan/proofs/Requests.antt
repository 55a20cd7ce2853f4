-- What the requests of a plan do to all boards, each followed by its two GETSTATUS. Assumes nothing.
use mathlib.Core.Path.{◌≡◌, refl, ap₂, ◌∙◌}
use mathlib.Core.Bool.{true, false}
use mathlib.Core.List.{List, [], ◌∷◌, ◌++◌}
use Prim.Native.Nat.{ℕ, suc, ◌+◌, ◌*◌, ◌/◌, ◌%◌, ◌≤◌, ◌<◌}
use native.Mathlib.Omega.{arith}
use lib.ListN.{length, take}
use borrow.Author.Tests.{le-leb, le-ltb, ne_eqb}
use Rattle.laws.specs.Bytes.{put}
use Rattle.board.specs.declared.Board.{Board}
use Rattle.board.specs.declared.Place.TheVariants.{Flash}
use Rattle.board.specs.Layout.{page_from, page_address, page_at}
use Rattle.protection.specs.Protection.{read_protected, word_of}
use Rattle.board.specs.Span.{place_of}
use Rattle.request.specs.declared.Setup.{Setup}
use Rattle.request.specs.declared.Request.TheVariants.{Download}
use Rattle.request.specs.Setup.{setup_of}
use Rattle.request.specs.Request.{transfer_bytes, request_of, outward_of, inward_of}
use Rattle.mode.specs.declared.Mode.{Mode}
use Rattle.mode.specs.declared.Mode.TheVariants.{Idle, DownloadSync, DownloadBusy, DownloadIdle, ManifestSync, Left}
use Rattle.device.specs.declared.Pending.{Pending}
use Rattle.device.specs.declared.Pending.TheVariants.{Nothing, SetPointer, ErasePage, Write}
use Rattle.device.specs.declared.Device.{Device}
use Rattle.mode.specs.Wire.{is_mode}
use Rattle.mode.specs.Table.{allowed_of}
use Rattle.states.specs.WellFormed.{in_region}
use Rattle.device.specs.State.{after_status, report_of}
use Rattle.command.specs.Command.{command_of}
use Rattle.decision.specs.Decide.{commanded_of, download_of, decide_of}
use Rattle.action.specs.declared.Action.{Action}
use Rattle.action.specs.declared.Action.TheVariants.{Point, Erase, StoreFlash}
use Rattle.access.specs.Access.{access_of}
use Rattle.access.proofs.Theorems.{second_access_at_pointer}
use Rattle.action.specs.Action.{action_in, action_of, status_action, moved_of, reboots_of}
use Rattle.flash.specs.Flash.{stored}
use Rattle.line.specs.Event.{Event}
use Rattle.marks.specs.Work.{Work, valued, blocked}
use Rattle.cells.specs.Cells.{surely, page_erased, worked, worked_of, goes, status_moves, decision_moves, request_moves, moves}
use Rattle.judgement.specs.Judgement.{over_of}
use Rattle.request.specs.Spelled.{two, four}
use Rattle.plan.specs.Plan.{download, get_status, polled, erase_page, set_pointer}

-- a device with nothing pending, and one that waits to run a command
abbrev pub resting : Mode → ℕ → Device
resting mode pointer = record { mode = mode; status = 0; pointer = pointer; pending = Nothing }

abbrev pub waiting : Pending → ℕ → Device
waiting pending pointer = record { mode = DownloadSync; status = 0; pointer = pointer; pending = pending }

-- DNLOAD is allowed in the modes that a plan meets it in
pub start_free : allowed_of Download Idle ≡ true
unfolding allowed_of
start_free = refl

pub idle_free : allowed_of Download DownloadIdle ≡ true
unfolding allowed_of
idle_free = refl

-- the setup of a DNLOAD
abbrev pub setup_for : ℕ → ℕ → Setup
setup_for value count = record { kind = 0x21; code = 1; value = value; index = 0; length = count }

-- numbers are read back from their bytes, low byte first
low_back : (x : ℕ) → x % 256 + x / 256 % 256 * 256 ≡ x % 65536
low_back x = omega arith

two_back : (x : ℕ) → x < 65536 → x % 256 + x / 256 % 256 * 256 ≡ x
two_back x h = low_back x ∙ (let e : x % 65536 ≡ x = omega arith in e)

joined : (a b c d low high x : ℕ) → a + b * 256 ≡ low → c + d * 256 ≡ high → low + high * 65536 ≡ x → a + b * 256 + c * 65536 + d * 16777216 ≡ x
joined a b c d low high x p q r = omega arith

four_back : (x : ℕ) → x < 0x100000000 → x % 256 + x / 256 % 256 * 0x100 + x / 65536 % 256 * 0x10000 + x / 16777216 % 256 * 0x1000000 ≡ x
four_back x h =
    let high : x / 65536 < 65536 = omega arith in
    let top : x / 16777216 ≡ x / 65536 / 256 = omega arith in
    let all : x % 65536 + x / 65536 * 65536 ≡ x = omega arith in
    rw top (joined (x % 256) (x / 256 % 256) (x / 65536 % 256) (x / 65536 / 256 % 256) (x % 65536) (x / 65536) x (low_back x) (two_back (x / 65536) high) all)

pub download_setup : (value : ℕ) (xs : List ℕ) → value < 65536 → length xs < 65536 → setup_of (0x21 ∷ 1 ∷ (two value ++ (0 ∷ 0 ∷ (two (length xs) ++ xs)))) ≡ setup_for value (length xs)
unfolding setup_of
download_setup value xs v l = ap₂ setup_for (two_back value v) (two_back (length xs) l)

-- a command and its address
address_read : (code address : ℕ) → address < 0x100000000 → command_of (code ∷ four address) ≡ record { code = code; address = address }
unfolding command_of
address_read code address h = rw (four_back address h)

-- DNLOAD in one of those modes, with the pointer at p
module _ (board : Board) (mode : Mode) (p : ℕ) (w : Work) (heard : is_mode 0 mode ≡ false) (free : allowed_of Download mode ≡ true) where
  download-moves : (value : ℕ) (xs : List ℕ) → value < 65536 → length xs ≤ transfer_bytes → moves board (resting mode p) w (download value xs) ≡ decision_moves (download_of (resting mode p) (setup_for value (length xs)) (command_of xs)) board (resting mode p) (setup_for value (length xs)) xs w
  unfolding moves request_moves decide_of request_of outward_of
  download-moves value xs v l =
      let l' : length xs < 65536 = omega arith in
      rw (download_setup value xs v l', heard, le-leb (length xs) transfer_bytes l, free)

  pointer_moves : (address : ℕ) → address < 0x100000000 → moves board (resting mode p) w (set_pointer address) ≡ goes (waiting (SetPointer address) p) w
  unfolding download_of commanded_of
  pointer_moves address h = download-moves 0 (0x21 ∷ four address) (omega arith) (omega arith) ∙ rw (address_read 0x21 address h)

  erase-moves : (address : ℕ) → address < 0x100000000 → moves board (resting mode p) w (erase_page address) ≡ goes (waiting (ErasePage address) p) w
  unfolding download_of commanded_of
  erase-moves address h = download-moves 0 (0x41 ∷ four address) (omega arith) (omega arith) ∙ rw (address_read 0x41 address h)

  write_moves : (xs : List ℕ) → 1 ≤ length xs → length xs ≤ transfer_bytes → moves board (resting mode p) w (download 2 xs) ≡ goes (waiting (Write 2 (length xs)) p) (blocked (put 0 xs w.block) w)
  unfolding download_of
  write_moves xs a b =
      let some : length xs ≡ 0 → ⊥ = λ e. omega arith in
      download-moves 2 xs (omega arith) b ∙ rw (ne_eqb (length xs) 0 some)

  pub leave_moves : moves board (resting mode p) w (download 0 []) ≡ goes (resting ManifestSync p) w
  unfolding download_of
  leave_moves = download-moves 0 [] (omega arith) (omega arith)

module _ (board : Board) (p : ℕ) (w : Work) where
  -- GETSTATUS in modes 3, 4 and 6
  sync_moves : (pending : Pending) (action : Action) (w' : Work) → action_in pending board (read_protected board w.values) p ≡ action → reboots_of action ≡ false → worked_of board action w ≡ worked 0 w' → moves board (waiting pending p) w get_status ≡ goes (resting DownloadBusy (moved_of action p)) w'
  unfolding moves request_moves setup_of decide_of request_of inward_of allowed_of status_moves status_action action_of after_status report_of
  sync_moves pending action w' a r e = rw (a, e, r)

  busy_moves : moves board (resting DownloadBusy p) w get_status ≡ goes (resting DownloadIdle p) w
  unfolding moves request_moves setup_of decide_of request_of inward_of allowed_of status_moves status_action after_status report_of
  busy_moves = refl

  pub manifest_moves : moves board (resting ManifestSync p) w get_status ≡ goes (resting Left p) w
  unfolding moves request_moves setup_of decide_of request_of inward_of allowed_of status_moves status_action after_status report_of
  manifest_moves = refl

-- an event that all boards get over
pub over_on : (board : Board) (e : Event) (es : List Event) (d d' : Device) (w w' : Work) (k : ℕ) → moves board d w e ≡ goes d' w' → over_of board (e ∷ es) d w k ≡ over_of board es d' w' (suc k)
unfolding over_of
over_on board e es d d' w w' k h = rw h

-- a request whose command runs at the GETSTATUS after it
polled_on : (board : Board) (e : Event) (es : List Event) (mode : Mode) (p : ℕ) (w w₁ w₂ : Work) (pending : Pending) (action : Action) (k : ℕ) → moves board (resting mode p) w e ≡ goes (waiting pending p) w₁ → action_in pending board (read_protected board w₁.values) p ≡ action → reboots_of action ≡ false → worked_of board action w₁ ≡ worked 0 w₂ → over_of board (polled e es) (resting mode p) w k ≡ over_of board es (resting DownloadIdle (moved_of action p)) w₂ (suc (suc (suc k)))
polled_on board e es mode p w w₁ w₂ pending action k m a r v =
    over_on board e (get_status ∷ get_status ∷ es) (resting mode p) (waiting pending p) w w₁ k m
    ∙ over_on board get_status (get_status ∷ es) (waiting pending p) (resting DownloadBusy (moved_of action p)) w₁ w₂ (suc k) (sync_moves board p w₁ pending action w₂ a r v)
    ∙ over_on board get_status es (resting DownloadBusy (moved_of action p)) (resting DownloadIdle (moved_of action p)) w₂ w₂ (suc (suc k)) (busy_moves board (moved_of action p) w₂)

-- the three commands, each with its two GETSTATUS
module _ (board : Board) (es : List Event) (mode : Mode) (heard : is_mode 0 mode ≡ false) (free : allowed_of Download mode ≡ true) where
  pub pointer_polled : (address p : ℕ) (w : Work) (k : ℕ) → in_region board address ≡ true → address < 0x100000000 → over_of board (polled (set_pointer address) es) (resting mode p) w k ≡ over_of board es (resting DownloadIdle address) w (suc (suc (suc k)))
  pointer_polled address p w k h a =
      polled_on board (set_pointer address) es mode p w w w (SetPointer address) (Point address) k (pointer_moves board mode p w heard free address a) (rw h) refl refl

  pub erase-polled : (page p : ℕ) (w : Work) (k : ℕ) → place_of board (page_address board page) 1 ≡ Flash (page_from board page) → page_at board (page_from board page) ≡ page → page_address board page < 0x100000000 → read_protected board w.values ≡ false → over_of board (polled (erase_page (page_address board page)) es) (resting mode p) w k ≡ over_of board es (resting DownloadIdle p) (page_erased board (word_of board w.values) page w) (suc (suc (suc k)))
  erase-polled page p w k place holds a r =
      polled_on board (erase_page (page_address board page)) es mode p w w (page_erased board (word_of board w.values) page w) (ErasePage (page_address board page)) (Erase page) k
      (erase-moves board mode p w heard free (page_address board page) a) (rw (r, place, holds)) refl refl

  -- w' is what is known with the block in its place
  pub write-polled : (address at : ℕ) (xs : List ℕ) (w w' : Work) (k : ℕ) → 2 ≤ length xs → length xs ≤ transfer_bytes → place_of board address (length xs) ≡ Flash at → w' ≡ blocked (put 0 xs w.block) w → read_protected board w'.values ≡ false → take (length xs) w'.block ≡ xs → surely board (word_of board w'.values) at (length xs) w' ≡ true → over_of board (polled (download 2 xs) es) (resting mode address) w k ≡ over_of board es (resting DownloadIdle address) (valued (stored board (word_of board w'.values) at xs w'.values) w') (suc (suc (suc k)))
  unfolding access_of
  write-polled address at xs w w' k a b place e r block sure =
      let some : 1 ≤ length xs = omega arith in
      polled_on board (download 2 xs) es mode address w w' (valued (stored board (word_of board w'.values) at xs w'.values) w') (Write 2 (length xs)) (StoreFlash at (length xs)) k
      (write_moves board mode address w heard free xs some b ∙ rw e)
      (rw (second_access_at_pointer board (read_protected board w'.values) (length xs) address, r, place, le-ltb (length xs) 2 a)) refl (rw (sure, block))
