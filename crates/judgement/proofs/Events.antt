-- An event moves every board as it moves the work area, and falls on a board of zeros where it falls there. Assumes nothing.
use mathlib.Core.Path.{◌≡◌, refl, ap, ◌∙◌, sym}
use mathlib.Core.Bool.{true, false}
use mathlib.Core.List.{List, [], ◌∷◌}
use Prim.Native.Nat.{ℕ, ◌+◌, ◌-◌, ◌≤◌}
use native.Mathlib.Omega.{arith}
use native.Mathlib.Nat.{min-le_right}
use lib.Dec.{T, eqb}
use lib.ListN.{length, take, drop, get_or, length-take, length-drop}
use Rattle.laws.specs.Bytes.{put}
use Rattle.laws.proofs.Append.{take_put}
use Rattle.laws.proofs.Bytes.{put-length, take_at_most}
use Rattle.laws.proofs.Split.{and_right_false}
use Rattle.board.specs.declared.Board.{Board}
use Rattle.board.specs.Layout.{options_from, memory_bytes}
use Rattle.board.specs.Sound.{Sound}
use Rattle.protection.specs.Protection.{read_protected}
use Rattle.request.specs.declared.Request.TheVariants.{Download}
use Rattle.request.specs.Request.{transfer_bytes, request_of, is_get_status}
use Rattle.request.specs.Setup.{setup_of, data_length, fits_of}
use Rattle.request.proofs.Known.{download_brings}
use Rattle.request.proofs.Lengths.{fits_data}
use Rattle.mode.specs.declared.Mode.TheVariants.{Idle, ManifestSync, UploadIdle}
use Rattle.device.specs.declared.Pending.TheVariants.{Nothing, SetPointer, ErasePage, MassErase, ReadUnprotect, Write}
use Rattle.device.specs.declared.Device.{Device}
use Rattle.mode.specs.Wire.{wire_of}
use Rattle.device.specs.State.{started, idled, entered, report_of}
use Rattle.states.specs.WellFormed.{well_formed}
use Rattle.states.proofs.Form.{Form, well_formed_lem, after-status-none}
use Rattle.command.specs.declared.Command.{Command}
use Rattle.decision.specs.declared.Decision.{Decision}
use Rattle.decision.specs.declared.Decision.TheVariants as decided
use Rattle.command.specs.Command.{command_of}
use Rattle.decision.specs.Decide.{decide_of, waiting}
use Rattle.decision.proofs.Cases.{decide_case}
use Rattle.access.specs.declared.Access.{Access}
use Rattle.access.specs.declared.Access.TheVariants.{Denied, InFlash, InRam, InOptions}
use Rattle.access.specs.Access.{block_access}
use Rattle.loader.specs.declared.Event.TheVariants as event
use Rattle.loader.specs.declared.Answer.TheVariants.{Accepted}
use Rattle.loader.specs.Answer.{Outcome, outcome}
use Rattle.loader.specs.Inner.{InOrder}
use Rattle.loader.specs.Serve.{run_of, status_bytes, status_of, read_at, uploaded_of, command_codes, acted_of, serve_of}
use Rattle.loader.specs.Step.{sizes_of, step_of}
use Rattle.loader.proofs.Admitted.{step_attaches, step_serves, admit_all, in_order_admitted}
use Rattle.line.specs.Event.{Event, attach, request}
use Rattle.loader.specs.World.{World, world_of, stepped_of}
use Rattle.demand.specs.Boards.{fails, asks_status}
use Rattle.marks.specs.Work.{Work, blocked}
use Rattle.marks.proofs.Known.{blocked-known, blocked_sized}
use Rattle.cells.specs.Cells.{falls, goes, read_moves, reads_moves, status_moves, decision_moves, request_moves, moves}
use Rattle.cells.proofs.Likeness.{Alike}
use Rattle.cells.proofs.Actions.{Zeros, protection_same}
use Rattle.judgement.proofs.Moves.{Held, goes-device, goes-work, falls-not, status-goes, status-falls}

-- a board that began with memory m₀ stands where the device d and the work area w say
pub record Stands (board : Board) (m₀ : List ℕ) (x : World) (d : Device) (w : Work) : Type 0 where
  pub device : x.device ≡ d
  pub alike : Alike board m₀ x.memory w
  pub held : Held d.pending x.block w
  pub block : length x.block ≡ transfer_bytes
  pub reply : length x.reply ≡ transfer_bytes

-- the answer Accepted never fails
accepted_fine : (e : Event) (o : Outcome) → o.answer ≡ 0 ∷ [] → fails e o ≡ false
unfolding fails
accepted_fine e o a = rw a (and_right_false (asks_status e))

-- nor does a Reply to what is no GETSTATUS
reply_fine : (e : Event) (o : Outcome) (count : ℕ) → o.answer ≡ 1 ∷ count ∷ [] → asks_status e ≡ false → fails e o ≡ false
unfolding fails
reply_fine e o count a s = rw (a, s)

status_fine : (e : Event) (o : Outcome) (count : ℕ) → o.answer ≡ 1 ∷ count ∷ [] → get_or o.reply 0 0 ≡ 0 → fails e o ≡ false
unfolding fails
status_fine e o count a z = rw (a, z) (and_right_false (asks_status e))

status-fails : (e : Event) (o : Outcome) (count : ℕ) → o.answer ≡ 1 ∷ count ∷ [] → asks_status e ≡ true → eqb (get_or o.reply 0 0) 0 ≡ false → fails e o ≡ true
unfolding fails
status-fails e o count a s z = rw (a, s, z)

-- the front of a reply
put_first : (x : ℕ) (xs y : List ℕ) → get_or (put 0 (x ∷ xs) y) 0 0 ≡ x
unfolding put
put_first x xs y = refl

reply-length : (xs y : List ℕ) → length xs ≤ transfer_bytes → length y ≡ transfer_bytes → length (put 0 xs y) ≡ transfer_bytes
reply-length xs y h l =
    let room : 0 + length xs ≤ length y = omega arith in
    put-length 0 xs y room ∙ l

-- a request q on one board: state d, memory m, block buffer b, reply buffer y, which began as m₀, beside the work area w
module _ (board : Board) (sound : Sound board) (d : Device) (q m b y m₀ : List ℕ) (w : Work) (form : Form board d) (fit : fits_of q ≡ true) (s : Alike board m₀ m w) (held : Held d.pending b w) (lb : length b ≡ transfer_bytes) (ly : length y ≡ transfer_bytes) where
  -- what is to be shown of a decision
  record Right (x : Decision) : Type 0 where
    pub on : (d' : Device) (w' : Work) → decision_moves x board d (setup_of q) (drop 8 q) w ≡ goes d' w' → (fails (request q) (acted_of x board d q m b y) ≡ false) × Stands board m₀ (world_of (acted_of x board d q m b y)) d' w'
    pub down : Zeros board m₀ → decision_moves x board d (setup_of q) (drop 8 q) w ≡ falls → fails (request q) (acted_of x board d q m b y) ≡ true

  silent_right : Right decided.Silent
  unfolding fails
  silent_right = record { on = λ d' w' e. absurd (falls-not d' w' e); down = λ z e. refl }

  stall_right : (next : Device) → Right (decided.Stall next)
  unfolding fails
  stall_right next = record { on = λ d' w' e. absurd (falls-not d' w' e); down = λ z e. refl }

  accept_right : (next : Device) → Held next.pending b w → Right (decided.Accept next)
  accept_right next h =
      record {
        on = λ d' w' e.
            let ed = goes-device next d' w w' e in
            let ew = goes-work next d' w w' e in
            (accepted_fine (request q) (acted_of (decided.Accept next) board d q m b y) refl, rw (sym ed, sym ew) (record { device = refl; alike = s; held = h; block = lb; reply = ly }));
        down = λ z e. absurd (falls-not next w (sym e));
      }

  -- a block that is taken goes to the block buffer and to the work area's block
  taken : Work
  taken = blocked (put 0 (drop 8 q) w.block) w

  block_alike : length (drop 8 q) ≤ transfer_bytes → Alike board m₀ m taken
  unfolding taken
  block_alike h =
      let b' : List ℕ = put 0 (drop 8 q) w.block in
      record {
        memory = s.memory;
        work = blocked_sized board b' w (reply-length (drop 8 q) w.block h s.work.block) s.work;
        cells = λ i l. s.cells i l ∙ sym (rw (blocked-known b' w i));
        options = λ k l. blocked-known b' w (options_from board + k) ∙ s.options k l;
      }

  take_right : (next : Device) (count : ℕ) → length (drop 8 q) ≡ count → count ≤ transfer_bytes → (take count (put 0 (drop 8 q) b) ≡ take count taken.block → Held next.pending (put 0 (drop 8 q) b) taken) → Right (decided.Take next)
  unfolding taken
  take_right next count l h holds =
      let short : length (drop 8 q) ≤ transfer_bytes = omega arith in
      let both : take count (put 0 (drop 8 q) b) ≡ take count (put 0 (drop 8 q) w.block) = rw (sym l) (take_put (drop 8 q) b ∙ sym (take_put (drop 8 q) w.block)) in
      record {
        on = λ d' w' e.
            let ed = goes-device next d' (blocked (put 0 (drop 8 q) w.block) w) w' e in
            let ew = goes-work next d' (blocked (put 0 (drop 8 q) w.block) w) w' e in
            (accepted_fine (request q) (acted_of (decided.Take next) board d q m b y) refl, rw (sym ed, sym ew) (record { device = refl; alike = block_alike short; held = holds both; block = reply-length (drop 8 q) b short lb; reply = ly }));
        down = λ z e. absurd (falls-not next (blocked (put 0 (drop 8 q) w.block) w) (sym e));
      }

  -- a reply to what is no GETSTATUS
  replies : (next : Device) (count : ℕ) (xs : List ℕ) (o : Outcome) → o.answer ≡ 1 ∷ count ∷ [] → o.device ≡ next → o.memory ≡ m → o.block ≡ b → o.reply ≡ put 0 xs y → length xs ≤ transfer_bytes → asks_status (request q) ≡ false → Held next.pending b w → (d' : Device) (w' : Work) → goes next w ≡ goes d' w' → (fails (request q) o ≡ false) × Stands board m₀ (world_of o) d' w'
  replies next count xs o ea ed em eb ey h a hp d' w' e =
      let id = goes-device next d' w w' e in
      let iw = goes-work next d' w w' e in
      (reply_fine (request q) o count ea a, rw (sym id, sym iw) (record { device = ed; alike = rw em s; held = rw eb hp; block = ap length eb ∙ lb; reply = ap length ey ∙ reply-length xs y h ly }))

  commands_right : (next : Device) (count : ℕ) → asks_status (request q) ≡ false → Held next.pending b w → Right (decided.Commands next count)
  commands_right next count a h =
      let short : length (take count command_codes) ≤ transfer_bytes = short_codes count in
      record {
        on = λ d' w' e. replies next count (take count command_codes) (acted_of (decided.Commands next count) board d q m b y) refl refl refl refl refl short a h d' w' e;
        down = λ z e. absurd (falls-not next w (sym e));
      }
    where
      short_codes : (k : ℕ) → length (take k command_codes) ≤ transfer_bytes
      short_codes k = omega (arith, length-take k command_codes, min-le_right k (length command_codes))

  state_right : asks_status (request q) ≡ false → Right decided.State
  state_right a =
      record {
        on = λ d' w' e. replies d 1 (wire_of d.mode ∷ []) (acted_of decided.State board d q m b y) refl refl refl refl refl (omega arith) a held d' w' e;
        down = λ z e. absurd (falls-not d w (sym e));
      }

  sent_short : (at count : ℕ) → count ≤ transfer_bytes → length (take count (drop at m)) ≤ transfer_bytes
  sent_short at count h = omega (arith, take_at_most count (drop at m))

  -- a read by an access that was found
  read_on_lem : (access : Access) (count : ℕ) → count ≤ transfer_bytes → asks_status (request q) ≡ false → (d' : Device) (w' : Work) → read_moves access d w ≡ goes d' w' → (fails (request q) (read_at access count d m b y) ≡ false) × Stands board m₀ (world_of (read_at access count d m b y)) d' w'
  read_on_lem (Denied status) count h a d' w' e = absurd (falls-not d' w' e)
  read_on_lem (InFlash at) count h a d' w' e = replies (entered d UploadIdle) count (take count (drop at m)) (read_at (InFlash at) count d m b y) refl refl refl refl refl (sent_short at count h) a held d' w' e
  read_on_lem (InRam at) count h a d' w' e = replies (entered d UploadIdle) count (take count (drop at m)) (read_at (InRam at) count d m b y) refl refl refl refl refl (sent_short at count h) a held d' w' e
  read_on_lem (InOptions at) count h a d' w' e = replies (entered d UploadIdle) count (take count (drop at m)) (read_at (InOptions at) count d m b y) refl refl refl refl refl (sent_short at count h) a held d' w' e

  read_down : (access : Access) (count : ℕ) → read_moves access d w ≡ falls → fails (request q) (read_at access count d m b y) ≡ true
  unfolding fails
  read_down (Denied status) count e = refl
  read_down (InFlash at) count e = absurd (falls-not (entered d UploadIdle) w (sym e))
  read_down (InRam at) count e = absurd (falls-not (entered d UploadIdle) w (sym e))
  read_down (InOptions at) count e = absurd (falls-not (entered d UploadIdle) w (sym e))

  -- the board finds the access that was found for all
  found : Access
  found = block_access board (read_protected board w.values) (setup_of q).value (setup_of q).length d.pointer

  read_found : uploaded_of board d (setup_of q) m b y ≡ read_at found (setup_of q).length d m b y
  unfolding uploaded_of found
  read_found = rw (protection_same board sound m₀ m w s)

  moves-found : reads_moves board d (setup_of q) w ≡ read_moves found d w
  unfolding reads_moves found
  moves-found = refl

  read_right : asks_status (request q) ≡ false → (setup_of q).length ≤ transfer_bytes → Right decided.Read
  read_right a h =
      record {
        on = λ d' w' e.
            let r = read_on_lem found (setup_of q).length h a d' w' (sym moves-found ∙ e) in
            (ap (fails (request q)) read_found ∙ r.0, rw read_found r.1);
        down = λ z e. ap (fails (request q)) read_found ∙ read_down found (setup_of q).length (sym moves-found ∙ e);
      }

  -- a GETSTATUS
  status_right : asks_status (request q) ≡ true → ((d' : Device) (w' : Work) → status_moves board d w ≡ goes d' w' → Held d'.pending b w') → Right decided.Status
  unfolding status_of
  status_right a hp =
      let report = report_of d (run_of board d b m).ran in
      record {
        on = λ d' w' e.
            let r = status-goes board sound d b m₀ m w form held s d' w' e in
            (status_fine (request q) (acted_of decided.Status board d q m b y) 6 refl (put_first report.status _ y ∙ r.report), record { device = r.device; alike = r.alike; held = hp d' w' e; block = lb; reply = reply-length (status_bytes report) y (omega arith) ly });
        down = λ z e. status-fails (request q) (acted_of decided.Status board d q m b y) 6 refl a (ap (λ (k : ℕ). eqb k 0) (put_first report.status _ y) ∙ status-falls board sound d b m₀ m w form held s z e);
      }

  -- nothing is pending then
  status_held : (d' : Device) (w' : Work) → status_moves board d w ≡ goes d' w' → Held d'.pending b w'
  status_held d' w' e =
      let r = status-goes board sound d b m₀ m w form held s d' w' e in
      let none : d'.pending ≡ Nothing = ap (λ (x : Device). x.pending) (sym r.device) ∙ after-status-none board d (run_of board d b m).ran form in
      rw none tt

  stage_length : request_of (setup_of q) ≡ Download → length (drop 8 q) ≡ (setup_of q).length
  stage_length a =
      let l : length q ≡ 8 + data_length (setup_of q) = fits_data q fit in
      let e : data_length (setup_of q) ≡ (setup_of q).length = download_brings (setup_of q) a in
      length-drop 8 q ∙ (let z : length q - 8 ≡ (setup_of q).length = omega arith in z)

  decided_right : (k : Command) → Right (decide_of d (setup_of q) k)
  decided_right k =
      decide_case Right d (setup_of q) k
      (record {
        silent = silent_right;
        refused = stall_right _;
        leaves = λ t. accept_right (entered d ManifestSync) held;
        points = λ t address. accept_right (waiting d (SetPointer address)) tt;
        erases = λ t address. accept_right (waiting d (ErasePage address)) tt;
        erases_all = λ t. accept_right (waiting d MassErase) tt;
        unprotects = λ t. accept_right (waiting d ReadUnprotect) tt;
        takes = λ t f. take_right (waiting d (Write (setup_of q).value (setup_of q).length)) (setup_of q).length (stage_length t.asked) t.short (λ e. e);
        lists = λ t count h. commands_right (entered d Idle) count (ap is_get_status t.asked) held;
        reads = λ t. read_right (ap is_get_status t.asked) t.short;
        clears = accept_right (idled d) tt;
        state = λ t. state_right (ap is_get_status t.asked);
        status = λ t. status_right (ap is_get_status t.asked) status_held;
      })

  serve_right_on : (d' : Device) (w' : Work) → moves board d w (request q) ≡ goes d' w' → (fails (request q) (serve_of board d q m b y) ≡ false) × Stands board m₀ (world_of (serve_of board d q m b y)) d' w'
  unfolding moves request_moves serve_of
  serve_right_on d' w' e = (decided_right (command_of (drop 8 q))).on d' w' e

  serve_right_down : Zeros board m₀ → moves board d w (request q) ≡ falls → fails (request q) (serve_of board d q m b y) ≡ true
  unfolding moves request_moves serve_of
  serve_right_down z e = (decided_right (command_of (drop 8 q))).down z e

-- an event that a job can have
abbrev pub Fitting : Event → Type 0
Fitting attach = T true
Fitting (request q) = fits_of q ≡ true

-- a call that no refusal stops is served
in_order_serves : (board : Board) (d : Device) (q m b y : List ℕ) → InOrder board d q m b y → step_of board d event.Request q m b y ≡ serve_of board d q m b y
in_order_serves board d q m b y i = sym (step_serves board d event.Request q m b y _ refl (in_order_admitted board d q m b y i) refl)

attach_starts : (board : Board) (d : Device) (q m b y : List ℕ) → length m ≡ memory_bytes board → length b ≡ transfer_bytes → length y ≡ transfer_bytes → well_formed board d ≡ true → step_of board d event.Attach q m b y ≡ outcome Accepted (started board) m b y
attach_starts board d q m b y lm lb ly f = sym (step_attaches board d event.Attach q m b y _ refl (admit_all board d event.Attach q (sizes_of m b y) lm lb ly f refl) refl)

module _ (board : Board) (sound : Sound board) (m₀ : List ℕ) (d : Device) (m b y : List ℕ) (w : Work) (form : Form board d) (st : Stands board m₀ (record { device = d; memory = m; block = b; reply = y }) d w) where
  abbrev here : World
  here = record { device = d; memory = m; block = b; reply = y }

  served : (q : List ℕ) → fits_of q ≡ true → stepped_of board here (request q) ≡ serve_of board d q m b y
  unfolding stepped_of
  served q f = in_order_serves board d q m b y (record { sound = sound; memory = st.alike.memory; block = st.block; reply = st.reply; device = well_formed_lem board d form; request = f })

  attached : stepped_of board here attach ≡ outcome Accepted (started board) m b y
  unfolding stepped_of
  attached = attach_starts board d [] m b y st.alike.memory st.block st.reply (well_formed_lem board d form)

  -- an event that goes on for all boards goes on here
  pub event_on : (e : Event) → Fitting e → (d' : Device) (w' : Work) → moves board d w e ≡ goes d' w' → (fails e (stepped_of board here e) ≡ false) × Stands board m₀ (world_of (stepped_of board here e)) d' w'
  unfolding moves
  event_on attach f d' w' e =
      let ed = goes-device (started board) d' w w' e in
      let ew = goes-work (started board) d' w w' e in
      (accepted_fine attach (stepped_of board here attach) (ap (λ (o : Outcome). o.answer) attached), rw (attached, sym ed, sym ew) (record { device = refl; alike = st.alike; held = tt; block = st.block; reply = st.reply }))
  event_on (request q) f d' w' e =
      let r = serve_right_on board sound d q m b y m₀ w form f st.alike st.held st.block st.reply d' w' e in
      (ap (fails (request q)) (served q f) ∙ r.0, rw (served q f) r.1)

  -- one that falls for some falls on a board of zeros
  pub event_down : (e : Event) → Fitting e → Zeros board m₀ → moves board d w e ≡ falls → fails e (stepped_of board here e) ≡ true
  unfolding moves
  event_down attach f z e = absurd (falls-not (started board) w (sym e))
  event_down (request q) f z e = ap (fails (request q)) (served q f) ∙ serve_right_down board sound d q m b y m₀ w form f st.alike st.held st.block st.reply z e
