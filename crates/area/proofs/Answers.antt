-- Laws in the terms in which the functions over requests meet them. Assumes nothing.
use mathlib.Core.Path.{◌≡◌, ap, ◌∙◌, sym}
use mathlib.Core.List.{List}
use Prim.Native.Nat.{ℕ, ◌+◌, ◌*◌, ◌/◌, ◌≤◌}
use native.Mathlib.Omega.{arith}
use native.Mathlib.Nat.{add-zero}
use lib.ListN.{length, get_or, get_or-eq_default}
use Rattle.laws.specs.Bytes.{put}
use Rattle.request.specs.Request.{transfer_bytes}
use Rattle.request.specs.declared.Setup.{Setup}
use Rattle.device.specs.declared.Device.{Device}
use Rattle.command.specs.declared.Command.{Command}
use Rattle.decision.specs.declared.Decision.{Decision}
use Rattle.decision.specs.declared.Decision.TheVariants.{Take}
use Rattle.decision.specs.Decide.{decide_of}
use Rattle.decision.proofs.Bounds.{Bounded, decided_bounded}
use Rattle.request.specs.Setup.{data_length}
use Rattle.request.proofs.Lengths.{data_at_most}
use Rattle.hexfield.specs.Hex.{bytes_of}
use Rattle.hexfield.proofs.Fields.{bytes-length}
use Rattle.marks.specs.Area.{work_bytes}
use Rattle.marks.specs.Work.{block_from, work_of, blocked}
use Rattle.marks.proofs.View.{block-put}
use Rattle.board.specs.declared.Board.{Board}

-- data that is taken is no longer than a block
pub taken_short : (d next : Device) (s : Setup) (command : Command) (decision : Decision) (ds : List ℕ) → decision ≡ decide_of d s command → decision ≡ Take next → length ds ≡ data_length s * 2 → length ds / 2 ≤ transfer_bytes
taken_short d next s command decision ds e is l =
    let short : Bounded s (Take next) = decided_bounded d s command decision (Take next) e is in
    omega (arith, short, data_at_most s)

-- past the end of a field there is no byte
pub field_past : (ds : List ℕ) (i : ℕ) → length ds / 2 ≤ i → get_or (bytes_of ds) i 0 ≡ 0
field_past ds i h =
    let l : length (bytes_of ds) ≤ i = rw bytes-length h in
    get_or-eq_default (bytes_of ds) 0 l

-- data laid over the front of the block
pub block_taken : (board : Board) (w w' ds : List ℕ) (block : ℕ) → length w ≡ work_bytes board → block ≡ block_from board → length ds / 2 ≤ transfer_bytes → w' ≡ put block (bytes_of ds) w → work_of board w' ≡ blocked (put 0 (bytes_of ds) (work_of board w).block) (work_of board w)
block_taken board w w' ds block l b h e =
    let room : 0 + length (bytes_of ds) ≤ transfer_bytes = rw bytes-length (omega arith) in
    let place : block ≡ block_from board + 0 = b ∙ sym (add-zero (block_from board)) in
    ap (work_of board) (e ∙ ap (λ (k : ℕ). put k (bytes_of ds) w) place) ∙ block-put board w l 0 (bytes_of ds) room
