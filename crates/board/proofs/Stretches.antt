-- A law of `stretch_at`: a stretch ends behind its places. Assumes nothing.
use mathlib.Core.Path.{◌≡◌, refl, ◌∙◌, sym}
use mathlib.Core.Bool.{true, false, true≢false}
use Prim.Native.Nat.{ℕ, ◌+◌, ◌-◌, ◌*◌, ◌/◌, ◌≤◌, ◌<◌}
use native.Mathlib.Omega.{arith}
use native.Mathlib.Nat.{div-mul-le_self, lt-div-mul-add}
use borrow.Author.Tests.{le-leb}
use Rattle.laws.proofs.Split.{by_bool, by_lt}
use Rattle.board.specs.declared.Board.{Board}
use Rattle.board.specs.Layout.{flash_pages, page_bytes, page_offset, page_from, page_at, flash_bytes, flash_from, ram_bytes, ram_from, option_bytes, options_from, memory_bytes}
use Rattle.board.specs.Memory.{stretch_at}
use Rattle.board.specs.Span.{spans}
use Rattle.board.proofs.Span.{spans-ends, spans-room}

-- a place in flash lies in one of its pages, and before the next
pub flash_page : (board : Board) (place bytes : ℕ) → bytes ≡ flash_bytes board → spans (flash_from board) bytes place 1 ≡ true → (page_at board place + 1 ≤ flash_pages board) × (place < page_from board (page_at board place + 1))
unfolding flash_from flash_bytes page_at page_offset flash_pages page_bytes
flash_page board place bytes size f =
    let e = spans-ends _ _ _ _ f in
    let some : 0 < page_bytes board = omega arith in
    let low : (place - flash_from board) / page_bytes board * page_bytes board ≤ place - flash_from board = div-mul-le_self (place - flash_from board) (page_bytes board) in
    let high : place - flash_from board < (place - flash_from board) / page_bytes board * page_bytes board + page_bytes board = lt-div-mul-add some in
    (omega arith, omega arith)

-- a place that the tests leave over lies outside of memory
unheld : (from bytes place : ℕ) → from ≤ place → spans from bytes place 1 ≡ false → from + bytes ≤ place
unheld from bytes place h e =
    by_lt place (from + bytes)
    (λ z.
    let near : place - from ≤ bytes = omega arith in
    let room : 1 ≤ bytes - (place - from) = omega arith in
    absurd (true≢false (sym (spans-room from bytes place 1 h near ∙ le-leb 1 (bytes - (place - from)) room) ∙ e)))
    (λ z. z)

-- flash begins where memory does
flash_behind : (board : Board) (place : ℕ) → spans (flash_from board) (flash_bytes board) place 1 ≡ false → flash_bytes board ≤ place
unfolding flash_from
flash_behind board place f = omega (arith, unheld 0 (flash_bytes board) place (omega arith) f)

-- what holds a place of memory ends behind it
pub stretch_past : (board : Board) (place : ℕ) → place < memory_bytes board → place < (stretch_at board place).end
unfolding stretch_at memory_bytes options_from ram_from
stretch_past board place h =
    by_bool (spans (flash_from board) (flash_bytes board) place 1) (λ f. rw f (flash_page board place (flash_bytes board) refl f).1)
    (λ f.
    let behind : flash_bytes board ≤ place = flash_behind board place f in
    by_bool (spans (flash_bytes board) (ram_bytes board) place 1)
    (λ r. let e = spans-ends _ _ _ _ r in rw (f, r) (omega arith))
    (λ r.
    let past : flash_bytes board + ram_bytes board ≤ place = unheld (flash_bytes board) (ram_bytes board) place behind r in
    by_bool (spans (flash_bytes board + ram_bytes board) option_bytes place 1)
    (λ o. let e = spans-ends _ _ _ _ o in rw (f, r, o) (omega arith))
    (λ o. absurd (omega (arith, unheld (flash_bytes board + ram_bytes board) option_bytes place past o)))))
