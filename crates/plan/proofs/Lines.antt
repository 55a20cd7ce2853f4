-- The lines of the plan's events, and how long they are. Assumes nothing.
use mathlib.Core.Path.{◌≡◌, ◌∙◌}
use mathlib.Core.List.{List, [], ◌∷◌, ◌++◌, append_assoc, append-nil}
use Prim.Native.Nat.{ℕ, ◌+◌, ◌-◌, ◌*◌, ◌/◌, ◌%◌, ◌≤◌}
use native.Mathlib.Omega.{arith}
use lib.ListN.{length, length-append}
use borrow.Author.Tests.{eq-eqb, ne_eqb}
use Rattle.laws.proofs.Split.{by_eq}
use Rattle.board.specs.declared.Board.{Board}
use Rattle.board.specs.Layout.{page_address, flash_first}
use Rattle.line.specs.Event.{Event, request, line_of}
use Rattle.text.specs.Text.{text_of}
use Rattle.line.proofs.SpellLine.{line_length_of}
use Rattle.request.specs.Spelled.{four}
use Rattle.plan.specs.Plan.{download, get_status, polled, erase_page, set_pointer, padded, page_of}
use Rattle.plan.specs.Parts.{polled_text, page_text, leaving_text, status_line_bytes, sent_bytes, leaving_bytes, padded_length, page_lines}

-- a request's line, from what the writer of the line asks for and promises
pub line-fits : (q : List ℕ) (at n : ℕ) → 8 ≤ length q → at + (20 + (length q - 8) * 2) ≤ n → (8 ≤ length q) × (at + length (line_of (request q)) ≤ n)
line-fits q at n h room = let e = line_length_of q h in (h, omega arith)

pub line-count : (q : List ℕ) (n : ℕ) → n ≡ length (line_of (request q)) → 8 ≤ length q → n ≡ 20 + (length q - 8) * 2
line-count q n e h = e ∙ line_length_of q h

pub status-length : length (line_of get_status) ≡ status_line_bytes
status-length = line_length_of (0xA1 ∷ 3 ∷ 0 ∷ 0 ∷ 0 ∷ 0 ∷ 6 ∷ 0 ∷ []) (omega arith)

-- a request with its two GETSTATUS
pub polled-text : (e : Event) → polled_text e ≡ line_of e ++ line_of get_status ++ line_of get_status
unfolding polled_text text_of
polled-text e = simp (append_assoc, append-nil)

pub polled_behind : (e : Event) (es : List Event) → text_of (polled e es) ≡ polled_text e ++ text_of es
unfolding polled_text text_of
polled_behind e es = simp (append_assoc)

sent_length : (q : List ℕ) → 8 ≤ length q → length (polled_text (request q)) ≡ sent_bytes (length q - 8)
sent_length q h =
    let l = line_length_of q h in
    let g = status-length in
    rw (polled-text (request q), length-append, length-append) (omega arith)

-- a DNLOAD has eight bytes in front of its data
download-length : (value : ℕ) (xs : List ℕ) → length (polled_text (download value xs)) ≡ sent_bytes (length xs)
download-length value xs =
    let q : List ℕ = 0x21 ∷ 1 ∷ value % 256 ∷ value / 256 % 256 ∷ 0 ∷ 0 ∷ length xs % 256 ∷ length xs / 256 % 256 ∷ xs in
    let h : 8 ≤ length q = omega arith in
    let e : sent_bytes (length q - 8) ≡ sent_bytes (length xs) = omega arith in
    sent_length q h ∙ e

pub command-length : (code address : ℕ) → length (polled_text (download 0 (code ∷ four address))) ≡ sent_bytes 5
command-length code address = download-length 0 (code ∷ four address)

-- a block's length, and a page's
pub padded_one : (n : ℕ) → n ≡ 1 → 2 ≡ padded_length n
unfolding padded_length
padded_one n h = rw (eq-eqb n 1 h)

pub padded-more : (n : ℕ) → (n ≡ 1 → ⊥) → n ≡ padded_length n
unfolding padded_length
padded-more n h = rw (ne_eqb n 1 h)

pub padded-length : (xs : List ℕ) → length (padded xs) ≡ padded_length (length xs)
padded-length xs =
    by_eq (length xs) 1
    (λ h. let e : length (xs ++ (255 ∷ [])) ≡ 2 = length-append xs (255 ∷ []) ∙ (let k : length xs + 1 ≡ 2 = omega arith in k) in rw (eq-eqb (length xs) 1 h) (e ∙ padded_one (length xs) h))
    (λ h. rw (ne_eqb (length xs) 1 h) (padded-more (length xs) h))

pub padded_at_most : (n most : ℕ) → 2 ≤ most → n ≤ most → padded_length n ≤ most
padded_at_most n most two h =
    by_eq n 1
    (λ e. let p = padded_one n e in omega arith)
    (λ e. let p = padded-more n e in omega arith)

pub page_length : (board : Board) (image : List ℕ) (page : ℕ) → length (page_text board image page) ≡ page_lines board image page
unfolding page_text page_lines
page_length board image page =
    let a : length (polled_text (erase_page (page_address board page))) ≡ sent_bytes 5 = command-length 0x41 (page_address board page) in
    let b : length (polled_text (set_pointer (page_address board page))) ≡ sent_bytes 5 = command-length 0x21 (page_address board page) in
    let c = download-length 2 (padded (page_of board image page)) in
    let d = padded-length (page_of board image page) in
    rw (length-append, length-append) (omega arith)

-- the end
pub leaving-text : (board : Board) → leaving_text board ≡ polled_text (set_pointer (flash_first board)) ++ line_of (download 0 []) ++ line_of get_status
unfolding leaving_text text_of
leaving-text board = polled_behind (set_pointer (flash_first board)) (download 0 [] ∷ get_status ∷ []) ∙ simp (append_assoc, append-nil)

pub leave_length : length (line_of (download 0 [])) ≡ 20
leave_length = line_length_of (0x21 ∷ 1 ∷ 0 ∷ 0 ∷ 0 ∷ 0 ∷ 0 ∷ 0 ∷ []) (omega arith)

pub leaving-length : (board : Board) → length (leaving_text board) ≡ leaving_bytes
leaving-length board =
    let a = command-length 0x21 (flash_first board) in
    let b = leave_length in
    let g = status-length in
    rw (leaving-text board, length-append, length-append) (omega arith)
