-- Laws of `spans` and `place_of`: the tests that decide a span, and where a placed span ends. Assumes nothing.
use mathlib.Core.Path.{◌≡◌, refl, ap, ◌∙◌}
use mathlib.Core.Bool.{true}
use Prim.Native.Nat.{ℕ, ◌+◌, ◌-◌, ◌≤◌, ◌<◌}
use native.Mathlib.Omega.{arith}
use native.Mathlib.Nat.{add-zero}
use lib.Dec.{T, leb}
use borrow.Author.Tests.{le-leb, lt-leb, leb-true}
use Rattle.laws.specs.Bytes.{Apart}
use Rattle.laws.proofs.Places.{apart_within}
use Rattle.laws.proofs.Split.{by_bool, by_lt, and_true}
use Rattle.board.specs.declared.Board.{Board}
use Rattle.board.specs.declared.Place.{Place}
use Rattle.board.specs.declared.Place.TheVariants.{Flash, Ram, Options, Outside}
use Rattle.board.specs.Layout.{flash_first, flash_bytes, flash_from, ram_first, ram_bytes, ram_from, options_first, option_bytes, options_from, memory_bytes}
use Rattle.board.specs.Memory.{ram_parts, part_from, part_bytes}
use Rattle.board.specs.Span.{spans, place_of}
use Rattle.board.specs.Sound.{Sound}
use Rattle.board.proofs.Pages.{flash_has_two}

pub spans-room : (first bytes address count : ℕ) → first ≤ address → address - first ≤ bytes → spans first bytes address count ≡ leb count (bytes - (address - first))
unfolding spans
spans-room first bytes address count h k =
    by_lt (bytes - (address - first)) count
    (λ z.
    let far : bytes < address - first + count = omega arith in
    rw (le-leb first address h, lt-leb (address - first + count) bytes far, lt-leb count (bytes - (address - first)) z))
    (λ z.
    let near : address - first + count ≤ bytes = omega arith in
    rw (le-leb first address h, le-leb (address - first + count) bytes near, le-leb count (bytes - (address - first)) z))

pub spans-ends : (first bytes address count : ℕ) → spans first bytes address count ≡ true → (first ≤ address) × (address - first + count ≤ bytes)
unfolding spans
spans-ends first bytes address count e =
    let p = and_true (leb first address) (leb (address - first + count) bytes) e in
    (leb-true _ _ p.0, leb-true _ _ p.1)

-- the answer of `place_of` in flash; `bytes` is what the board's flash has
pub place_flash : (board : Board) (bytes address count : ℕ) → bytes ≡ flash_bytes board → spans (flash_first board) bytes address count ≡ true → place_of board address count ≡ Flash (flash_from board + (address - flash_first board))
unfolding place_of
place_flash board bytes address count size f = rw (← size, f)

-- a place keeps its `count` bytes within its region
abbrev pub Lies : Board → ℕ → Place → Type 0
Lies board count (Flash at) = (flash_from board ≤ at) × (at + count ≤ flash_from board + flash_bytes board)
Lies board count (Ram at) = (at + count ≤ memory_bytes board) × Apart at count (flash_from board) (flash_bytes board) × Apart at count (options_from board) option_bytes
Lies board count (Options at) = (options_from board ≤ at) × (at + count ≤ options_from board + option_bytes)
Lies board count Outside = T true

pub place_lies : (board : Board) → Sound board → (address count : ℕ) → Lies board count (place_of board address count)
unfolding place_of part_from part_bytes ram_parts
place_lies board sound address count =
    by_bool (spans (flash_first board) (flash_bytes board) address count)
    (λ f.
    let e = spans-ends (flash_first board) (flash_bytes board) address count f in
    rw f (omega arith, omega arith))
    (λ f.
    by_bool (spans (ram_first board) (ram_bytes board) address count)
    (λ r.
    let e = spans-ends (ram_first board) (ram_bytes board) address count r in
    let one : 0 < 1 = omega arith in
    let at : ℕ = ram_from board + (address - ram_first board) in
    let low : ram_from board ≤ ram_from board + (address - ram_first board) = omega arith in
    let high : ram_from board + (address - ram_first board) + count ≤ ram_from board + ram_bytes board = omega arith in
    rw (f, r) (
      omega (arith, sound.part_in_memory 0 one),
      apart_within _ _ _ _ _ _ low high (sound.part_from_flash 0 one),
      apart_within _ _ _ _ _ _ low high (sound.part_from_options 0 one),
    ))
    (λ r.
    by_bool (spans (options_first board) option_bytes address count)
    (λ o.
    let e = spans-ends (options_first board) option_bytes address count o in
    rw (f, r, o) (omega arith, omega arith))
    (λ o. rw (f, r, o) tt)))

-- a placed span ends within memory
abbrev pub Ends : Board → ℕ → Place → Type 0
Ends board count (Flash at) = at + count ≤ memory_bytes board
Ends board count (Ram at) = at + count ≤ memory_bytes board
Ends board count (Options at) = at + count ≤ memory_bytes board
Ends board count Outside = T true

pub lies_ends : (board : Board) → Sound board → (count : ℕ) (place : Place) → Lies board count place → Ends board count place
lies_ends board sound count (Flash at) l = omega (arith, sound.flash_in_memory)
lies_ends board sound count (Ram at) l = l.0
lies_ends board sound count (Options at) l = omega (arith, sound.options_in_memory)
lies_ends board sound count Outside l = tt

-- what begins and ends in a region is a span there
pub spans-within : (first bytes offset count : ℕ) → offset + count ≤ bytes → spans first bytes (first + offset) count ≡ true
spans-within first bytes offset count h =
    let low : first ≤ first + offset = omega arith in
    let near : first + offset - first ≤ bytes = omega arith in
    let room : count ≤ bytes - (first + offset - first) = omega arith in
    spans-room first bytes (first + offset) count low near ∙ le-leb count (bytes - (first + offset - first)) room

-- a span of flash lies there
pub flash_placed : (board : Board) (offset count : ℕ) → offset + count ≤ flash_bytes board → place_of board (flash_first board + offset) count ≡ Flash (flash_from board + offset)
flash_placed board offset count h =
    let back : flash_first board + offset - flash_first board ≡ offset = omega arith in
    place_flash board (flash_bytes board) (flash_first board + offset) count refl (spans-within (flash_first board) (flash_bytes board) offset count h) ∙ ap (λ (k : ℕ). Flash (flash_from board + k)) back

-- and so does the first flash address
pub first_placed : (board : Board) → Sound board → place_of board (flash_first board) 1 ≡ Flash (flash_from board)
first_placed board sound =
    let room : 0 + 1 ≤ flash_bytes board = omega (arith, flash_has_two board sound) in
    rw (add-zero (flash_first board), add-zero (flash_from board)) at (flash_placed board 0 1 room)
