-- The plan of an image. Document 01, "The checker and the plan", last paragraph, and the rows of "Refusal numbers" that name the plan. Assumes nothing.
use Rattle.std.specs.Prelude.{Bool, cond, ◌||◌, List, [], ◌∷◌, ◌++◌, ℕ, zero, suc, eqb, length, take, drop, ⊤, Result}
use Rattle.board.specs.declared.Board.{Board}
use Rattle.board.specs.Layout.{page_bytes, page_offset, page_address, flash_first, pages_of}
use Rattle.protection.specs.Protection.{locked_from, word_from, any_protected}
use Rattle.request.specs.Spelled.{four, downloading, getting_status}
use Rattle.refusal.specs.declared.Refusal.{Refusal}
use Rattle.refusal.specs.declared.Refusal.TheVariants.{Protected}
use Rattle.refusal.specs.Order.{first_of}
use Rattle.refusal.specs.Delivery.{Delivery, delivered}
use Rattle.board.specs.Supply.{supply_refusals}
use Rattle.line.specs.Event.{Event, request}
use Rattle.text.specs.Text.{text_of}

-- DNLOAD of the data xs with this wValue
abbrev pub download : ℕ → List ℕ → Event
download value xs = request (downloading value xs)

-- GETSTATUS
abbrev pub get_status : Event
get_status = request getting_status

-- "each followed by two GETSTATUS"
abbrev pub polled : Event → List Event → List Event
polled e es = e ∷ get_status ∷ get_status ∷ es

-- "erase page" of an address
abbrev pub erase_page : ℕ → Event
erase_page address = download 0 (0x41 ∷ four address)

-- "set pointer" to an address
abbrev pub set_pointer : ℕ → Event
set_pointer address = download 0 (0x21 ∷ four address)

-- "a final single byte padded by one 0xFF"
abbrev pub padded : List ℕ → List ℕ
padded xs = cond (eqb (length xs) 1) (xs ++ (0xFF ∷ [])) xs

-- the bytes of the image in one page
abbrev pub page_of : Board → List ℕ → ℕ → List ℕ
page_of board image page = take (page_bytes board) (drop (page_offset board page) image)

-- "Then set pointer 0x08000000, two GETSTATUS, DNLOAD of length 0, one GETSTATUS": the first flash address of the board
abbrev pub leaving : Board → List Event
leaving board = polled (set_pointer (flash_first board)) (download 0 [] ∷ get_status ∷ [])

-- "for each image page in turn, erase page; set pointer to it; write its bytes with wValue 2": `count` pages from `page` on
unfoldable pub pages_from : Board → List ℕ → ℕ → ℕ → List Event
pages_from board image zero page = leaving board
pages_from board image (suc count) page =
    polled (erase_page (page_address board page))
    (polled (set_pointer (page_address board page))
    (polled (download 2 (padded (page_of board image page)))
    (pages_from board image count (suc page))))

-- the events of the plan: all pages of the image, then what comes behind them
unfoldable pub plan_events : Board → List ℕ → List Event
plan_events board image = pages_from board image (pages_of board (length image)) 0

-- the plan
unfoldable pub plan_of : Board → List ℕ → List ℕ
plan_of board image = text_of (plan_events board image)

-- row 12: "card read-protected, or an image page write-protected"
unfoldable pub barred : Board → List ℕ → List ℕ → Bool
barred board image card = locked_from 0 card || any_protected (word_from board 0 card) (pages_of board (length image)) 0

-- rows 7, 8 and 12
abbrev pub plan_refusals : Board → List ℕ → List ℕ → List (Refusal × Bool)
plan_refusals board image card = supply_refusals board (length image) (length card) ++ ((Protected, barred board image card) ∷ [])

-- the first of them, whatever buffer is lent
unfoldable pub planable : Board → List ℕ → List ℕ → Result ⊤ Refusal
planable board image card = first_of (plan_refusals board image card)

-- the plan writer, for a board: these rows, then 11
unfoldable pub planned : Board → List ℕ → List ℕ → List ℕ → Delivery
planned board image card out = delivered (plan_refusals board image card) (plan_of board image) out
