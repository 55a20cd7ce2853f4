-- The plan in the parts that the writer writes one after the other, and its length: what the code goes by, and no rule of the paper. Assumes nothing.
use Rattle.std.specs.Prelude.{cond, List, [], ◌++◌, ◌≡◌, ℕ, ◌+◌, ◌*◌, eqb, length}
use Rattle.std.proofs.lemmas.List.Edits.{sets}
use Rattle.board.specs.declared.Board.{Board}
use Rattle.board.specs.Layout.{page_address, pages_of, page_rest}
use Rattle.line.specs.Event.{Event}
use Rattle.text.specs.Text.{text_of}
use Rattle.plan.specs.Plan.{download, polled, erase_page, set_pointer, padded, page_of, leaving, pages_from}

-- the lines of an event and of the two GETSTATUS that follow it
unfoldable pub polled_text : Event → List ℕ
polled_text e = text_of (polled e [])

-- the lines of one page
unfoldable pub page_text : Board → List ℕ → ℕ → List ℕ
page_text board image page =
    polled_text (erase_page (page_address board page)) ++ polled_text (set_pointer (page_address board page)) ++ polled_text (download 2 (padded (page_of board image page)))

-- the lines of `count` pages from `page` on, and of what comes behind them
unfoldable pub rest_text : Board → List ℕ → ℕ → ℕ → List ℕ
rest_text board image count page = text_of (pages_from board image count page)

-- the lines behind the last page
unfoldable pub leaving_text : Board → List ℕ
leaving_text board = text_of (leaving board)

-- m with lines xs of n bytes over its own from place `at` on is m', and r is the place behind them
abbrev pub Laid : List ℕ → ℕ → List ℕ → ℕ → List ℕ → ℕ → Type 0
Laid m at xs n m' r = (m' ≡ sets m at xs) × (r ≡ at + n)

-- how long the line of GETSTATUS is
abbrev pub status_line_bytes : ℕ
status_line_bytes = 20

-- how long the lines of a request with n bytes of data are, and of the two GETSTATUS that follow it
abbrev pub sent_bytes : ℕ → ℕ
sent_bytes n = 60 + n * 2

-- how long the lines behind the last page are
abbrev pub leaving_bytes : ℕ
leaving_bytes = 110

-- how many bytes a block has that holds n bytes of the image
unfoldable pub padded_length : ℕ → ℕ
padded_length n = cond (eqb n 1) 2 n

-- how long the lines of a page are
unfoldable pub page_lines : Board → List ℕ → ℕ → ℕ
page_lines board image page = sent_bytes 5 + sent_bytes 5 + sent_bytes (padded_length (length (page_of board image page)))

-- how long the plan of an image of n bytes is: 200 for the lines of a page without the digits of its bytes, two digits a byte, and the end
unfoldable pub plan_bytes : Board → ℕ → ℕ
plan_bytes board n = pages_of board n * 200 + (n + cond (eqb (page_rest board n) 1) 1 0) * 2 + leaving_bytes
