-- A plan's events have the data that their setups ask for, and hold bytes only: its text gives them back. Assumes nothing.
use mathlib.Core.Path.{◌≡◌, refl, ◌∙◌}
use mathlib.Core.Bool.{true}
use mathlib.Core.List.{List, [], ◌∷◌, ◌++◌}
use Prim.Native.Nat.{ℕ, zero, suc, ◌+◌, ◌/◌, ◌%◌, ◌<◌}
use native.Mathlib.Omega.{arith}
use lib.Dec.{eqb, ltb}
use lib.ListN.{length, drop}
use borrow.Author.Tests.{lt-ltb}
use Rattle.laws.proofs.Split.{by_bool}
use Rattle.board.specs.declared.Board.{Board}
use Rattle.board.specs.Layout.{page_bytes, page_offset, page_address, flash_first, pages_of}
use Rattle.board.specs.Sound.{Sound}
use Rattle.request.specs.Setup.{setup_of, data_length, fits_of}
use Rattle.laws.specs.Lists.{all_bytes}
use Rattle.line.specs.Event.{Event, fits, in_bytes}
use Rattle.text.specs.Text.{proper}
use Rattle.laws.proofs.Lists.{bytes-append, bytes_take, bytes_drop}
use Rattle.line.proofs.Formed.{fits_if}
use Rattle.judgement.proofs.Events.{Fitting}
use Rattle.judgement.proofs.Runs.{AllFit}
use Rattle.request.specs.Spelled.{two, four}
use Rattle.plan.specs.Plan.{download, get_status, polled, erase_page, set_pointer, padded, page_of, leaving, pages_from, plan_events}
use Rattle.plan.proofs.Requests.{setup_for, download_setup}
use Rattle.plan.proofs.Image.{page_most}

download-fits : (value : ℕ) (xs : List ℕ) → value < 65536 → length xs < 65536 → Fitting (download value xs)
unfolding data_length
download-fits value xs v l =
    fits_if (0x21 ∷ 1 ∷ (two value ++ (0 ∷ 0 ∷ (two (length xs) ++ xs)))) (omega arith)
    (let e : 8 + length xs ≡ 8 + data_length (setup_for value (length xs)) = refl in
    rw (download_setup value xs v l) (let z : suc (suc (suc (suc (suc (suc (suc (suc (length xs)))))))) ≡ 8 + length xs = omega arith in z ∙ e))

status-fits : Fitting get_status
unfolding fits_of setup_of data_length
status-fits = refl

page_short : (board : Board) → Sound board → (image : List ℕ) (page : ℕ) → length (padded (page_of board image page)) < 65536
page_short board sound image page = omega (arith, page_most board sound image page, sound.page_in_transfer)

polled-fits : (e : Event) (es : List Event) → Fitting e → AllFit es → AllFit (polled e es)
polled-fits e es f r = (f, (status-fits, (status-fits, r)))

-- a command with its address
addressed_fits : (code address : ℕ) → Fitting (download 0 (code ∷ four address))
addressed_fits code address = download-fits 0 (code ∷ four address) (omega arith) (omega arith)

leaving-fits : (board : Board) → AllFit (leaving board)
leaving-fits board =
    polled-fits (set_pointer (flash_first board)) (download 0 [] ∷ get_status ∷ []) (addressed_fits 0x21 (flash_first board)) (download-fits 0 [] (omega arith) (omega arith), (status-fits, tt))

pages_fit : (board : Board) → Sound board → (image : List ℕ) (count page : ℕ) → AllFit (pages_from board image count page)
unfolding pages_from
pages_fit board sound image zero page = leaving-fits board
pages_fit board sound image (suc count) page =
    let write : Event = download 2 (padded (page_of board image page)) in
    let rest : List Event = pages_from board image count (suc page) in
    polled-fits (erase_page (page_address board page)) (polled (set_pointer (page_address board page)) (polled write rest)) (addressed_fits 0x41 (page_address board page))
    (polled-fits (set_pointer (page_address board page)) (polled write rest) (addressed_fits 0x21 (page_address board page))
    (polled-fits write rest (download-fits 2 (padded (page_of board image page)) (omega arith) (page_short board sound image page)) (pages_fit board sound image count (suc page))))

pub plan_fits : (board : Board) → Sound board → (image : List ℕ) → AllFit (plan_events board image)
unfolding plan_events
plan_fits board sound image = pages_fit board sound image (pages_of board (length image)) 0

-- the bytes of a number are bytes
byte_is : (x : ℕ) → ltb (x % 256) 256 ≡ true
byte_is x = lt-ltb (x % 256) 256 (omega arith)

download-bytes : (value : ℕ) (xs : List ℕ) → all_bytes xs ≡ true → in_bytes (download value xs) ≡ true
unfolding in_bytes all_bytes
download-bytes value xs y = rw (byte_is value, byte_is (value / 256), byte_is (length xs), byte_is (length xs / 256), y)

addressed_bytes : (code address : ℕ) → ltb code 256 ≡ true → in_bytes (download 0 (code ∷ four address)) ≡ true
unfolding all_bytes
addressed_bytes code address c =
    download-bytes 0 (code ∷ four address) (rw (c, byte_is address, byte_is (address / 256), byte_is (address / 65536), byte_is (address / 16777216)))

page_bytes_lem : (board : Board) (image : List ℕ) (page : ℕ) → all_bytes image ≡ true → all_bytes (padded (page_of board image page)) ≡ true
unfolding all_bytes
page_bytes_lem board image page y =
    let own : all_bytes (page_of board image page) ≡ true = bytes_take (page_bytes board) (drop (page_offset board page) image) (bytes_drop (page_offset board page) image y) in
    by_bool (eqb (length (page_of board image page)) 1) (λ e. rw e (bytes-append (page_of board image page) (0xFF ∷ []) own refl)) (λ e. rw e own)

proper_on : (e : Event) (es : List Event) → fits e ≡ true → in_bytes e ≡ true → proper es ≡ true → proper (e ∷ es) ≡ true
unfolding proper
proper_on e es f y r = rw (f, y, r)

status-proper : (es : List Event) → proper es ≡ true → proper (get_status ∷ es) ≡ true
unfolding fits in_bytes all_bytes
status-proper es r = proper_on get_status es status-fits refl r

polled-proper : (value : ℕ) (xs : List ℕ) (es : List Event) → Fitting (download value xs) → in_bytes (download value xs) ≡ true → proper es ≡ true → proper (polled (download value xs) es) ≡ true
unfolding fits
polled-proper value xs es f y r = proper_on (download value xs) (get_status ∷ get_status ∷ es) f y (status-proper (get_status ∷ es) (status-proper es r))

leaving-proper : (board : Board) → proper (leaving board) ≡ true
unfolding fits all_bytes proper
leaving-proper board =
    polled-proper 0 (0x21 ∷ four (flash_first board)) (download 0 [] ∷ get_status ∷ []) (addressed_fits 0x21 (flash_first board)) (addressed_bytes 0x21 (flash_first board) refl)
    (proper_on (download 0 []) (get_status ∷ []) (download-fits 0 [] (omega arith) (omega arith)) (download-bytes 0 [] refl) (status-proper [] refl))

pages-proper : (board : Board) → Sound board → (image : List ℕ) (count page : ℕ) → all_bytes image ≡ true → proper (pages_from board image count page) ≡ true
unfolding pages_from
pages-proper board sound image zero page y = leaving-proper board
pages-proper board sound image (suc count) page y =
    polled-proper 0 (0x41 ∷ four (page_address board page)) _ (addressed_fits 0x41 (page_address board page)) (addressed_bytes 0x41 (page_address board page) refl)
    (polled-proper 0 (0x21 ∷ four (page_address board page)) _ (addressed_fits 0x21 (page_address board page)) (addressed_bytes 0x21 (page_address board page) refl)
    (polled-proper 2 (padded (page_of board image page)) _ (download-fits 2 (padded (page_of board image page)) (omega arith) (page_short board sound image page)) (download-bytes 2 (padded (page_of board image page)) (page_bytes_lem board image page y))
    (pages-proper board sound image count (suc page) y)))

pub plan_proper : (board : Board) → Sound board → (image : List ℕ) → all_bytes image ≡ true → proper (plan_events board image) ≡ true
unfolding plan_events
plan_proper board sound image y = pages-proper board sound image (pages_of board (length image)) 0 y
