-- What the definitions of specs/ amount to for who reads and writes HEX. Assumes nothing.
use mathlib.Core.Path.{◌≡◌, ap, ap₂, ◌∙◌, sym}
use mathlib.Core.Bool.{true}
use mathlib.Core.List.{List, [], ◌∷◌}
use Prim.Native.Nat.{ℕ, ◌≤◌}
use native.Mathlib.Omega.{arith}
use lib.ListN.{length, take}
use Rattle.std.specs.Prelude.{Result, Ok, Err}
use Rattle.laws.specs.Bytes.{put}
use Rattle.laws.specs.Lists.{all_bytes}
use Rattle.laws.specs.Lines.{lines_of}
use Rattle.laws.proofs.Append.{take_put}
use Rattle.refusal.specs.declared.Refusal.{Refusal}
use Rattle.refusal.specs.Order.{first_of}
use Rattle.refusal.specs.Delivery.{delivery, delivered, with_output}
use Rattle.refusal.proofs.First.{First, first_exactly, first_on, first-none}
use Rattle.refusal.proofs.Delivery.{delivery_injective, delivered-bytes, delivered-first, delivers_output}
use Rattle.board.specs.declared.Board.{Board}
use Rattle.board.specs.Layout.{logger, flash_bytes}
use Rattle.board.specs.Sound.{Sound}
use Rattle.board.proofs.Supply.{fit_some, some_fit}
use Rattle.board.proofs.Logger.{logger-sound}
use Rattle.pieces.specs.Image.{image_of}
use Rattle.ihex.specs.Reading.{hex_read_refusals, pieces_in, hex_read, faulty_line}
use Rattle.ihex.specs.Writing.{hex_text, hex_write_refusals, hex_written}
use Rattle.ihex.specs.Ways.{OneSegment, text_bytes}
use Rattle.ihex.proofs.Writing.{text-length}
use Rattle.ihex.proofs.Faulty.{Names, names_from_lem}
use Rattle.ihex.proofs.RoundTrip.{text_free, text_image}
use Rattle.ihex.proofs.Logger.{logger_segment}

-- Reading the text of an image gives the image, and its length; on every board whose flash lies above one upper half.
pub reading_the_text : (board : Board) (xs back : List ℕ) → Sound board → OneSegment board → all_bytes xs ≡ true → 1 ≤ length xs → length xs ≤ flash_bytes board → length xs ≤ length back → hex_read board (hex_text board xs) back ≡ delivery (Ok (length xs)) (put 0 xs back)
unfolding hex_read
reading_the_text board xs back sound segment b some fits room =
    ap (λ (l : List ℕ). delivered (hex_read_refusals board (hex_text board xs)) l back) (text_image board sound segment xs b fits some)
    ∙ delivers_output (hex_read_refusals board (hex_text board xs)) xs back (text_free board sound segment xs b fits some) room

-- So does reading what the writer has put out, whatever the image: one that does not fit has no text.
pub reading_what_was_written : (board : Board) (xs out back : List ℕ) (m : ℕ) → Sound board → OneSegment board → all_bytes xs ≡ true → length xs ≤ length back → (hex_written board xs out).answer ≡ 0 ∷ m ∷ [] → hex_read board (take m (hex_written board xs out).buffer) back ≡ delivery (Ok (length xs)) (put 0 xs back)
unfolding hex_written
reading_what_was_written board xs out back m sound segment b room e =
    let w = delivered-bytes (hex_write_refusals board xs) (hex_text board xs) out m e in
    let f = fit_some board (length xs) ((first_exactly (hex_write_refusals board xs) (Ok tt)).0 w.0).0 in
    let t : take m (delivered (hex_write_refusals board xs) (hex_text board xs) out).buffer ≡ hex_text board xs = ap₂ take w.1 w.2 ∙ take_put (hex_text board xs) out in
    ap (λ (x : List ℕ). hex_read board x back) t ∙ reading_the_text board xs back sound segment b f.0 f.1 room

-- Every image of 1 byte to all of flash is written where its text has room, and that text is no longer than one of all of flash; on every board.
pub every_image_is_written : (board : Board) (xs out : List ℕ) → 1 ≤ length xs → length xs ≤ flash_bytes board → length (hex_text board xs) ≤ length out → hex_written board xs out ≡ delivery (Ok (length (hex_text board xs))) (put 0 (hex_text board xs) out)
unfolding hex_written
every_image_is_written board xs out some fits room =
    let free = first_on _ _ _ (some_fit board (length xs) some fits) ∙ first-none in
    delivers_output (hex_write_refusals board xs) (hex_text board xs) out free room

pub text_at_most : (board : Board) (xs : List ℕ) → length xs ≤ flash_bytes board → length (hex_text board xs) ≤ text_bytes (flash_bytes board)
text_at_most board xs fits = let l = text-length board xs in omega arith

-- For the logger: the image comes back.
pub every_image_comes_back : (xs back : List ℕ) → all_bytes xs ≡ true → 1 ≤ length xs → length xs ≤ flash_bytes logger → length xs ≤ length back → hex_read logger (hex_text logger xs) back ≡ delivery (Ok (length xs)) (put 0 xs back)
every_image_comes_back xs back b some fits room = reading_the_text logger xs back logger-sound logger_segment b some fits room

-- Two images that fit flash and have the same text are the same.
pub same_text_same_image : (board : Board) (xs ys : List ℕ) → Sound board → OneSegment board → all_bytes xs ≡ true → all_bytes ys ≡ true → 1 ≤ length xs → 1 ≤ length ys → length xs ≤ flash_bytes board → length ys ≤ flash_bytes board → hex_text board xs ≡ hex_text board ys → xs ≡ ys
same_text_same_image board xs ys sound segment bx byt ox oy fx fy e = sym (text_image board sound segment xs bx fx ox) ∙ ap (λ (t : List ℕ). image_of board (pieces_in t)) e ∙ text_image board sound segment ys byt fy oy

-- A refusal is the first that applies, of the list that the call goes through; `line_in_order` and its neighbours of Order say that each part of the list keeps the one order.
pub read_refuses_first : (board : Board) (t out y : List ℕ) (r : Refusal) → hex_read board t out ≡ delivery (Err r) y → First (with_output (hex_read_refusals board t) (image_of board (pieces_in t)) out) r
unfolding hex_read
read_refuses_first board t out y r e = delivered-first (hex_read_refusals board t) (image_of board (pieces_in t)) out r y e

pub write_refuses_first : (board : Board) (xs out y : List ℕ) (r : Refusal) → hex_written board xs out ≡ delivery (Err r) y → First (with_output (hex_write_refusals board xs) (hex_text board xs) out) r
unfolding hex_written
write_refuses_first board xs out y r e = delivered-first (hex_write_refusals board xs) (hex_text board xs) out r y e

-- Any two outcomes that a promise of the reader or of the writer allows are equal.
pub one_reading : (board : Board) (t out x y : List ℕ) (r s : Result ℕ Refusal) → delivery r x ≡ hex_read board t out → delivery s y ≡ hex_read board t out → (r ≡ s) × (x ≡ y)
one_reading board t out x y r s a b = delivery_injective r s x y (a ∙ sym b)

pub one_writing : (board : Board) (xs out x y : List ℕ) (r s : Result ℕ Refusal) → delivery r x ≡ hex_written board xs out → delivery s y ≡ hex_written board xs out → (r ≡ s) × (x ≡ y)
one_writing board xs out x y r s a b = delivery_injective r s x y (a ∙ sym b)

-- The line for people: 0 exactly where no refusal of the text applies, and where 20 is given, the line that it names.
pub faulty_line_names : (board : Board) (t : List ℕ) → Names (first_of (hex_read_refusals board t)) (faulty_line board t)
faulty_line_names board t = names_from_lem board 1 0 [] (lines_of t) (omega arith)
