-- The text of an image, read again: no refusal applies, and its image is that image. Assumes nothing.
use mathlib.Core.Path.{◌≡◌, refl, ap, ap₂, ◌∙◌, sym}
use mathlib.Core.Bool.{true, false}
use mathlib.Core.List.{List, [], ◌∷◌, ◌++◌, append_assoc, append-nil}
use Prim.Native.Nat.{ℕ, zero, suc, ◌+◌, ◌-◌, ◌*◌, ◌/◌, ◌%◌, ◌≤◌, ◌<◌}
use native.Mathlib.Omega.{arith}
use lib.Dec.{eqb}
use lib.ListN.{length, take, drop, get_or, length-drop}
use lib.Seq.{get_or-take, get_or-drop, ext_get_or, take_all, length-take-le}
use borrow.Author.Tests.{eq-eqb, ne_eqb, lt-ltb, le-ltb}
use Rattle.std.specs.Prelude.{Ok}
use Rattle.laws.specs.Lists.{all_bytes}
use Rattle.laws.proofs.Lists.{bytes_take, bytes_drop}
use Rattle.laws.proofs.Split.{by_lt}
use Rattle.laws.specs.Lines.{lines_of}
use Rattle.buffer.specs.Least.{least_of}
use Rattle.bits.specs.Bits.{any_from, within}
use Rattle.bits.proofs.Bits.{any_alike, any_nowhere, within_in, within-before, within_behind}
use Rattle.refusal.specs.Order.{first_of}
use Rattle.refusal.proofs.First.{first_on, first-none}
use Rattle.board.specs.declared.Board.{Board}
use Rattle.board.specs.Layout.{flash_first, flash_bytes}
use Rattle.board.specs.Span.{in_flash}
use Rattle.board.specs.Sound.{Sound}
use Rattle.board.proofs.Addresses.{flash_spans}
use Rattle.record.specs.Record.{type_of, offset_of, data_of, suits, good_record, record_in, summed, record_of, record_line, offset_count}
use Rattle.record.proofs.Written.{written_record, written_formed, written_lines, made_type, made_offset, made_data, made_whole, made_sound, made_bytes}
use Rattle.pieces.specs.Image.{Piece, gives, given, byte_at, reach, bytes_from, image_of}
use Rattle.pieces.specs.Refusals.{none}
use Rattle.pieces.proofs.Placing.{fresh, with_piece_lem}
use Rattle.pieces.proofs.Images.{from_length, from_at}
use Rattle.ihex.specs.Reading.{data_address, upper_after, given_after, ends, record_refusals, refusals_from, pieces_from, hex_read_refusals, pieces_in}
use Rattle.ihex.specs.Writing.{upper_half, upper_line, end_line, hex_text}
use Rattle.ihex.specs.Ways.{OneSegment, data_text}
use Rattle.ihex.proofs.Laying.{no_data}
use Rattle.ihex.proofs.Walking.{line_goes_on, line-ends}
use Rattle.ihex.proofs.Writing.{left, left_start, left-none, left-first, text_is}

-- these pieces give the first d bytes of an image, and no other
record Gives (board : Board) (xs : List ℕ) (d : ℕ) (ps : List Piece) : Type 0 where
  no_more : (i : ℕ) → d ≤ i → given ps (flash_first board + i) ≡ false
  bytes : (i : ℕ) → i < d → byte_at ps (flash_first board + i) ≡ get_or xs i 0
  stops : reach board ps ≡ flash_first board + d
  some : none ps ≡ eqb d 0

gives_none : (board : Board) (xs : List ℕ) → Gives board xs 0 []
unfolding given byte_at reach
gives_none board xs = record { no_more = λ i h. refl; bytes = λ i h. absurd (omega arith); stops = omega arith; some = refl }

-- one record more
module _ {board : Board} (xs : List ℕ) (from : ℕ) (more : from < length xs) (ps : List Piece) (g : Gives board xs from ps) where
  abbrev part : List ℕ
  part = take 16 (drop from xs)

  part_length : length part ≡ least_of 16 (length xs - from)
  part_length =
      let d : length (drop from xs) ≡ length xs - from = length-drop from xs in
      by_lt 16 (length xs - from)
      (λ h. let r : 16 ≤ length (drop from xs) = omega arith in length-take-le 16 (drop from xs) r ∙ rw (lt-ltb 16 (length xs - from) h))
      (λ h. let r : length (drop from xs) ≤ 16 = omega arith in ap length (take_all 16 (drop from xs) r) ∙ d ∙ rw (le-ltb 16 (length xs - from) h))

  part_bounds : (1 ≤ length part) × (length part ≤ 16) × (from + length part ≤ length xs)
  part_bounds =
      let l = part_length in
      by_lt 16 (length xs - from)
      (λ h. let e : length part ≡ 16 = l ∙ rw (lt-ltb 16 (length xs - from) h) in (omega arith, omega arith, omega arith))
      (λ h. let e : length part ≡ length xs - from = l ∙ rw (le-ltb 16 (length xs - from) h) in (omega arith, omega arith, omega arith))

  part_end : from + length part ≡ least_of (from + 16) (length xs)
  part_end =
      let l = part_length in
      by_lt 16 (length xs - from)
      (λ h.
      let e : length part ≡ 16 = l ∙ rw (lt-ltb 16 (length xs - from) h) in
      let k : from + 16 < length xs = omega arith in
      rw (lt-ltb (from + 16) (length xs) k) (omega arith))
      (λ h.
      let e : length part ≡ length xs - from = l ∙ rw (le-ltb 16 (length xs - from) h) in
      let k : length xs ≤ from + 16 = omega arith in
      rw (le-ltb (from + 16) (length xs) k) (omega arith))

  abbrev piece : Piece
  piece = record { address = flash_first board + from; bytes = part }

  gives_more : Gives board xs (from + length part) (piece ∷ ps)
  unfolding given gives byte_at reach
  gives_more =
      let b = part_bounds in
      record {
        no_more = λ i h.
            let w : within (flash_first board + from) (length part) (flash_first board + i) ≡ false = within_behind (flash_first board + from) (length part) (flash_first board + i) (let k : flash_first board + from + length part ≤ flash_first board + i = omega arith in k) in
            rw w (g.no_more i (let k : from ≤ i = omega arith in k));
        bytes = λ i h.
            by_lt i from
            (λ l.
            let w : within (flash_first board + from) (length part) (flash_first board + i) ≡ false = within-before (flash_first board + from) (length part) (flash_first board + i) (let k : flash_first board + i < flash_first board + from = omega arith in k) in
            rw w (g.bytes i l))
            (λ l.
            let w : within (flash_first board + from) (length part) (flash_first board + i) ≡ true = within_in (flash_first board + from) (length part) (flash_first board + i) (let k : flash_first board + from ≤ flash_first board + i = omega arith in k) (let k : flash_first board + i < flash_first board + from + length part = omega arith in k) in
            let e : flash_first board + i - (flash_first board + from) ≡ i - from = omega arith in
            let s : i - from < 16 = omega arith in
            let f : from + (i - from) ≡ i = omega arith in
            rw (w, e) (get_or-take 16 (drop from xs) (i - from) 0 s ∙ get_or-drop from xs (i - from) 0 ∙ ap (λ (k : ℕ). get_or xs k 0) f));
        stops =
            let k : reach board ps < flash_first board + from + length part = let z = g.stops in omega arith in
            rw (lt-ltb (reach board ps) (flash_first board + from + length part) k) (omega arith);
        some = let z : from + length part ≡ 0 → ⊥ = λ z. omega arith in sym (ne_eqb (from + length part) 0 z);
      }

-- a line that was written of a record r: its record is r
module _ (type offset : ℕ) (xs : List ℕ) (t : type < 256) (o : offset < 65536) (l : length xs < 256) (b : all_bytes xs ≡ true) (suit : suits type (length xs) offset ≡ true) where
  abbrev made : List ℕ
  made = record_of type offset xs

  bytes : all_bytes made ≡ true
  bytes = made_bytes type offset xs t o l b

  line_record : record_in (record_line made) ≡ made
  line_record = written_record made bytes (made_whole type offset xs)

  line_formed : good_record (record_line made) ≡ true
  line_formed = written_formed made bytes (made_whole type offset xs) (made_sound type offset xs suit)

  line_before : (s : List ℕ) → lines_of (record_line made ++ s) ≡ record_line made ∷ lines_of s
  line_before s = written_lines made bytes (made_whole type offset xs) s

  line_type : type_of (record_in (record_line made)) ≡ type
  line_type = ap type_of line_record ∙ made_type type offset xs

  -- without data nothing is refused, and nothing is given
  line_own : (board : Board) (up : ℕ) (ps : List Piece) → (type ≡ 0 → ⊥) → (first_of (record_refusals board up ps (record_in (record_line made))) ≡ Ok tt) × (given_after up ps (record_in (record_line made)) ≡ ps)
  unfolding type_of
  line_own board up ps z = no_data board up ps (record_in (record_line made)) (λ e. z (sym line_type ∙ e))

-- pieces that give all bytes of an image make it
image_is : {board : Board} {xs : List ℕ} (ps : List Piece) → Gives board xs (length xs) ps → image_of board ps ≡ xs
unfolding image_of
image_is {board} {xs} ps g =
    let e : reach board ps - flash_first board ≡ length xs = let s = g.stops in omega arith in
    let l : length (bytes_from ps (flash_first board) (reach board ps - flash_first board)) ≡ length xs = from_length ps (flash_first board) (reach board ps - flash_first board) ∙ e in
    ext_get_or {A = ℕ} 0 (bytes_from ps (flash_first board) (reach board ps - flash_first board)) xs l
    (λ i h.
    let k : i < reach board ps - flash_first board = omega arith in
    let m : i < length xs = omega arith in
    from_at ps (flash_first board) (reach board ps - flash_first board) i k ∙ g.bytes i m)

-- the data of an image of at most flash
module _ (board : Board) (sound : Sound board) (segment : OneSegment board) (xs : List ℕ) (b : all_bytes xs ≡ true) (fits : length xs ≤ flash_bytes board) where
  -- the upper half of the first flash address
  abbrev upper : ℕ
  upper = flash_first board / offset_count

  -- a data record: what it comes to
  module _ (from : ℕ) (more : from < length xs) (ps : List Piece) (g : Gives board xs from ps) where
    abbrev xs₀ : List ℕ
    xs₀ = take 16 (drop from xs)

    abbrev l : List ℕ
    l = record_line (record_of 0 from xs₀)

    small : from < 65536
    small = omega (arith, segment.most)

    short : length xs₀ < 256
    short = let p = part_bounds xs from more ps g in omega arith

    part_bytes : all_bytes xs₀ ≡ true
    part_bytes = bytes_take 16 (drop from xs) (bytes_drop from xs b)

    suit : suits 0 (length xs₀) from ≡ true
    unfolding suits
    suit = refl

    is : record_in l ≡ record_of 0 from xs₀
    is = line_record 0 from xs₀ (omega arith) small short part_bytes suit

    formed : good_record l ≡ true
    formed = line_formed 0 from xs₀ (omega arith) small short part_bytes suit

    type : type_of (record_in l) ≡ 0
    type = line_type 0 from xs₀ (omega arith) small short part_bytes suit

    address : data_address upper (record_in l) ≡ flash_first board + from
    unfolding data_address
    address = let e : offset_of (record_in l) ≡ from = ap offset_of is ∙ made_offset 0 from xs₀ in omega (arith, segment.begins)

    its_data : data_of (record_in l) ≡ xs₀
    its_data = ap data_of is ∙ made_data 0 from xs₀

    some : length xs₀ ≡ 0 → ⊥
    some z = let p = part_bounds xs from more ps g in omega arith

    inside : in_flash board (flash_first board + from) (length xs₀) ≡ true
    inside =
        let p = part_bounds xs from more ps g in
        let c : from + length xs₀ ≤ flash_bytes board = omega arith in
        flash_spans board from (length xs₀) c

    unseen : any_from (given ps) (flash_first board + from) (length xs₀) ≡ false
    unseen =
        any_alike (given ps) (λ (i : ℕ). false) (flash_first board + from) (length xs₀)
        (λ a h u.
        let e : flash_first board + (a - flash_first board) ≡ a = omega arith in
        let k : from ≤ a - flash_first board = omega arith in
        ap (given ps) (sym e) ∙ g.no_more (a - flash_first board) k)
        ∙ any_nowhere (flash_first board + from) (length xs₀)

    own : first_of (record_refusals board upper ps (record_in l)) ≡ Ok tt
    unfolding record_refusals
    own = rw (eq-eqb (type_of (record_in l)) 0 type, address, its_data) (fresh board (flash_first board + from) xs₀ ps some inside unseen)

    pieces : given_after upper ps (record_in l) ≡ record { address = flash_first board + from; bytes = xs₀ } ∷ ps
    unfolding given_after
    pieces = rw (eq-eqb (type_of (record_in l)) 0 type, address, its_data) (with_piece_lem board (flash_first board + from) xs₀ ps some)

    upper_same : upper_after upper (record_in l) ≡ upper
    unfolding upper_after
    upper_same = rw (ne_eqb (type_of (record_in l)) 4 (λ z. let e = type in omega arith))

    no_end : ends (record_in l) ≡ false
    unfolding ends
    no_end = ne_eqb (type_of (record_in l)) 1 (λ z. let e = type in omega arith)

    -- the text from here on comes to what it comes to behind this record
    record_on : (k : ℕ) (s : List ℕ) → (first_of (refusals_from board k upper ps (lines_of (l ++ s))) ≡ first_of (refusals_from board (suc k) upper (record { address = flash_first board + from; bytes = xs₀ } ∷ ps) (lines_of s))) × (pieces_from upper ps (lines_of (l ++ s)) ≡ pieces_from upper (record { address = flash_first board + from; bytes = xs₀ } ∷ ps) (lines_of s))
    record_on k s =
        let e = line_before 0 from xs₀ (omega arith) small short part_bytes suit s in
        let p = line_goes_on board k upper ps l (lines_of s) formed own no_end in (
          ap (λ (x : List (List ℕ)). first_of (refusals_from board k upper ps x)) e ∙ p.0 ∙ ap₂ (λ (u : ℕ) (qs : List Piece). first_of (refusals_from board (suc k) u qs (lines_of s))) upper_same pieces,
          ap (pieces_from upper ps) e ∙ p.2 ∙ ap₂ (λ (u : ℕ) (qs : List Piece). pieces_from u qs (lines_of s)) upper_same pieces,
        )

  -- the end record, where all bytes are given
  module _ (one : 1 ≤ length xs) where
    ending : (k : ℕ) (ps : List Piece) → Gives board xs (length xs) ps → (first_of (refusals_from board k upper ps (lines_of end_line)) ≡ Ok tt) × (pieces_from upper ps (lines_of end_line) ≡ ps)
    unfolding suits all_bytes ends lines_of
    ending k ps g =
        let z : length xs ≡ 0 → ⊥ = λ z. omega arith in
        let y : none ps ≡ false = g.some ∙ ne_eqb (length xs) 0 z in
        let lines : lines_of end_line ≡ end_line ∷ [] = ap lines_of (sym (append-nil end_line)) ∙ line_before 1 0 [] (omega arith) (omega arith) (omega arith) refl refl [] in
        let good = line_formed 1 0 [] (omega arith) (omega arith) (omega arith) refl refl in
        let type = line_type 1 0 [] (omega arith) (omega arith) (omega arith) refl refl in
        let own = (line_own 1 0 [] (omega arith) (omega arith) (omega arith) refl refl board upper ps (λ e. omega arith)).0 in
        let p = line-ends board k upper ps end_line [] good own (eq-eqb (type_of (record_in end_line)) 1 type) in
        (ap (λ (x : List (List ℕ)). first_of (refusals_from board k upper ps x)) lines ∙ p.0 ∙ first_on _ _ _ refl ∙ first_on _ _ _ y ∙ first-none, ap (pieces_from upper ps) lines ∙ p.2)

    -- what is left of the data, and the end record
    record Over (k : ℕ) (ps : List Piece) (s : List ℕ) : Type 0 where
      free : first_of (refusals_from board k upper ps (lines_of s)) ≡ Ok tt
      all : Gives board xs (length xs) (pieces_from upper ps (lines_of s))

    over_end : (from k : ℕ) (ps : List Piece) → length xs ≤ from → Gives board xs (least_of from (length xs)) ps → Over k ps (left xs from ++ end_line)
    over_end from k ps h g =
        let e : left xs from ++ end_line ≡ end_line = ap (λ (l : List ℕ). l ++ end_line) (left-none xs from h) in
        let d : least_of from (length xs) ≡ length xs = rw (le-ltb from (length xs) h) in
        let f : Gives board xs (length xs) ps = rw d at g in
        let p = ending k ps f in
        rw e (record { free = p.0; all = rw p.1 f })

    over_data : (j from k : ℕ) (ps : List Piece) → length xs ≤ from + j * 16 → Gives board xs (least_of from (length xs)) ps → Over k ps (left xs from ++ end_line)
    over_data zero from k ps h g = over_end from k ps (let m : length xs ≤ from = omega arith in m) g
    over_data (suc j) from k ps h g =
        by_lt from (length xs)
        (λ more.
        let d : least_of from (length xs) ≡ from = rw (lt-ltb from (length xs) more) in
        let f : Gives board xs from ps = rw d at g in
        let next : Gives board xs (least_of (from + 16) (length xs)) (piece xs from more ps f ∷ ps) = rw (part_end xs from more ps f) at (gives_more xs from more ps f) in
        let m : length xs ≤ from + 16 + j * 16 = omega arith in
        let o = over_data j (from + 16) (suc k) (piece xs from more ps f ∷ ps) m next in
        let e : left xs from ++ end_line ≡ record_line (record_of 0 from (take 16 (drop from xs))) ++ (left xs (from + 16) ++ end_line) = ap (λ (l : List ℕ). l ++ end_line) (left-first xs from more) ∙ append_assoc (record_line (record_of 0 from (take 16 (drop from xs)))) (left xs (from + 16)) end_line in
        let p = record_on from more ps f k (left xs (from + 16) ++ end_line) in
        rw e (record { free = p.0 ∙ o.free; all = rw p.1 o.all }))
        (λ past. over_end from k ps past g)

    upper_bytes : all_bytes (upper_half board) ≡ true
    unfolding all_bytes
    upper_bytes =
        let high : flash_first board / offset_count / 256 < 256 = omega (arith, sound.flash_addresses) in
        let low : flash_first board / offset_count % 256 < 256 = omega arith in
        rw (lt-ltb (flash_first board / offset_count / 256) 256 high, lt-ltb (flash_first board / offset_count % 256) 256 low)

    upper_told : upper_after 0 (record_of 4 0 (upper_half board)) ≡ upper
    unfolding upper_after type_of record_of summed
    upper_told = omega arith

    -- the first line brings the upper half
    first-line : (first_of (hex_read_refusals board (hex_text board xs)) ≡ first_of (refusals_from board 2 upper [] (lines_of (data_text xs ++ end_line)))) × (pieces_in (hex_text board xs) ≡ pieces_from upper [] (lines_of (data_text xs ++ end_line)))
    unfolding suits all_bytes ends upper_after
    first-line =
        let s = data_text xs ++ end_line in
        let lines : lines_of (hex_text board xs) ≡ upper_line board ∷ lines_of s = ap lines_of (text_is board segment xs) ∙ line_before 4 0 (upper_half board) (omega arith) (omega arith) (omega arith) upper_bytes refl s in
        let good = line_formed 4 0 (upper_half board) (omega arith) (omega arith) (omega arith) upper_bytes refl in
        let type = line_type 4 0 (upper_half board) (omega arith) (omega arith) (omega arith) upper_bytes refl in
        let own = line_own 4 0 (upper_half board) (omega arith) (omega arith) (omega arith) upper_bytes refl board 0 [] (λ e. omega arith) in
        let p = line_goes_on board 1 0 [] (upper_line board) (lines_of s) good own.0 (ne_eqb (type_of (record_in (upper_line board))) 1 (λ z. omega arith)) in
        let u : upper_after 0 (record_in (upper_line board)) ≡ upper = ap (upper_after 0) (line_record 4 0 (upper_half board) (omega arith) (omega arith) (omega arith) upper_bytes refl) ∙ upper_told in (
          ap (λ (x : List (List ℕ)). first_of (refusals_from board 1 0 [] x)) lines ∙ p.0 ∙ ap₂ (λ (v : ℕ) (qs : List Piece). first_of (refusals_from board 2 v qs (lines_of s))) u own.1,
          ap (pieces_from 0 []) lines ∙ p.2 ∙ ap₂ (λ (v : ℕ) (qs : List Piece). pieces_from v qs (lines_of s)) u own.1,
        )

    over-text : Over 2 [] (data_text xs ++ end_line)
    over-text =
        let d : least_of 0 (length xs) ≡ 0 = rw (lt-ltb 0 (length xs) one) in
        let g : Gives board xs (least_of 0 (length xs)) [] = rw d (gives_none board xs) in
        let m : length xs ≤ 0 + length xs * 16 = omega arith in
        rw (sym (left_start xs)) (over_data (length xs) 0 2 [] m g)

    pub text_free : first_of (hex_read_refusals board (hex_text board xs)) ≡ Ok tt
    text_free = first-line.0 ∙ over-text.free

    pub text_image : image_of board (pieces_in (hex_text board xs)) ≡ xs
    text_image = ap (image_of board) first-line.1 ∙ image_is (pieces_from upper [] (lines_of (data_text xs ++ end_line))) over-text.all
