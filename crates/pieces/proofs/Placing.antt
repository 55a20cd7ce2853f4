-- Laying a piece: what the code does, its refusals, and that all holds with it. Assumes nothing.
use mathlib.Core.Path.{◌≡◌, refl, ap, ap₂, ◌∙◌, sym}
use mathlib.Core.Bool.{Bool, true, false, not, ◌&&◌, ◌||◌}
use mathlib.Core.List.{List, [], ◌∷◌, append-nil}
use Prim.Native.Nat.{ℕ, zero, suc, ◌+◌, ◌-◌, ◌*◌, ◌≤◌, ◌<◌}
use native.Mathlib.Omega.{arith}
use native.Mathlib.Nat.{add-zero, add-suc}
use lib.Dec.{eqb}
use lib.ListN.{length, take, get_or, take-append-drop}
use borrow.Author.Tests.{eq-eqb, ne_eqb, lt-ltb, le-ltb}
use Rattle.std.specs.Prelude.{Result, Ok, Err}
use Rattle.laws.specs.Bytes.{put}
use Rattle.laws.proofs.Bytes.{put-length}
use Rattle.laws.proofs.Places.{put-before, put_in, put-after}
use Rattle.laws.proofs.Split.{by_bool, by_eq, by_lt}
use Rattle.bits.specs.Bits.{bit_at, any_from, some_set, within, Marked}
use Rattle.bits.proofs.Bits.{some_set_by, within_in, within-before, within_behind, unmarked, marked_none}
use Rattle.refusal.specs.declared.Refusal.{Refusal}
use Rattle.refusal.specs.declared.Refusal.TheVariants.{Outside, Twice}
use Rattle.refusal.specs.Order.{first_of}
use Rattle.refusal.proofs.First.{first-here, first_on, first-none}
use Rattle.board.specs.declared.Board.{Board}
use Rattle.board.specs.Layout.{flash_first, flash_bytes}
use Rattle.board.specs.Span.{in_flash}
use Rattle.board.proofs.Addresses.{flash_ends}
use Rattle.pieces.specs.Image.{Piece, gives, given, byte_at, larger, reach}
use Rattle.pieces.specs.Refusals.{with_piece, piece_refusals}
use Rattle.pieces.specs.Ways.{placing_of, marked_bytes, Placing, Holds, Places}

-- what each test comes to
module _ (board : Board) (a : ℕ) (xs : List ℕ) (ps : List Piece) where
  pub none-laid : length xs ≡ 0 → (first_of (piece_refusals board a xs ps) ≡ Ok tt) × (with_piece a xs ps ≡ ps)
  unfolding any_from with_piece
  none-laid z =
      let e : (not (eqb (length xs) 0) && not (in_flash board a (length xs))) ≡ false = rw z in
      let f : any_from (given ps) a (length xs) ≡ false = rw z in
      (first_on _ _ _ e ∙ first_on _ _ _ f ∙ first-none, rw z)

  module _ (some : length xs ≡ 0 → ⊥) where
    pub outside : in_flash board a (length xs) ≡ false → first_of (piece_refusals board a xs ps) ≡ Err Outside
    outside o = first-here _ _ _ (rw (ne_eqb (length xs) 0 some, o))

    inside : in_flash board a (length xs) ≡ true → (not (eqb (length xs) 0) && not (in_flash board a (length xs))) ≡ false
    inside o = rw (ne_eqb (length xs) 0 some, o)

    pub twice : in_flash board a (length xs) ≡ true → any_from (given ps) a (length xs) ≡ true → first_of (piece_refusals board a xs ps) ≡ Err Twice
    twice o t = first_on _ _ _ (inside o) ∙ first-here _ _ _ t

    pub fresh : in_flash board a (length xs) ≡ true → any_from (given ps) a (length xs) ≡ false → first_of (piece_refusals board a xs ps) ≡ Ok tt
    fresh o t = first_on _ _ _ (inside o) ∙ first_on _ _ _ t ∙ first-none

    pub with_piece_lem : with_piece a xs ps ≡ record { address = a; bytes = xs } ∷ ps
    unfolding with_piece
    with_piece_lem = rw (ne_eqb (length xs) 0 some)

-- a test at places counted from k on
any_shift : (f : ℕ → Bool) (k from count : ℕ) → any_from (λ (i : ℕ). f (k + i)) from count ≡ any_from f (k + from) count
unfolding any_from
any_shift f k from zero = refl
any_shift f k from (suc count) = ap (λ (b : Bool). f (k + from) || b) (any_shift f k (suc from) count ∙ ap (λ (i : ℕ). any_from f i count) (add-suc k from))

within_shift : (k from count i : ℕ) → within (k + from) count (k + i) ≡ within from count i
within_shift k from count i =
    by_lt i from (λ h. let g : k + i < k + from = omega arith in within-before (k + from) count (k + i) g ∙ sym (within-before from count i h))
    (λ h.
    by_lt i (from + count)
    (λ l.
    let a : k + from ≤ k + i = omega arith in
    let b : k + i < k + from + count = omega arith in
    within_in (k + from) count (k + i) a b ∙ sym (within_in from count i h l))
    (λ l.
    let b : k + from + count ≤ k + i = omega arith in
    within_behind (k + from) count (k + i) b ∙ sym (within_behind from count i l)))

or_swap : (a b : Bool) → (a || b) ≡ (b || a)
or_swap true true = refl
or_swap true false = refl
or_swap false true = refl
or_swap false false = refl

-- a piece in flash, over what holds
module _ {board : Board} {ps : List Piece} {bits image : List ℕ} {end : ℕ} (h : Holds board ps bits image end) (a : ℕ) (xs : List ℕ) (o : in_flash board a (length xs) ≡ true) (from to : ℕ) (is : from ≡ a - flash_first board) (stops : to ≡ from + length xs) where
  place : flash_first board + from ≡ a
  place = let e = flash_ends board a (length xs) o in omega arith

  fits : from + length xs ≤ flash_bytes board
  fits = let e = flash_ends board a (length xs) o in omega arith

  -- the bits tell whether one of its bytes was given
  pub bits_tell_given : some_set from (to - from) bits ≡ any_from (given ps) a (length xs)
  bits_tell_given =
      let f = fits in
      let k : to - from ≡ length xs = omega arith in
      ap (λ (m : ℕ). some_set from m bits) k
      ∙ some_set_by from (length xs) bits (λ (i : ℕ). given ps (flash_first board + i)) (λ i l u. h.marks i (let g : i < flash_bytes board = omega arith in g))
      ∙ any_shift (given ps) (flash_first board) from (length xs)
      ∙ ap (λ (m : ℕ). any_from (given ps) m (length xs)) place

  module _ (some : length xs ≡ 0 → ⊥) (bits' image' : List ℕ) (marked : Marked from (to - from) bits bits') (laid : image' ≡ put from xs image) where
    abbrev piece : Piece
    piece = record { address = a; bytes = xs }

    pub image_fits : from + length xs ≤ length image
    image_fits = let s = h.size in let f = fits in omega arith

    marks-after : (i : ℕ) → i < flash_bytes board → bit_at bits' i ≡ given (piece ∷ ps) (flash_first board + i)
    unfolding given gives
    marks-after i l =
        let k : to - from ≡ length xs = omega arith in
        marked.bits i
        ∙ ap₂ ◌||◌ (h.marks i l) (ap (λ (m : ℕ). within from m i) k ∙ sym (within_shift (flash_first board) from (length xs) i) ∙ ap (λ (m : ℕ). within m (length xs) (flash_first board + i)) place)
        ∙ or_swap (given ps (flash_first board + i)) (within a (length xs) (flash_first board + i))

    bytes_after : (i : ℕ) → i < flash_bytes board → get_or image' i 0 ≡ byte_at (piece ∷ ps) (flash_first board + i)
    unfolding byte_at gives
    bytes_after i l =
        let p = place in
        by_lt i from
        (λ b.
        let w : within a (length xs) (flash_first board + i) ≡ false = within-before a (length xs) (flash_first board + i) (let g : flash_first board + i < a = omega arith in g) in
        rw (laid, put-before from xs image image_fits i b, w) (h.bytes i l))
        (λ b.
        by_lt i (from + length xs)
        (λ u.
        let w : within a (length xs) (flash_first board + i) ≡ true = within_in a (length xs) (flash_first board + i) (let g : a ≤ flash_first board + i = omega arith in g) (let g : flash_first board + i < a + length xs = omega arith in g) in
        let e : flash_first board + i - a ≡ i - from = omega arith in
        rw (laid, put_in from xs image image_fits i b u, w, e))
        (λ u.
        let w : within a (length xs) (flash_first board + i) ≡ false = within_behind a (length xs) (flash_first board + i) (let g : a + length xs ≤ flash_first board + i = omega arith in g) in
        rw (laid, put-after from xs image image_fits i u, w) (h.bytes i l)))

    pub holds_with : Holds board (piece ∷ ps) bits' image' (larger end to)
    unfolding reach
    holds_with =
        let f = fits in
        let m = h.most in
        let e = h.ends in
        let p = place in
        let k = marked.kept in
        let r = h.room in
        let s = h.size in
        let q = put-length from xs image image_fits in
        let some' : 1 ≤ length xs = one (length xs) some in
        record {
          room = let g : flash_bytes board ≤ length bits' * 8 = omega arith in g;
          size = ap length laid ∙ q ∙ s;
          marks = marks-after;
          bytes = bytes_after;
          ends = by_lt end to
              (λ b.
              let c : reach board ps < a + length xs = omega arith in
              let d : flash_first board + to ≡ a + length xs = omega arith in
              rw (lt-ltb end to b, lt-ltb (reach board ps) (a + length xs) c) d)
              (λ b.
              let c : a + length xs ≤ reach board ps = omega arith in
              rw (le-ltb end to b, le-ltb (reach board ps) (a + length xs) c) e);
          most = by_lt end to (λ b. rw (lt-ltb end to b) (let g : to ≤ flash_bytes board = omega arith in g)) (λ b. rw (le-ltb end to b) m);
          some = by_lt end to
              (λ b. rw (lt-ltb end to b, ne_eqb to 0 (λ z. omega arith)))
              (λ b. rw (le-ltb end to b, ne_eqb end 0 (λ z. omega arith)));
        }
      where
        one : (k : ℕ) → (k ≡ 0 → ⊥) → 1 ≤ k
        one k z = omega arith

put-none : (at : ℕ) (xs m : List ℕ) → length xs ≡ 0 → put at xs m ≡ m
unfolding put
put-none at [] m z = rw (add-zero at, append-nil (take at m)) (take-append-drop at m)
put-none at (x ∷ xs) m z = absurd (omega arith)

-- what the code does, case by case
module _ (board : Board) (a : ℕ) (xs : List ℕ) (end : ℕ) (bits image : List ℕ) where
  put_nothing : length xs ≡ 0 → image ≡ put (a - flash_first board) xs image
  put_nothing z = sym (put-none (a - flash_first board) xs image z)

  unmarked_count : length xs ≡ 0 → marked_bytes board a xs ≡ 0
  unmarked_count z = by_bool (in_flash board a (length xs)) (λ o. rw o z) (λ o. rw o)

  pub placing_nothing : length xs ≡ 0 → Placing board a xs end bits image bits image (Ok end)
  unfolding placing_of
  placing_nothing z = record { answer = rw (eq-eqb (length xs) 0 z); marks = marked_none _ _ bits (unmarked_count z); laid = put_nothing z }

  module _ (some : length xs ≡ 0 → ⊥) where
    pub placing_outside : in_flash board a (length xs) ≡ false → Placing board a xs end bits image bits image (Err Outside)
    unfolding placing_of
    placing_outside o = record { answer = rw (ne_eqb (length xs) 0 some, o); marks = marked_none _ _ bits (rw o); laid = refl }

    module _ (o : in_flash board a (length xs) ≡ true) (from to : ℕ) (is : from ≡ a - flash_first board) (stops : to ≡ from + length xs) (bits' : List ℕ) (marked : Marked from (to - from) bits bits') where
      count : to - from ≡ length xs
      count = omega arith

      marks-here : Marked (a - flash_first board) (marked_bytes board a xs) bits bits'
      marks-here = rw o (rw (count, is) at marked)

      seen : (b : Bool) → some_set from (to - from) bits ≡ b → some_set (a - flash_first board) (length xs) bits ≡ b
      seen b e = rw (count, is) at e

      pub placing_twice : some_set from (to - from) bits ≡ true → Placing board a xs end bits image bits' image (Err Twice)
      unfolding placing_of
      placing_twice t = record { answer = rw (ne_eqb (length xs) 0 some, o, seen true t); marks = marks-here; laid = refl }

      pub placing_fresh : (image' : List ℕ) → some_set from (to - from) bits ≡ false → image' ≡ put from xs image → Placing board a xs end bits image bits' image' (Ok (larger end to))
      unfolding placing_of
      placing_fresh image' f l =
          let e : to ≡ a - flash_first board + length xs = omega arith in
          record { answer = rw (ne_eqb (length xs) 0 some, o, seen false f, e); marks = marks-here; laid = rw is at l }

-- bits of which none is set, and an image over which nothing is laid, hold what they held
holds_still : {board : Board} {ps : List Piece} {bits image : List ℕ} {end : ℕ} → Holds board ps bits image end → (from : ℕ) (xs bits' image' : List ℕ) → length xs ≡ 0 → Marked from 0 bits bits' → image' ≡ put from xs image → Holds board ps bits' image' end
holds_still {board} {ps} {bits} {image} {end} h from xs bits' image' z m l =
    let same : image' ≡ image = l ∙ put-none from xs image z in
    let room = h.room in
    let kept = m.kept in
    record {
      room = let g : flash_bytes board ≤ length bits' * 8 = omega arith in g;
      size = ap length same ∙ h.size;
      marks = λ i k. m.bits i ∙ sym (unmarked (bit_at bits i) (within from 0 i) (nowhere i)) ∙ h.marks i k;
      bytes = λ i k. ap (λ (l : List ℕ). get_or l i 0) same ∙ h.bytes i k;
      ends = h.ends;
      most = h.most;
      some = h.some;
    }
  where
    nowhere : (i : ℕ) → within from 0 i ≡ false
    nowhere i = by_lt i from (within-before from 0 i) (λ b. let g : from + 0 ≤ i = omega arith in within_behind from 0 i g)

-- what the code does is what a piece comes to, whatever pieces the bits and the image held
pub placing_places : (board : Board) (a : ℕ) (xs : List ℕ) (end : ℕ) (bits image bits' image' : List ℕ) (r : Result ℕ Refusal) → Placing board a xs end bits image bits' image' r → Places board a xs end bits image bits' image' r
unfolding placing_of
placing_places board a xs end bits image bits' image' r p ps h =
    by_eq (length xs) 0
    (λ z.
    let e : r ≡ Ok end = p.answer ∙ rw (eq-eqb (length xs) 0 z) in
    let m : Marked (a - flash_first board) 0 bits bits' = rw (unmarked_count board a xs end bits image z) at p.marks in
    let l : image' ≡ put (a - flash_first board) xs image = rw e at p.laid in
    let q = none-laid board a xs ps z in
    rw e (q.0, rw q.1 (holds_still h (a - flash_first board) xs bits' image' z m l)))
    (λ some.
    by_bool (in_flash board a (length xs))
    (λ o.
    let from : ℕ = a - flash_first board in
    let to : ℕ = from + length xs in
    let k : to - from ≡ length xs = omega arith in
    let m : Marked from (to - from) bits bits' = rw k (rw o at p.marks) in
    let tells = bits_tell_given h a xs o from to refl refl in
    by_bool (some_set (a - flash_first board) (length xs) bits)
    (λ t.
    let e : r ≡ Err Twice = p.answer ∙ rw (ne_eqb (length xs) 0 some, o, t) in
    rw e (twice board a xs ps some o (sym tells ∙ rw k t)))
    (λ f.
    let e : r ≡ Ok (larger end to) = p.answer ∙ rw (ne_eqb (length xs) 0 some, o, f) in
    let l : image' ≡ put from xs image = rw e at p.laid in
    rw e (fresh board a xs ps some o (sym tells ∙ rw k f), rw (with_piece_lem board a xs ps some) (holds_with h a xs o from to refl refl some bits' image' m l))))
    (λ o.
    let e : r ≡ Err Outside = p.answer ∙ rw (ne_eqb (length xs) 0 some, o) in
    rw e (outside board a xs ps some o)))
