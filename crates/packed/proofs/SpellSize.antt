-- The length of the text of a packed list, event by event. Assumes nothing.
use mathlib.Core.Path.{◌≡◌, refl, ap, ◌∙◌, sym}
use mathlib.Core.Bool.{true, false}
use mathlib.Core.List.{List, [], ◌∷◌, ◌++◌}
use Prim.Native.Nat.{ℕ, suc, ◌+◌, ◌-◌, ◌*◌, ◌≤◌, ◌<◌}
use native.Mathlib.Omega.{arith}
use native.Mathlib.Nat.{add_assoc}
use lib.ListN.{length, drop, length-append, drop_of_length-le}
use lib.Seq.{length-take-le, take_all, drop-length}
use borrow.Author.Tests.{lt-ltb, le-ltb}
use Rattle.std.specs.Prelude.{Ok, Err}
use Rattle.laws.proofs.Split.{by_bool, by_lt}
use Rattle.refusal.specs.declared.Refusal.TheVariants.{Request}
use Rattle.request.proofs.Lengths.{fits_eight}
use Rattle.line.specs.Event.{Event, attach, request, fits, line_of}
use Rattle.text.specs.Text.{limit, text_of}
use Rattle.packed.specs.Packed.{pack_of, piece_size, first_piece, pieces_after, event_in, well_packed, all_packed, events_among, packs, unpacked}
use Rattle.packed.specs.Ways.{piece_length, line_size, capped, size_of}
use Rattle.line.proofs.SpellLine.{line_length_of}
use Rattle.packed.proofs.EventPacked.{size-some, pieces_first, well_pack, well_fits}
use Rattle.packed.proofs.PieceLength.{piece_good, piece_bad}
use Rattle.packed.proofs.Refusals.{packed_broken, packed_whole}

capped-over : (n : ℕ) → limit < n → limit + 1 ≡ capped n
unfolding capped
capped-over n h = rw (lt-ltb limit n h)

capped-within : (n : ℕ) → n ≤ limit → n ≡ capped n
unfolding capped
capped-within n h = rw (le-ltb limit n h)

pub line_size_short : (n : ℕ) → n < 9 → 2 ≡ line_size n
unfolding line_size
line_size_short n h = rw (lt-ltb n 9 h)

pub line_size_long : (n : ℕ) → 9 ≤ n → n * 2 + 2 ≡ line_size n
unfolding line_size
line_size_long n h = rw (le-ltb n 9 h)

-- an event over the limit has a line over the limit
pub capped_piece : (size piece : ℕ) → limit < piece → limit + 1 ≡ capped (size + line_size piece)
capped_piece size piece h =
    let k : 9 ≤ piece = omega arith in
    let e : piece * 2 + 2 ≡ line_size piece = line_size_long piece k in
    capped-over (size + line_size piece) (omega arith)

capped-more : (a b : ℕ) → capped (capped a + b) ≡ capped (a + b)
capped-more a b =
    by_lt limit a
    (λ h.
    let e : limit + 1 ≡ capped a = capped-over a h in
    sym (capped-over (capped a + b) (omega arith)) ∙ capped-over (a + b) (omega arith))
    (λ h. ap (λ (n : ℕ). capped (n + b)) (sym (capped-within a h)))

capped_once : (n : ℕ) → n ≤ limit + 1 → capped n ≡ n
capped_once n h =
    by_lt limit n
    (λ k. let e : n ≡ limit + 1 = omega arith in sym (capped-over n k) ∙ sym e)
    (λ k. sym (capped-within n k))

-- what a capped length tells
pub capped_is : (n m : ℕ) → m ≡ capped n → m ≤ limit → m ≡ n
capped_is n m e h =
    by_lt limit n
    (λ k. let z : limit + 1 ≡ capped n = capped-over n k in absurd (omega arith))
    (λ k. e ∙ sym (capped-within n k))

pub capped_long : (n m : ℕ) → m ≡ capped n → limit < m → limit < n
capped_long n m e h = by_lt limit n (λ k. k) (λ k. let z : n ≡ capped n = capped-within n k in absurd (omega arith))

attach-length : length (line_of attach) ≡ 2
unfolding line_of
attach-length = refl

line_size_of : (e : Event) → fits e ≡ true → length (line_of e) ≡ line_size (length (pack_of e))
unfolding fits pack_of
line_size_of attach f = attach-length ∙ line_size_short 1 (omega arith)
line_size_of (request q) f =
    let h : 8 ≤ length q = fits_eight q f in
    let k : 9 ≤ suc (length q) = omega arith in
    line_length_of q h ∙ (let e : 20 + (length q - 8) * 2 ≡ suc (length q) * 2 + 2 = omega arith in e) ∙ line_size_long (suc (length q)) k

drop-first : (u : List ℕ) → drop (length (first_piece u)) u ≡ drop (piece_size u) u
unfolding first_piece
drop-first u =
    by_lt (length u) (piece_size u)
    (λ h.
    let k : length u ≤ piece_size u = omega arith in
    ap (λ (l : List ℕ). drop (length l) u) (take_all (piece_size u) u k) ∙ drop-length u ∙ sym (drop_of_length-le u k))
    (λ h. ap (λ (n : ℕ). drop n u) (length-take-le (piece_size u) u h))

piece_some : (u : List ℕ) → 0 < length u → 0 < length (first_piece u)
unfolding first_piece
piece_some u h =
    let s = size-some u in
    by_lt (length u) (piece_size u)
    (λ k. let l : length u ≤ piece_size u = omega arith in rw (take_all (piece_size u) u l) h)
    (λ k. rw (length-take-le (piece_size u) u k) (omega arith))

-- what is left of a packed list
module _ (p : List ℕ) (more : 0 < length p) where
  -- a turn at an event that is not well packed
  pub turn_broken : 0 ≡ piece_length p → packs p ≡ false
  unfolding packs all_packed
  turn_broken z =
      by_bool (well_packed (first_piece p))
      (λ h. let l : piece_length p ≡ length (first_piece p) = piece_good p h in let w = piece_some p more in absurd (omega arith))
      (λ h. rw (pieces_first p more, h))

  -- a turn at a well-packed event
  module _ (piece : ℕ) (is : piece ≡ piece_length p) (some : 0 < piece) where
    pub well : well_packed (first_piece p) ≡ true
    well = by_bool (well_packed (first_piece p)) (λ h. h) (λ h. let z : 0 ≡ piece_length p = piece_bad p h in absurd (omega arith))

    pub piece_is : piece ≡ length (first_piece p)
    piece_is = is ∙ piece_good p well

    after : drop (piece_size p) p ≡ drop piece p
    after = sym (drop-first p) ∙ ap (λ (n : ℕ). drop n p) (sym piece_is)

    pieces : pieces_after 0 p ≡ first_piece p ∷ pieces_after 0 (drop piece p)
    pieces = pieces_first p more ∙ ap (λ (l : List ℕ). first_piece p ∷ pieces_after 0 l) after

    pub turn_packs : packs p ≡ packs (drop piece p)
    unfolding packs all_packed
    turn_packs = rw (pieces, well)

    pub turn_text : text_of (unpacked p) ≡ line_of (event_in (first_piece p)) ++ text_of (unpacked (drop piece p))
    unfolding unpacked events_among text_of
    turn_text = rw pieces

    turn_line : length (line_of (event_in (first_piece p))) ≡ line_size piece
    turn_line = line_size_of (event_in (first_piece p)) (well_fits (first_piece p) well) ∙ ap (λ (l : List ℕ). line_size (length l)) (well_pack (first_piece p) well) ∙ ap line_size (sym piece_is)

    pub turn_capped : (size longer total : ℕ) → longer ≡ capped (size + line_size piece) → capped (size + length (text_of (unpacked p))) ≡ total → capped (longer + length (text_of (unpacked (drop piece p)))) ≡ total
    turn_capped size longer total e s =
        let r = length (text_of (unpacked (drop piece p))) in
        let l : length (text_of (unpacked p)) ≡ line_size piece + r = ap length turn_text ∙ length-append (line_of (event_in (first_piece p))) (text_of (unpacked (drop piece p))) ∙ ap (λ (n : ℕ). n + r) turn_line in
        ap (λ (n : ℕ). capped (n + r)) e ∙ capped-more (size + line_size piece) r ∙ ap capped (add_assoc size (line_size piece) r ∙ ap (λ (n : ℕ). size + n) (sym l)) ∙ s

-- the end of the walk
pub size_broken : (p : List ℕ) → packs p ≡ false → Err Request ≡ size_of p
unfolding size_of
size_broken p h = rw (packed_broken p h)

pub size_end : (p rest : List ℕ) (size : ℕ) → length rest ≡ 0 → size ≤ limit + 1 → packs rest ≡ packs p → capped (size + length (text_of (unpacked rest))) ≡ capped (length (text_of (unpacked p))) → Ok size ≡ size_of p
unfolding size_of packs all_packed pieces_after unpacked events_among text_of
size_end p (x ∷ rest) size h small b s = absurd (omega arith)
size_end p [] size h small t n =
    let z : size + 0 ≡ size = omega arith in
    rw (packed_whole p (sym t)) (ap Ok (sym (capped_once size small) ∙ ap capped (sym z) ∙ n))
