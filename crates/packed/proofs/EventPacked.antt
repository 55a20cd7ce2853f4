-- Events and their packed list: each gives the other back. Assumes nothing.
use mathlib.Core.Path.{◌≡◌, refl, ap, ap₂, ◌∙◌, sym}
use mathlib.Core.Bool.{true}
use mathlib.Core.List.{List, [], ◌∷◌, ◌++◌}
use Prim.Native.Nat.{ℕ, zero, suc, ◌+◌, ◌-◌, ◌≤◌, ◌<◌}
use native.Mathlib.Omega.{arith}
use lib.Dec.{eqb}
use lib.ListN.{length, take, drop, get_or, length-append, take-append-drop}
use lib.Seq.{take-append_seam, drop-append_seam}
use Rattle.laws.proofs.Split.{by_bool, and_true}
use Rattle.request.specs.Setup.{setup_of, data_length}
use Rattle.request.proofs.Lengths.{fits_eight, fits_data}
use Rattle.laws.specs.Lists.{same, all_bytes}
use Rattle.line.specs.Event.{Event, attach, request, fits, in_bytes}
use Rattle.text.specs.Text.{proper}
use Rattle.packed.specs.Packed.{pack_of, packed_of, piece_size, first_piece, pieces_after, event_in, well_packed, all_packed, events_among, packs, unpacked}
use Rattle.laws.proofs.Lists.{same_refl, same_eq, bytes_drop, bytes_apart}
use Rattle.laws.proofs.Lines.{joined}
use Rattle.text.proofs.EventText.{proper_parts}
use Rattle.line.proofs.Formed.{setup_front}

pub size-some : (p : List ℕ) → 1 ≤ piece_size p
unfolding piece_size
size-some p = by_bool (eqb (get_or p 0 0) 1) (λ e. rw e (omega arith)) (λ e. rw e (omega arith))

pieces_after_lem : (k : ℕ) (p : List ℕ) → pieces_after k p ≡ pieces_after 0 (drop k p)
unfolding pieces_after
pieces_after_lem zero p = refl
pieces_after_lem (suc k) [] = refl
pieces_after_lem (suc k) (x ∷ p) = pieces_after_lem k p

-- the pieces of a packed list are its first piece and the pieces of the rest
pub pieces_first : (p : List ℕ) → 0 < length p → pieces_after 0 p ≡ first_piece p ∷ pieces_after 0 (drop (piece_size p) p)
unfolding pieces_after
pieces_first [] h = absurd (omega arith)
pieces_first (x ∷ p) h =
    let s = size-some (x ∷ p) in
    let e : suc (piece_size (x ∷ p) - 1) ≡ piece_size (x ∷ p) = omega arith in
    ap (λ (ls : List (List ℕ)). first_piece (x ∷ p) ∷ ls)
    (pieces_after_lem (piece_size (x ∷ p) - 1) p ∙ ap (λ (n : ℕ). pieces_after 0 (drop n (x ∷ p))) e)

-- the packed bytes of an event that fits are the first piece of a list that begins with them
pack_size : (e : Event) (s : List ℕ) → fits e ≡ true → piece_size (pack_of e ++ s) ≡ length (pack_of e)
unfolding piece_size pack_of fits
pack_size attach s f = refl
pack_size (request q) s f =
    let d : length q ≡ 8 + data_length (setup_of q) = fits_data q f in
    let e : data_length (setup_of (q ++ s)) ≡ data_length (setup_of q) = ap data_length (setup_front q s (fits_eight q f)) in
    omega arith

pack_first : (e : Event) (s : List ℕ) → fits e ≡ true → first_piece (pack_of e ++ s) ≡ pack_of e
unfolding first_piece
pack_first e s f = ap (λ (n : ℕ). take n (pack_of e ++ s)) (pack_size e s f) ∙ take-append_seam (pack_of e) s

pack_some : (e : Event) → 0 < length (pack_of e)
unfolding pack_of
pack_some attach = omega arith
pack_some (request q) = omega arith

pieces_pack : (e : Event) (s : List ℕ) → fits e ≡ true → pieces_after 0 (pack_of e ++ s) ≡ pack_of e ∷ pieces_after 0 s
pieces_pack e s f =
    let k : 0 < length (pack_of e ++ s) = let h = pack_some e in rw (length-append (pack_of e) s) (omega arith) in
    pieces_first (pack_of e ++ s) k
    ∙ ap₂ ◌∷◌ (pack_first e s f) (ap (λ (n : ℕ). pieces_after 0 (drop n (pack_of e ++ s))) (pack_size e s f) ∙ ap (pieces_after 0) (drop-append_seam (pack_of e) s))

pack_event : (e : Event) → event_in (pack_of e) ≡ e
unfolding event_in pack_of
pack_event attach = refl
pack_event (request q) = refl

pack_well : (e : Event) → fits e ≡ true → well_packed (pack_of e) ≡ true
unfolding well_packed
pack_well e f = rw (pack_event e, f) (same_refl (pack_of e))

-- the packed list of proper events has whole events only, and gives them back
pub packed_packs : (es : List Event) → proper es ≡ true → packs (packed_of es) ≡ true
unfolding packs packed_of all_packed pieces_after
packed_packs [] h = refl
packed_packs (e ∷ es) h =
    let p = proper_parts e es h in
    rw (pieces_pack e (packed_of es) p.0, pack_well e p.0) (packed_packs es p.2)

pub packed_events : (es : List Event) → proper es ≡ true → unpacked (packed_of es) ≡ es
unfolding unpacked packed_of events_among pieces_after
packed_events [] h = refl
packed_events (e ∷ es) h =
    let p = proper_parts e es h in
    rw (pieces_pack e (packed_of es) p.0, pack_event e) (ap (λ (fs : List Event). e ∷ fs) (packed_events es p.2))

joined_pieces : (k : ℕ) (p : List ℕ) → joined (pieces_after k p) ≡ drop k p
unfolding joined pieces_after first_piece
joined_pieces zero [] = refl
joined_pieces (suc k) [] = refl
joined_pieces (suc k) (x ∷ p) = joined_pieces k p
joined_pieces zero (x ∷ p) =
    let s = size-some (x ∷ p) in
    let e : suc (piece_size (x ∷ p) - 1) ≡ piece_size (x ∷ p) = omega arith in
    ap (λ (l : List ℕ). take (piece_size (x ∷ p)) (x ∷ p) ++ l) (joined_pieces (piece_size (x ∷ p) - 1) p ∙ ap (λ (n : ℕ). drop n (x ∷ p)) e)
    ∙ take-append-drop (piece_size (x ∷ p)) (x ∷ p)

-- a well-packed piece is that of its event
pub well_pack : (l : List ℕ) → well_packed l ≡ true → pack_of (event_in l) ≡ l
unfolding well_packed
well_pack l h = sym (same_eq l (pack_of (event_in l)) (and_true (fits (event_in l)) (same l (pack_of (event_in l))) h).1)

pub well_fits : (l : List ℕ) → well_packed l ≡ true → fits (event_in l) ≡ true
unfolding well_packed
well_fits l h = (and_true (fits (event_in l)) (same l (pack_of (event_in l))) h).0

pieces_packed : (ls : List (List ℕ)) → all_packed ls ≡ true → packed_of (events_among ls) ≡ joined ls
unfolding all_packed packed_of events_among joined
pieces_packed [] h = refl
pieces_packed (l ∷ ls) h =
    let p = and_true (well_packed l) (all_packed ls) h in
    ap₂ ◌++◌ (well_pack l p.0) (pieces_packed ls p.1)

pub packs_packed : (p : List ℕ) → packs p ≡ true → packed_of (unpacked p) ≡ p
unfolding packs unpacked
packs_packed p h = pieces_packed (pieces_after 0 p) h ∙ joined_pieces 0 p

-- the events of a packed list of bytes are of bytes
bytes_event : (l : List ℕ) → all_bytes l ≡ true → in_bytes (event_in l) ≡ true
unfolding in_bytes event_in
bytes_event l h = by_bool (eqb (get_or l 0 0) 0) (λ e. rw e) (λ e. rw e (bytes_drop 1 l h))

bytes_joined : (ls : List (List ℕ)) → all_bytes (joined ls) ≡ true → all_packed ls ≡ true → proper (events_among ls) ≡ true
unfolding joined all_packed proper events_among
bytes_joined [] h k = refl
bytes_joined (l ∷ ls) h k =
    let p = and_true (well_packed l) (all_packed ls) k in
    let b = bytes_apart l (joined ls) h in
    rw (well_fits l p.0, bytes_event l b.0, bytes_joined ls b.1 p.1)

pub packs-proper : (p : List ℕ) → packs p ≡ true → all_bytes p ≡ true → proper (unpacked p) ≡ true
unfolding packs unpacked
packs-proper p h y = bytes_joined (pieces_after 0 p) (ap all_bytes (joined_pieces 0 p) ∙ y) h
