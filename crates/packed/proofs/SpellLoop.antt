-- One turn of the loop that writes a packed list's text, and its end. Assumes nothing.
use mathlib.Core.Path.{◌≡◌, refl, ap, ap₂, ◌∙◌, sym}
use mathlib.Core.Bool.{true, true≢false}
use mathlib.Core.List.{List, [], ◌∷◌, ◌++◌}
use Prim.Native.Nat.{ℕ, ◌+◌, ◌-◌, ◌≤◌, ◌<◌}
use native.Mathlib.Omega.{arith}
use lib.ListN.{length, take, drop, get_or, set, length-append, length-drop}
use lib.Seq.{sets, length-take-le, take_all, take-length}
use borrow.Author.Tests.{eq-eqb, ne_eqb}
use Rattle.laws.specs.Bytes.{put}
use Rattle.laws.proofs.Bytes.{sets-put, rest_is}
use Rattle.laws.proofs.Append.{sets-append}
use Rattle.laws.proofs.Split.{by_lt}
use Rattle.request.specs.Setup.{fits_of}
use Rattle.request.proofs.Lengths.{fits_eight}
use Rattle.line.specs.Event.{Event, attach, request, fits, line_of}
use Rattle.text.specs.Text.{text_of}
use Rattle.packed.specs.Ways.{piece_length}
use Rattle.packed.specs.Packed.{piece_size, first_piece, pieces_after, event_in, well_packed, events_among, packs, unpacked}
use Rattle.packed.proofs.EventPacked.{well_fits}
use Rattle.packed.proofs.SpellSize.{turn_broken, well, piece_is, turn_packs, turn_text}
use Rattle.line.proofs.SpellLine.{attach-spelled, attach-fits}

-- the event of a piece, by its kind byte
in_attach : (l : List ℕ) → get_or l 0 0 ≡ 0 → event_in l ≡ attach
unfolding event_in
in_attach l k = rw (eq-eqb (get_or l 0 0) 0 k)

in_request : (l : List ℕ) → (get_or l 0 0 ≡ 0 → ⊥) → event_in l ≡ request (drop 1 l)
unfolding event_in
in_request l n = rw (ne_eqb (get_or l 0 0) 0 n)

module _ (l : List ℕ) (at : ℕ) (kind : get_or l 0 0 ≡ 0) where
  pub piece_fits : (n : ℕ) → at + length (line_of (event_in l)) ≤ n → at + 2 ≤ n
  piece_fits n h = attach-fits at n (let e : length (line_of (event_in l)) ≡ length (line_of attach) = ap (λ (x : Event). length (line_of x)) (in_attach l kind) in omega arith)

  pub piece_attach : (out : List ℕ) → at + length (line_of (event_in l)) ≤ length out → (set (set out at 65) (at + 1) 10 ≡ put at (line_of (event_in l)) out) × (2 ≡ length (line_of (event_in l)))
  piece_attach out h =
      let e : event_in l ≡ attach = in_attach l kind in
      let r : at + length (line_of attach) ≤ length out = let z = ap (λ (x : Event). length (line_of x)) e in omega arith in
      let s = attach-spelled out at r in
      (s.0 ∙ ap (λ (x : Event). put at (line_of x) out) (sym e), s.1 ∙ ap (λ (x : Event). length (line_of x)) (sym e))

module _ (l : List ℕ) (kind : get_or l 0 0 ≡ 0 → ⊥) where
  -- the request of a piece, as a callee sees it
  seen : request (take (length l - 1) (drop 1 l)) ≡ event_in l
  seen = ap request (rest_is 1 l) ∙ sym (in_request l kind)

  pub piece_long : well_packed l ≡ true → 9 ≤ length l
  unfolding fits
  piece_long w =
      let f : fits_of (drop 1 l) ≡ true = ap fits (sym (in_request l kind)) ∙ well_fits l w in
      let h : 8 ≤ length (drop 1 l) = fits_eight (drop 1 l) f in
      let e : length (drop 1 l) ≡ length l - 1 = length-drop 1 l in
      omega arith

  pub piece_requires : (at n : ℕ) → well_packed l ≡ true → at + length (line_of (event_in l)) ≤ n → (8 ≤ length (take (length l - 1) (drop 1 l))) × (at + length (line_of (request (take (length l - 1) (drop 1 l)))) ≤ n)
  piece_requires at n w h =
      let k : 9 ≤ length l = piece_long w in
      let e : length (take (length l - 1) (drop 1 l)) ≡ length l - 1 = ap length (rest_is 1 l) ∙ length-drop 1 l in
      let s = ap (λ (x : Event). length (line_of x)) seen in
      (omega arith, omega arith)

  pub piece_request : (at r : ℕ) (out out₂ : List ℕ) → (out₂ ≡ put at (line_of (request (take (length l - 1) (drop 1 l)))) out) × (r ≡ length (line_of (request (take (length l - 1) (drop 1 l))))) → (out₂ ≡ put at (line_of (event_in l)) out) × (r ≡ length (line_of (event_in l)))
  piece_request at r out out₂ p = (p.0 ∙ ap (λ (x : Event). put at (line_of x) out) seen, p.1 ∙ ap (λ (x : Event). length (line_of x)) seen)

-- the first piece is what lies before its end
take-first : (u : List ℕ) → take (length (first_piece u)) u ≡ first_piece u
unfolding first_piece
take-first u =
    by_lt (length u) (piece_size u)
    (λ h.
    let k : length u ≤ piece_size u = omega arith in
    let e : take (piece_size u) u ≡ u = take_all (piece_size u) u k in
    ap (λ (l : List ℕ). take (length l) u) e ∙ take-length u ∙ sym e)
    (λ h. ap (λ (n : ℕ). take n u) (length-take-le (piece_size u) u h))

-- what is left of a packed list of whole events, where there is an event
module _ (p : List ℕ) (good : packs p ≡ true) (piece : ℕ) (is : piece ≡ piece_length p) (some : 0 < piece) (within : piece ≤ length p) where
  more : 0 < length p
  more = omega arith

  -- the next piece, as a callee sees it
  next_piece : take piece p ≡ first_piece p
  next_piece = ap (λ (n : ℕ). take n p) (piece_is p more piece is some) ∙ take-first p

  pub next_well : well_packed (take piece p) ≡ true
  next_well = ap well_packed next_piece ∙ well p more piece is some

  pub next_packs : packs (drop piece p) ≡ true
  next_packs = sym (turn_packs p more piece is some) ∙ good

  text : text_of (unpacked p) ≡ line_of (event_in (take piece p)) ++ text_of (unpacked (drop piece p))
  text = turn_text p more piece is some ∙ ap (λ (l : List ℕ). line_of (event_in l) ++ text_of (unpacked (drop piece p))) (sym next_piece)

  text-length : length (text_of (unpacked p)) ≡ length (line_of (event_in (take piece p))) + length (text_of (unpacked (drop piece p)))
  text-length = ap length text ∙ length-append (line_of (event_in (take piece p))) (text_of (unpacked (drop piece p)))

  pub next_room : (to total n : ℕ) → to + length (text_of (unpacked p)) ≡ total → total ≤ n → to + length (line_of (event_in (take piece p))) ≤ n
  next_room to total n s h = let e = text-length in omega arith

  pub next_total : (line to total : ℕ) → line ≡ length (line_of (event_in (take piece p))) → to + length (text_of (unpacked p)) ≡ total → to + line + length (text_of (unpacked (drop piece p))) ≡ total
  next_total line to total k s = let e = text-length in omega arith

  pub next_laid : (out out₂ : List ℕ) (to line : ℕ) → to + length (line_of (event_in (take piece p))) ≤ length out → line ≡ length (line_of (event_in (take piece p))) → out₂ ≡ put to (line_of (event_in (take piece p))) out → sets out₂ (to + line) (text_of (unpacked (drop piece p))) ≡ sets out to (text_of (unpacked p))
  next_laid out out₂ to line room k put_is =
      let l = line_of (event_in (take piece p)) in
      let r = text_of (unpacked (drop piece p)) in
      ap₂ (λ (m : List ℕ) (i : ℕ). sets m (to + i) r) (put_is ∙ sym (sets-put l out to room)) k ∙ sym (sets-append l r out to) ∙ ap (sets out to) (sym text)

none : text_of (unpacked []) ≡ []
unfolding text_of unpacked events_among pieces_after
none = refl

-- where there is no event, none is left
no_more : (p : List ℕ) → packs p ≡ true → 0 ≡ piece_length p → p ≡ []
no_more [] good z = refl
no_more (x ∷ p) good z = absurd (true≢false (sym good ∙ turn_broken (x ∷ p) (omega arith) z))

pub spell_end : (p rest out out₀ : List ℕ) (to : ℕ) → packs rest ≡ true → 0 ≡ piece_length rest → length (text_of (unpacked p)) ≤ length out₀ → sets out to (text_of (unpacked rest)) ≡ sets out₀ 0 (text_of (unpacked p)) → out ≡ put 0 (text_of (unpacked p)) out₀
spell_end p rest out out₀ to good z room e =
    let d : rest ≡ [] = no_more rest good z in
    let r : 0 + length (text_of (unpacked p)) ≤ length out₀ = omega arith in
    ap (λ (l : List ℕ). sets out to l) (sym none) ∙ ap (λ (l : List ℕ). sets out to (text_of (unpacked l))) (sym d) ∙ e ∙ sets-put (text_of (unpacked p)) out₀ 0 r
