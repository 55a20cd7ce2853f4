-- The length of the first packed event by the tests that decide it. Assumes nothing.
use mathlib.Core.Path.{◌≡◌, refl, ap, ◌∙◌, sym}
use mathlib.Core.Bool.{true, false}
use mathlib.Core.List.{List, [], ◌∷◌}
use Prim.Native.Nat.{ℕ, suc, ◌+◌, ◌-◌, ◌≤◌, ◌<◌}
use native.Mathlib.Omega.{arith}
use lib.Dec.{leb}
use lib.ListN.{length, take, drop, get_or, take-append-drop}
use lib.Seq.{length-take-le, take_all}
use borrow.Author.Tests.{ne_eqb}
use Rattle.std.specs.Prelude.{Option, Some, None, IfSome, unwrap_or}
use Rattle.laws.proofs.Bytes.{rest_is}
use Rattle.laws.proofs.Split.{and_right_false, and_right_true}
use Rattle.request.specs.Setup.{setup_of, data_length, fits_of}
use Rattle.laws.specs.Lists.{same}
use Rattle.line.specs.Event.{fits}
use Rattle.packed.specs.Packed.{pack_of, piece_size, first_piece, event_in, well_packed}
use Rattle.packed.specs.Ways.{piece_length}
use Rattle.laws.proofs.Lists.{same_refl}
use Rattle.line.proofs.Formed.{fits_if, setup_front}

pub piece_good : (u : List ℕ) → well_packed (first_piece u) ≡ true → piece_length u ≡ length (first_piece u)
unfolding piece_length
piece_good u h = rw h

pub piece_bad : (u : List ℕ) → well_packed (first_piece u) ≡ false → 0 ≡ piece_length u
unfolding piece_length
piece_bad u h = rw h

-- the piece lies in the list, also where it is none
pub piece_within : (most : ℕ) (r : Option ℕ) → IfSome r (λ n. (0 < n) × (n ≤ most)) → unwrap_or r 0 ≤ most
piece_within most (Some n) h = h.1
piece_within most None h = omega arith

-- a kind byte other than 1 is a piece of its own
first_other : (x : ℕ) (t : List ℕ) → (x ≡ 1 → ⊥) → first_piece (x ∷ t) ≡ x ∷ []
unfolding first_piece piece_size
first_other x t n = rw (ne_eqb x 1 n)

well_attach : well_packed (0 ∷ []) ≡ true
unfolding well_packed fits event_in pack_of same
well_attach = refl

not_well_empty : well_packed (first_piece []) ≡ false
unfolding well_packed first_piece piece_size fits event_in pack_of same
not_well_empty = refl

not_well : (x : ℕ) → (x ≡ 0 → ⊥) → well_packed (x ∷ []) ≡ false
unfolding well_packed fits event_in fits_of
not_well x n = rw (ne_eqb x 0 n)

pub no_piece : (u : List ℕ) → length u < 1 → 0 ≡ piece_length u
no_piece [] h = piece_bad [] not_well_empty
no_piece (x ∷ t) h = absurd (omega arith)

pub attach_piece : (u : List ℕ) → 1 ≤ length u → get_or u 0 0 ≡ 0 → 1 ≡ piece_length u
attach_piece [] h k = absurd (omega arith)
attach_piece (x ∷ t) h k =
    let f : first_piece (x ∷ t) ≡ 0 ∷ [] = first_other x t (λ z. omega arith) ∙ ap (λ (y : ℕ). y ∷ []) k in
    sym (piece_good (x ∷ t) (ap well_packed f ∙ well_attach) ∙ ap length f)

pub other_piece : (u : List ℕ) → 1 ≤ length u → (get_or u 0 0 ≡ 0 → ⊥) → (get_or u 0 0 ≡ 1 → ⊥) → 0 ≡ piece_length u
other_piece [] h m n = absurd (omega arith)
other_piece (x ∷ t) h m n = piece_bad (x ∷ t) (ap well_packed (first_other x t n) ∙ not_well x m)

-- a packed request: its kind byte, and then as many bytes as it asks for
well_request : (q : List ℕ) → well_packed (1 ∷ q) ≡ fits_of q
unfolding well_packed fits event_in pack_of
well_request q = rw (same_refl (1 ∷ q)) (and_right_true (fits_of q))

first-request : (t : List ℕ) → first_piece (1 ∷ t) ≡ 1 ∷ take (8 + data_length (setup_of t)) t
unfolding first_piece piece_size
first-request t =
    let e : 9 + data_length (setup_of t) ≡ suc (8 + data_length (setup_of t)) = omega arith in
    ap (λ (k : ℕ). take k (1 ∷ t)) e

not_fit : (q : List ℕ) → length q < 8 + data_length (setup_of q) → fits_of q ≡ false
unfolding fits_of
not_fit q h =
    let n : length q ≡ 8 + data_length (setup_of q) → ⊥ = λ z. omega arith in
    rw (ne_eqb (length q) (8 + data_length (setup_of q)) n) (and_right_false (leb 8 (length q)))

request_cut : (t : List ℕ) → length t < 8 + data_length (setup_of t) → well_packed (first_piece (1 ∷ t)) ≡ false
request_cut t h =
    let k : length t ≤ 8 + data_length (setup_of t) = omega arith in
    ap well_packed (first-request t ∙ ap (λ (l : List ℕ). 1 ∷ l) (take_all (8 + data_length (setup_of t)) t k)) ∙ well_request t ∙ not_fit t h

request_whole : (t : List ℕ) → 8 + data_length (setup_of t) ≤ length t → (well_packed (first_piece (1 ∷ t)) ≡ true) × (length (first_piece (1 ∷ t)) ≡ 9 + data_length (setup_of t))
request_whole t h =
    let m = 8 + data_length (setup_of t) in
    let q = take m t in
    let l : length q ≡ m = length-take-le m t h in
    let l₈ : 8 ≤ length q = omega arith in
    let s : setup_of t ≡ setup_of q = ap setup_of (sym (take-append-drop m t)) ∙ setup_front q (drop m t) l₈ in
    let d : data_length (setup_of t) ≡ data_length (setup_of q) = ap data_length s in
    let f : first_piece (1 ∷ t) ≡ 1 ∷ q = first-request t in
    let n : length (first_piece (1 ∷ t)) ≡ suc (length q) = ap length f in
    (ap well_packed f ∙ well_request q ∙ fits_if q l₈ (omega arith), omega arith)

module _ (u : List ℕ) (kind : get_or u 0 0 ≡ 1) where
  is_request : u ≡ 1 ∷ drop 1 u
  is_request = by_kind u kind
    where
      by_kind : (v : List ℕ) → get_or v 0 0 ≡ 1 → v ≡ 1 ∷ drop 1 v
      by_kind [] k = absurd (omega arith)
      by_kind (x ∷ v) k = ap (λ (y : ℕ). y ∷ v) k

  size_is : length u ≡ suc (length (drop 1 u))
  size_is = ap length is_request

  piece_cut : length (drop 1 u) < 8 + data_length (setup_of (drop 1 u)) → 0 ≡ piece_length u
  piece_cut h = piece_bad u (ap (λ (l : List ℕ). well_packed (first_piece l)) is_request ∙ request_cut (drop 1 u) h)

  pub piece_short : length u < 9 → 0 ≡ piece_length u
  piece_short h = piece_cut (let s = size_is in omega arith)

  -- n bytes of data are asked for
  module _ (n : ℕ) (asked : n ≡ data_length (setup_of (take (length u - 1) (drop 1 u)))) where
    wants : n ≡ data_length (setup_of (drop 1 u))
    wants = asked ∙ ap (λ (l : List ℕ). data_length (setup_of l)) (rest_is 1 u)

    pub piece_ends : 9 ≤ length u → length u - 9 < n → 0 ≡ piece_length u
    piece_ends l h = piece_cut (let s = size_is in let w = wants in omega arith)

    pub piece_whole : 9 ≤ length u → n ≤ length u - 9 → 9 + n ≡ piece_length u
    piece_whole l h =
        let s = size_is in
        let w = wants in
        let r = request_whole (drop 1 u) (omega arith) in
        sym (piece_good u (ap (λ (v : List ℕ). well_packed (first_piece v)) is_request ∙ r.0) ∙ ap (λ (v : List ℕ). length (first_piece v)) is_request ∙ r.1 ∙ ap (λ (k : ℕ). 9 + k) (sym w))
