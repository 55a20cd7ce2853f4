-- The walk over a text, one line further. Assumes nothing.
use mathlib.Core.Path.{◌≡◌, refl, ap, ◌∙◌, sym}
use mathlib.Core.Bool.{Bool, true, false, not, cond}
use mathlib.Core.List.{List, [], ◌∷◌}
use Prim.Native.Nat.{ℕ, suc, ◌+◌, ◌-◌, ◌*◌, ◌≤◌, ◌<◌}
use native.Mathlib.Omega.{arith}
use native.Mathlib.Numerals.{add-one}
use lib.Dec.{eqb}
use lib.ListN.{length, take, drop, length-drop, drop_of_length-le}
use lib.Seq.{drop-drop}
use borrow.Author.Tests.{eq-eqb, ne_eqb}
use Rattle.std.specs.Prelude.{⊤, Result, Ok, Err}
use Rattle.laws.proofs.Bytes.{rest_is as whole-rest}
use Rattle.laws.proofs.Split.{by_eq}
use Rattle.laws.specs.Lines.{first_line, lines_of}
use Rattle.laws.proofs.Lines.{lines_first, first-length}
use Rattle.refusal.specs.declared.Refusal.{Refusal}
use Rattle.refusal.specs.declared.Refusal.TheVariants.{Record, Unended, Empty}
use Rattle.refusal.specs.Order.{first_of}
use Rattle.refusal.specs.Delivery.{counted}
use Rattle.refusal.proofs.First.{first-here, first_on, first-none, first-append, refused_not}
use Rattle.record.specs.Record.{record_in, type_of, good_record}
use Rattle.record.specs.Ways.{record_line_length, record_laid}
use Rattle.record.proofs.Learnt.{Reads, reads, bad_record}
use Rattle.pieces.specs.Image.{Piece, image_of}
use Rattle.pieces.specs.Refusals.{none}
use Rattle.pieces.specs.Ways.{Holds}
use Rattle.pieces.proofs.Images.{image_length, image_front}
use Rattle.ihex.specs.Reading.{upper_after, given_after, ends, record_refusals, line_refusals, end_refusals, refusals_from, pieces_from, hex_read_refusals, pieces_in, faulty_end, faulty_from, faulty_line}
use Rattle.ihex.specs.declared.Fault.{Fault}
use Rattle.ihex.specs.Ways.{RecordPlaced, stopped_of, without_line, line_at_fault, ended_of, Walks}
use Rattle.ihex.proofs.Laying.{no_data}
use Rattle.board.specs.declared.Board.{Board}

-- at a place of a text, before line number k: what is left comes to what the whole text comes to, and all holds that was given
pub record Sofar (board : Board) (t : List ℕ) (at k upper end : ℕ) (bits image : List ℕ) (ps : List Piece) : Type 0 where
  pub refusals : first_of (refusals_from board k upper ps (lines_of (drop at t))) ≡ first_of (hex_read_refusals board t)
  pub line : faulty_from board k upper ps (lines_of (drop at t)) ≡ faulty_line board t
  pub pieces : pieces_from upper ps (lines_of (drop at t)) ≡ pieces_in t
  pub holds : Holds board ps bits image end
  pub within : at ≤ length t
  pub numbered : k * 2 ≤ at + 2

pub sofar_start : (board : Board) (t bits image : List ℕ) → Holds board [] bits image 0 → Sofar board t 0 1 0 0 bits image []
sofar_start board t bits image h = record { refusals = refl; line = refl; pieces = refl; holds = h; within = omega arith; numbered = omega arith }

-- a fault ends the walk
pub stops : (board : Board) (t image : List ℕ) (why : Refusal) (k : ℕ) (w : Result ℕ Fault) → w ≡ stopped_of why k → first_of (hex_read_refusals board t) ≡ Err why → faulty_line board t ≡ k → Walks board t w image
stops board t image why k w is e f =
    record {
      answer = ap without_line is ∙ sym (ap (λ (a : Result ⊤ Refusal). counted a (length (image_of board (pieces_in t)))) e);
      line = ap line_at_fault is ∙ sym f;
      front = λ z. refused_not why (sym e ∙ z);
    }

-- a line at the front of what is left
module _ (board : Board) (k upper : ℕ) (ps : List Piece) (l : List ℕ) (ls : List (List ℕ)) where
  rest : List (Refusal × Bool)
  rest = cond (ends (record_in l)) (end_refusals ps ls) (refusals_from board (suc k) (upper_after upper (record_in l)) (given_after upper ps (record_in l)) ls)

  pub line_bad : good_record l ≡ false → (first_of (refusals_from board k upper ps (l ∷ ls)) ≡ Err (Record k)) × (faulty_from board k upper ps (l ∷ ls) ≡ k)
  unfolding refusals_from line_refusals faulty_from
  line_bad b =
      let first : (zs : List (Refusal × Bool)) → first_of ((Record k, not (good_record l)) ∷ zs) ≡ Err (Record k) = λ zs. first-here _ _ _ (rw b) in
      (first _, rw (first (record_refusals board upper ps (record_in l))))

  module _ (good : good_record l ≡ true) where
    line_own : (a : Result ⊤ Refusal) → first_of (record_refusals board upper ps (record_in l)) ≡ a → first_of (line_refusals board k upper ps l) ≡ a
    unfolding line_refusals
    line_own a e = first_on _ _ _ (rw good) ∙ e

    pub line_refused : (why : Refusal) → first_of (record_refusals board upper ps (record_in l)) ≡ Err why → (first_of (refusals_from board k upper ps (l ∷ ls)) ≡ Err why) × (faulty_from board k upper ps (l ∷ ls) ≡ k)
    unfolding refusals_from faulty_from rest
    line_refused why e =
        let own = line_own (Err why) e in
        (first-append (line_refusals board k upper ps l) rest (Err why) own, rw own)

    module _ (none-own : first_of (record_refusals board upper ps (record_in l)) ≡ Ok tt) where
      own : first_of (line_refusals board k upper ps l) ≡ Ok tt
      own = line_own (Ok tt) none-own

      pub line_goes_on : ends (record_in l) ≡ false → (first_of (refusals_from board k upper ps (l ∷ ls)) ≡ first_of (refusals_from board (suc k) (upper_after upper (record_in l)) (given_after upper ps (record_in l)) ls)) × (faulty_from board k upper ps (l ∷ ls) ≡ faulty_from board (suc k) (upper_after upper (record_in l)) (given_after upper ps (record_in l)) ls) × (pieces_from upper ps (l ∷ ls) ≡ pieces_from (upper_after upper (record_in l)) (given_after upper ps (record_in l)) ls)
      unfolding refusals_from faulty_from pieces_from rest
      line_goes_on e = (first-append (line_refusals board k upper ps l) rest (Ok tt) own ∙ rw e, rw (own, e), rw e)

      pub line-ends : ends (record_in l) ≡ true → (first_of (refusals_from board k upper ps (l ∷ ls)) ≡ first_of (end_refusals ps ls)) × (faulty_from board k upper ps (l ∷ ls) ≡ faulty_end k ps ls) × (pieces_from upper ps (l ∷ ls) ≡ ps)
      unfolding refusals_from faulty_from pieces_from rest
      line-ends e = (first-append (line_refusals board k upper ps l) rest (Ok tt) own ∙ rw e, rw (own, e), rw e)

-- there are lines where there are bytes
lines_none : (v : List ℕ) → none (lines_of v) ≡ eqb (length v) 0
unfolding lines_of
lines_none [] = refl
lines_none (x ∷ v) =
    let h : 0 < length (x ∷ v) = omega arith in
    let z : length (x ∷ v) ≡ 0 → ⊥ = λ e. omega arith in
    ap none (lines_first (x ∷ v) h) ∙ sym (ne_eqb (length (x ∷ v)) 0 z)

-- the end record: what stands behind it, and what was given, decide
module _ (board : Board) (t bits image : List ℕ) (ps : List Piece) (end k left : ℕ) (ls : List (List ℕ)) (w : Result ℕ Fault) (is : w ≡ ended_of left end k) (h : Holds board ps bits image end) (behind : none ls ≡ eqb left 0) (refusals : first_of (end_refusals ps ls) ≡ first_of (hex_read_refusals board t)) (line : faulty_end k ps ls ≡ faulty_line board t) (pieces : ps ≡ pieces_in t) where
  text_behind : (left ≡ 0 → ⊥) → Walks board t w image
  unfolding ended_of
  text_behind z =
      let b : none ls ≡ false = behind ∙ ne_eqb left 0 z in
      let e : ended_of left end k ≡ stopped_of Unended (k + 1) = rw (ne_eqb left 0 z) in
      let f : faulty_end k ps ls ≡ k + 1 = rw (b, add-one k) in
      stops board t image Unended (k + 1) w (is ∙ e) (sym refusals ∙ first-here _ _ _ (rw b)) (sym line ∙ f)

  module _ (z : left ≡ 0) where
    last : none ls ≡ true
    last = behind ∙ eq-eqb left 0 z

    nothing_given : end ≡ 0 → Walks board t w image
    unfolding ended_of
    nothing_given y =
        let b = last in
        let p : none ps ≡ true = h.some ∙ eq-eqb end 0 y in
        let e : ended_of left end k ≡ stopped_of Empty k = rw (eq-eqb left 0 z, eq-eqb end 0 y) in
        let f : faulty_end k ps ls ≡ k = rw (b, p) in
        stops board t image Empty k w (is ∙ e) (sym refusals ∙ first_on _ _ _ (rw b) ∙ first-here _ _ _ p) (sym line ∙ f)

    image_there : (end ≡ 0 → ⊥) → Walks board t w image
    unfolding ended_of
    image_there y =
        let b = last in
        let p : none ps ≡ false = h.some ∙ ne_eqb end 0 y in
        let e : ended_of left end k ≡ Ok end = rw (eq-eqb left 0 z, ne_eqb end 0 y) in
        let f : faulty_end k ps ls ≡ 0 = rw (b, p) in
        let free : first_of (hex_read_refusals board t) ≡ Ok tt = sym refusals ∙ first_on _ _ _ (rw b) ∙ first_on _ _ _ p ∙ first-none in
        let l : length (image_of board (pieces_in t)) ≡ end = ap (λ (qs : List Piece). length (image_of board qs)) (sym pieces) ∙ image_length h in
        record {
          answer = ap without_line (is ∙ e) ∙ ap Ok (sym l) ∙ sym (ap (λ (a : Result ⊤ Refusal). counted a (length (image_of board (pieces_in t)))) free);
          line = ap line_at_fault (is ∙ e) ∙ sym f ∙ line;
          front = λ x. rw pieces at (image_front h);
        }

  pub walk_ended : Walks board t w image
  walk_ended = by_eq left 0 (λ z. by_eq end 0 (nothing_given z) (image_there z)) text_behind

-- from a place of the text on
module _ {board : Board} {t bits image : List ℕ} {at k upper end : ℕ} {ps : List Piece} (s : Sofar board t at k upper end bits image ps) where
  -- no line is left
  pub walk_over : length t ≤ at → (first_of (hex_read_refusals board t) ≡ Err Unended) × (faulty_line board t ≡ k)
  unfolding lines_of refusals_from faulty_from
  walk_over h =
      let e : lines_of (drop at t) ≡ [] = ap lines_of (drop_of_length-le t h) in
      (sym s.refusals ∙ ap (λ (ls : List (List ℕ)). first_of (refusals_from board k upper ps ls)) e ∙ first-here _ _ _ refl, sym s.line ∙ ap (faulty_from board k upper ps) e)

  module _ (more : at < length t) where
    abbrev l : List ℕ
    l = first_line (drop at t)

    abbrev ls : List (List ℕ)
    ls = lines_of (drop (length l) (drop at t))

    size : length (drop at t) ≡ length t - at
    size = length-drop at t

    lines : lines_of (drop at t) ≡ l ∷ ls
    lines = lines_first (drop at t) (let h : 0 < length (drop at t) = let d = size in omega arith in h)

    refusals : first_of (refusals_from board k upper ps (l ∷ ls)) ≡ first_of (hex_read_refusals board t)
    refusals = sym (ap (λ (x : List (List ℕ)). first_of (refusals_from board k upper ps x)) lines) ∙ s.refusals

    faulty : faulty_from board k upper ps (l ∷ ls) ≡ faulty_line board t
    faulty = sym (ap (faulty_from board k upper ps) lines) ∙ s.line

    pieces : pieces_from upper ps (l ∷ ls) ≡ pieces_in t
    pieces = sym (ap (pieces_from upper ps) lines) ∙ s.pieces

    pub walk_bad : good_record l ≡ false → (first_of (hex_read_refusals board t) ≡ Err (Record k)) × (faulty_line board t ≡ k)
    walk_bad b = let p = line_bad board k upper ps l ls b in (sym refusals ∙ p.0, sym faulty ∙ p.1)

    module _ (good : good_record l ≡ true) where
      pub walk_refused : (why : Refusal) → first_of (record_refusals board upper ps (record_in l)) ≡ Err why → (first_of (hex_read_refusals board t) ≡ Err why) × (faulty_line board t ≡ k)
      walk_refused why e = let p = line_refused board k upper ps l ls good why e in (sym refusals ∙ p.0, sym faulty ∙ p.1)

      module _ (line : ℕ) (is : line ≡ length l) where
        rest_is : drop (length l) (drop at t) ≡ drop (at + line) t
        rest_is = drop-drop (length l) at t ∙ ap (λ (m : ℕ). drop (at + m) t) (sym is)

        pub line-within : at + line ≤ length t
        line-within = let f = first-length (drop at t) in let d = size in omega arith

        pub walk_on : (bits' image' : List ℕ) (upper' end' : ℕ) → 12 ≤ length l → (type_of (record_in l) ≡ 1 → ⊥) → first_of (record_refusals board upper ps (record_in l)) ≡ Ok tt → Holds board (given_after upper ps (record_in l)) bits' image' end' → upper' ≡ upper_after upper (record_in l) → Sofar board t (at + line) (k + 1) upper' end' bits' image' (given_after upper ps (record_in l))
        unfolding ends
        walk_on bits' image' upper' end' long type none-own holds up =
            let p = line_goes_on board k upper ps l ls good none-own (ne_eqb (type_of (record_in l)) 1 type) in
            let e : ls ≡ lines_of (drop (at + line) t) = ap lines_of rest_is in
            let m = s.numbered in
            rw (up, add-one k)
            (record {
              refusals = ap (λ (x : List (List ℕ)). first_of (refusals_from board (suc k) (upper_after upper (record_in l)) (given_after upper ps (record_in l)) x)) (sym e) ∙ sym p.0 ∙ refusals;
              line = ap (faulty_from board (suc k) (upper_after upper (record_in l)) (given_after upper ps (record_in l))) (sym e) ∙ sym p.1 ∙ faulty;
              pieces = ap (pieces_from (upper_after upper (record_in l)) (given_after upper ps (record_in l))) (sym e) ∙ sym p.2 ∙ pieces;
              holds = holds;
              within = line-within;
              numbered = let g : suc k * 2 ≤ at + line + 2 = omega arith in g;
            })

        pub walk_ends : (w : Result ℕ Fault) → type_of (record_in l) ≡ 1 → w ≡ ended_of (length t - at - line) end k → Walks board t w image
        unfolding ends type_of
        walk_ends w type we =
            let own = (no_data board upper ps (record_in l) (λ z. let x : 0 ≡ 1 = sym z ∙ type in omega arith)).0 in
            let p = line-ends board k upper ps l ls good own (eq-eqb (type_of (record_in l)) 1 type) in
            let d = size in
            let left : length (drop (length l) (drop at t)) ≡ length t - at - line = length-drop (length l) (drop at t) ∙ (let g : length (drop at t) - length l ≡ length t - at - line = omega arith in g) in
            walk_ended board t bits image ps end k (length t - at - line) ls w we s.holds (lines_none (drop (length l) (drop at t)) ∙ ap (λ (m : ℕ). eqb m 0) left) (sym p.0 ∙ refusals) (sym p.1 ∙ faulty) (sym p.2 ∙ pieces)

-- what a call of `read` at a place of the text tells, which sees the text from there on
pub line_read : (t : List ℕ) (at : ℕ) (out after : List ℕ) (line : ℕ) → line ≡ record_line_length (take (length t - at) (drop at t)) → after ≡ record_laid (take (length t - at) (drop at t)) out → 260 ≤ length out → 0 < line → Reads (drop at t) out after × (line ≡ length (first_line (drop at t)))
line_read t at out after line e laid room some = reads (drop at t) out after line (e ∙ ap record_line_length (whole-rest at t)) (λ z. omega arith) (laid ∙ ap (λ (u : List ℕ). record_laid u out) (whole-rest at t)) room

pub line_bad_read : (t : List ℕ) (at line : ℕ) → at < length t → line ≡ record_line_length (take (length t - at) (drop at t)) → line ≡ 0 → good_record (first_line (drop at t)) ≡ false
line_bad_read t at line more e z =
    let d = length-drop at t in
    let some : 0 < length (drop at t) = omega arith in
    bad_record (drop at t) some (sym (e ∙ ap record_line_length (whole-rest at t)) ∙ z)

-- what a call of `lay` tells, by its answer
pub laid_refused : (board : Board) (upper : ℕ) (ps : List Piece) (r r' bits image : List ℕ) (d : Result ℕ Refusal) (why : Refusal) → r ≡ r' → d ≡ Err why → RecordPlaced board upper ps r bits image d → first_of (record_refusals board upper ps r') ≡ Err why
laid_refused board upper ps r r' bits image d why e f h = rw (e, f) at h

pub laid-bytes : (board : Board) (upper : ℕ) (ps : List Piece) (r r' bits image : List ℕ) (d : Result ℕ Refusal) (end : ℕ) → r ≡ r' → d ≡ Ok end → RecordPlaced board upper ps r bits image d → (first_of (record_refusals board upper ps r') ≡ Ok tt) × Holds board (given_after upper ps r') bits image end
laid-bytes board upper ps r r' bits image d end e f h = rw (e, f) at h
