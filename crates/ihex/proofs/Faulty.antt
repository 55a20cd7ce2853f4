-- The line for people is that of the refusal: 0 where none applies, some line where one does, and the line that 20 names. Assumes nothing.
use mathlib.Core.Path.{◌≡◌, refl, ap, ◌∙◌, sym}
use mathlib.Core.Bool.{true, false, not, ◌&&◌}
use mathlib.Core.List.{List, [], ◌∷◌}
use Prim.Native.Nat.{ℕ, suc, ◌≤◌}
use native.Mathlib.Omega.{arith}
use lib.Dec.{eqb}
use lib.ListN.{length}
use Rattle.std.specs.Prelude.{⊤, Result, Ok, Err}
use Rattle.laws.proofs.Split.{by_bool}
use Rattle.bits.specs.Bits.{any_from}
use Rattle.refusal.specs.declared.Refusal.{Refusal}
use Rattle.refusal.specs.declared.Refusal.TheVariants.{Record, Outside, Twice, Unended, Empty}
use Rattle.refusal.specs.Refusal.{number_of, line_named}
use Rattle.refusal.specs.Order.{first_of}
use Rattle.refusal.proofs.Numbers.{refusal_injective}
use Rattle.refusal.proofs.First.{by_answer, refused_not, first-here, first_on, first-none}
use Rattle.board.specs.declared.Board.{Board}
use Rattle.board.specs.Span.{in_flash}
use Rattle.record.specs.Record.{record_in, type_of, data_of, good_record}
use Rattle.pieces.specs.Image.{Piece, given}
use Rattle.pieces.specs.Refusals.{none, piece_refusals}
use Rattle.ihex.specs.Reading.{data_address, upper_after, given_after, ends, record_refusals, end_refusals, refusals_from, faulty_end, faulty_from}
use Rattle.ihex.proofs.Walking.{line_bad, line_refused, line_goes_on, line-ends}

-- a refusal is one refusal, by its number and by its line
same_refusal : (r s : Refusal) → ◌≡◌ {A = Result ⊤ Refusal} (Err r) (Err s) → (number_of r ≡ number_of s) × (line_named r ≡ line_named s)
same_refusal r s e = let is : r ≡ s = cc in (ap number_of is, ap line_named is)

-- 21 and 22 are no 20
piece_no_record : (board : Board) (a : ℕ) (xs : List ℕ) (ps : List Piece) (m : ℕ) → first_of (piece_refusals board a xs ps) ≡ Err (Record m) → ⊥
piece_no_record board a xs ps m e =
    by_bool (not (eqb (length xs) 0) && not (in_flash board a (length xs)))
    (λ o. let x = (same_refusal Outside (Record m) (sym (first-here _ _ _ o) ∙ e)).0 in omega arith)
    (λ o.
    by_bool (any_from (given ps) a (length xs))
    (λ t. let x = (same_refusal Twice (Record m) (sym (first_on _ _ _ o ∙ first-here _ _ _ t) ∙ e)).0 in omega arith)
    (λ t. refused_not (Record m) (sym e ∙ first_on _ _ _ o ∙ first_on _ _ _ t ∙ first-none)))

record_no_record : (board : Board) (upper : ℕ) (ps : List Piece) (r : List ℕ) (m : ℕ) → first_of (record_refusals board upper ps r) ≡ Err (Record m) → ⊥
unfolding record_refusals
record_no_record board upper ps r m e =
    by_bool (eqb (type_of r) 0)
    (λ t. piece_no_record board (data_address upper r) (data_of r) ps m (rw t at e))
    (λ t. let z : first_of [] ≡ Err (Record m) = rw t at e in refused_not (Record m) (sym z ∙ first-none))

-- what an answer says of the line: k is the first line that counts
abbrev pub Names : Result ⊤ Refusal → ℕ → Type 0
Names (Ok _) line = line ≡ 0
Names (Err r) line = (1 ≤ line) × (number_of r ≡ 20 → line_named r ≡ line)

names_end : (k : ℕ) (ps : List Piece) (ls : List (List ℕ)) → 1 ≤ k → Names (first_of (end_refusals ps ls)) (faulty_end k ps ls)
names_end k ps [] one =
    by_bool (none ps)
    (λ p. rw (first_on Unended false ((Empty, none ps) ∷ []) refl ∙ first-here Empty (none ps) [] p, p) (one, λ z. absurd (omega arith)))
    (λ p. rw (first_on Unended false ((Empty, none ps) ∷ []) refl ∙ first_on Empty (none ps) [] p ∙ first-none, p))
names_end k ps (l ∷ ls) one = rw (first-here Unended true ((Empty, none ps) ∷ []) refl) (omega arith, λ z. absurd (omega arith))

names_missing : (board : Board) (k upper : ℕ) (ps : List Piece) → 1 ≤ k → Names (first_of (refusals_from board k upper ps [])) (faulty_from board k upper ps [])
unfolding refusals_from faulty_from
names_missing board k upper ps one = rw (first-here Unended true [] refl) (one, λ z. absurd (omega arith))

-- of a record alone, no refusal has the number 20
not_record : (why : Refusal) → number_of why ≡ 20 → (board : Board) (upper : ℕ) (ps : List Piece) (r : List ℕ) → first_of (record_refusals board upper ps r) ≡ Err why → ⊥
not_record why z board upper ps r e = record_no_record board upper ps r (line_named why) (e ∙ ap Err (refusal_injective why (Record (line_named why)) z refl))

pub names_from_lem : (board : Board) (k upper : ℕ) (ps : List Piece) (ls : List (List ℕ)) → 1 ≤ k → Names (first_of (refusals_from board k upper ps ls)) (faulty_from board k upper ps ls)
names_from_lem board k upper ps [] one = names_missing board k upper ps one
names_from_lem board k upper ps (l ∷ ls) one =
    by_bool (good_record l)
    (λ good.
    by_answer (first_of (record_refusals board upper ps (record_in l)))
    (λ own.
    by_bool (ends (record_in l))
    (λ e. let p = line-ends board k upper ps l ls good own e in rw (p.0, p.1) (names_end k ps ls one))
    (λ e.
    let p = line_goes_on board k upper ps l ls good own e in
    let o : 1 ≤ suc k = omega arith in
    rw (p.0, p.1) (names_from_lem board (suc k) (upper_after upper (record_in l)) (given_after upper ps (record_in l)) ls o)))
    (λ why own.
    let p = line_refused board k upper ps l ls good why own in
    rw (p.0, p.1) (one, λ z. absurd (not_record why z board upper ps (record_in l) own))))
    (λ bad. let p = line_bad board k upper ps l ls bad in rw (p.0, p.1) (one, λ z. refl))
