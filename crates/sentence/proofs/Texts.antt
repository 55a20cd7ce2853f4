-- Laws of the first of some texts and of the others. Assumes nothing.
use Rattle.std.proofs.Common.{◌≡◌, ℕ, ◌+◌, ◌≤◌, Bor, Option, Some, None, unwrap_or, cond, ltb, sym, List, [], ◌∷◌, length, take, drop, eqb, refl, ap, ◌∙◌, suc, add-one, arith}
use borrow.Author.Tests.{ltb-false}
use lib.Seq.{take_all}
use lib.ListN.{drop_of_length-le}
use Rattle.std.specs.Slice.{IsGetRangeResult}
use Rattle.laws.proofs.Bytes.{rest_is}
use Rattle.std.specs.List.{position_or_len}
use Rattle.laws.proofs.Split.{by_bool}
use Rattle.sentence.specs.Sentence.{bar, first_text, other_texts}

-- the first ends before the first bar
pub first_is : (l : List ℕ) → take (position_or_len (λ x. eqb x bar) l) l ≡ first_text l
unfolding first_text
first_is [] = refl
first_is (x ∷ l) =
    let n = position_or_len (λ y. eqb y bar) l in
    let e : 1 + n ≡ suc n = omega arith in
    by_bool (eqb x bar) (λ t. rw t) (λ f. rw (f, e) (ap (λ r. x ∷ r) (first_is l)))

-- so it does where the place of the first bar is looked for, and all are one text where none is found
pub first_found : (l : List ℕ) (end : ℕ) (o : Option ℕ) → o ≡ cond (ltb (position_or_len (λ x. eqb x bar) l) (length l)) (Some (position_or_len (λ x. eqb x bar) l)) None → end ≡ unwrap_or o (length l) → take end l ≡ first_text l
first_found l end o w e =
    let k = position_or_len (λ x. eqb x bar) l in
    by_bool (ltb k (length l)) (λ t. rw (e, w, t) (first_is l))
    (λ f.
    let h : length l ≤ k = omega (arith, ltb-false k (length l) f) in
    rw (e, w, f) (take_all (length l) l (omega arith) ∙ sym (take_all k l h) ∙ first_is l))

-- a byte behind it the others begin
pub behind_first : (l : List ℕ) → drop (length (first_text l) + 1) l ≡ other_texts l
unfolding first_text other_texts
behind_first [] = refl
behind_first (x ∷ l) = by_bool (eqb x bar) (λ t. rw t) (λ f. rw (f, add-one) (rw add-one at (behind_first l)))

-- what the library's `get` gives of a list from a place on, and nothing past the end
pub rest_got : (xs : List ℕ) (k : ℕ) (o : Option (Bor (List ℕ))) (d x : Bor (List ℕ)) → IsGetRangeResult xs k (length xs) o → x ≡ unwrap_or o d → d.now ≡ [] → x.now ≡ drop k xs
rest_got xs k None d x h e n =
    let past : length xs ≤ k = omega (arith, h.0) in
    ap (λ b. b.now) e ∙ n ∙ sym (drop_of_length-le xs past)
rest_got xs k (Some y) d x h e n = ap (λ b. b.now) e ∙ h.0.2 ∙ rest_is k xs
