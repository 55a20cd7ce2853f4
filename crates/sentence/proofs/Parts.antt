-- Bars in front of a closing bracket, counted. Assumes nothing.
use Rattle.std.proofs.Common.{◌≡◌, ℕ, ◌+◌, suc, List, [], ◌∷◌, eqb, not, cond, count_by, refl, ◌∙◌, take, arith}
use Rattle.std.specs.List.{take_while, prefix_len}
use Rattle.std.proofs.lemmas.List.Sums.{sum_by-cons}
use Rattle.laws.proofs.Split.{by_bool}
use Rattle.sentence.specs.Sentence.{bar, closes, bars_of}

pub bars_counted : (l : List ℕ) → count_by (λ x. eqb x bar) (take_while (λ x. not (eqb x closes)) l) ≡ bars_of l
unfolding bars_of
bars_counted [] = refl
bars_counted (x ∷ l) =
    let n = prefix_len (λ y. not (eqb y closes)) l in
    let e : 1 + n ≡ suc n = omega arith in
    by_bool (eqb x closes) (λ t. rw t)
    (λ f. rw (f, e) (sum_by-cons (λ y. cond (eqb y bar) 1 0) x (take n l) ∙ rw (bars_counted l)))
