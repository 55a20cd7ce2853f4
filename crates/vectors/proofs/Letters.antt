-- Laws of texts in other letters: a turn of the loop, and its end. Assumes nothing.
use Rattle.std.proofs.Common.{◌≡◌, ℕ, suc, ◌+◌, ◌<◌, ◌≤◌, Bool, eqb, List, [], ◌∷◌, ◌++◌, length, get_or, take, drop, set, sym, ap, ◌∙◌, append_assoc, add-one, arith, take-append-drop, drop_of_length-le, drop-cons, take-suc-set, drop-set-lt}
use Rattle.vectors.specs.Vectors.{small_at, letter_of, respelled_of}

pub respelled_turn : (mixed first s : Bool) (i v : ℕ) (m : List ℕ) → i < length m → s ≡ small_at mixed i → v ≡ letter_of first s (get_or m i 0) → take (i + 1) (set m i v) ++ respelled_of mixed (i + 1) (eqb (get_or m i 0) 10) (drop (i + 1) (set m i v)) ≡ take i m ++ respelled_of mixed i first (drop i m)
unfolding respelled_of
respelled_turn mixed first s i v m h small is =
    let past : i < suc i = omega arith in
    rw (add-one i, take-suc-set m i v h, drop-set-lt (suc i) m i v past, append_assoc (take i m) (v ∷ []) (respelled_of mixed (suc i) (eqb (get_or m i 0) 10) (drop (suc i) m)), drop-cons m i 0 h, is, small)

pub respelled_end : (mixed first : Bool) (i : ℕ) (m : List ℕ) → length m ≤ i → take i m ++ respelled_of mixed i first (drop i m) ≡ m
unfolding respelled_of
respelled_end mixed first i m h = rw (drop_of_length-le m h) (ap (λ (l : List ℕ). take i m ++ l) (sym (drop_of_length-le m h)) ∙ take-append-drop i m)
