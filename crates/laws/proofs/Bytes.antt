-- Laws of `put` and `filled`: one turn of a loop that stores, its end, and lengths. Assumes nothing.
use mathlib.Core.Path.{◌≡◌, refl, ap, ◌∙◌, sym}
use mathlib.Core.List.{List, [], ◌∷◌, ◌++◌, append_assoc}
use Prim.Native.Nat.{ℕ, zero, suc, ◌+◌, ◌-◌, ◌≤◌, ◌<◌}
use native.Mathlib.Omega.{arith}
use native.Mathlib.Nat.{le_refl, add_assoc, min-le_left, min-le_right}
use native.Mathlib.Numerals.{add-one}
use lib.ListN.{length, take, drop, get_or, set, replicate, length-take, length-drop, length-replicate, drop_of_length-le, take-append-drop}
use lib.Seq.{drop-cons, sets, sets-eq, length-sets, take_all, take-append_seam, drop-append-add, drop-drop}
use Rattle.laws.specs.Bytes.{put, filled}

-- one store a byte, from place i on (`sets` of the kit), is `put`
pub sets-put : (xs m : List ℕ) (at : ℕ) → at + length xs ≤ length m → sets m at xs ≡ put at xs m
unfolding put
sets-put xs m at h = sets-eq xs m at h

pub put-length : (at : ℕ) (xs m : List ℕ) → at + length xs ≤ length m → length (put at xs m) ≡ length m
put-length at xs m h = ap length (sym (sets-put xs m at h)) ∙ length-sets m at xs

pub filled-length : (from count v : ℕ) (m : List ℕ) → from + count ≤ length m → length (filled from count v m) ≡ length m
unfolding filled
filled-length from count v m h =
    let e : length (replicate count v) ≡ count = length-replicate {A = ℕ} count v in
    let room : from + length (replicate count v) ≤ length m = omega arith in
    put-length from (replicate count v) m room

-- a turn of a loop that copies xs to m from place `at` on, at the j-th of them
pub sets_turn : (m xs : List ℕ) (at j : ℕ) → j < length xs → sets m (at + j) (drop j xs) ≡ sets (set m (at + j) (get_or xs j 0)) (at + (j + 1)) (drop (j + 1) xs)
sets_turn m xs at j h = rw (drop-cons xs j 0 h, ← add_assoc at j 1, add-one (at + j), add-one j)

pub sets_end : (m xs : List ℕ) (i j : ℕ) → length xs ≤ j → sets m i (drop j xs) ≡ m
sets_end m xs i j h = rw (drop_of_length-le xs h)

-- laid behind ys
pub put_seam : (ys xs zs : List ℕ) → put (length ys) xs (ys ++ zs) ≡ ys ++ xs ++ drop (length xs) zs
unfolding put
put_seam ys xs zs = rw (take-append_seam, drop-append-add)

-- what a callee that is handed `&s[k..]` sees
pub rest_is : (k : ℕ) (l : List ℕ) → take (length l - k) (drop k l) ≡ drop k l
rest_is k l =
    let h : length (drop k l) ≤ length l - k = rw length-drop (le_refl _) in
    take_all (length l - k) (drop k l) h

-- the front of a list is no longer than asked for
pub take_at_most : (n : ℕ) (l : List ℕ) → length (take n l) ≤ n
take_at_most n l = rw length-take (min-le_left n (length l))

-- nor longer than the list
pub take_within : (n : ℕ) (l : List ℕ) → length (take n l) ≤ length l
take_within n l = rw (length-take n l) (min-le_right n (length l))

-- a part of a list, laid over itself, changes nothing
part_rest : (n : ℕ) (l : List ℕ) → take n l ++ drop (length (take n l)) l ≡ l
part_rest zero l = refl
part_rest (suc n) [] = refl
part_rest (suc n) (x ∷ l) = ap (λ (r : List ℕ). x ∷ r) (part_rest n l)

pub put_own : (at n : ℕ) (m : List ℕ) → put at (take n (drop at m)) m ≡ m
unfolding put
put_own at n m =
    let xs = take n (drop at m) in
    append_assoc (take at m) xs (drop (at + length xs) m)
    ∙ ap (λ (l : List ℕ). take at m ++ l) (ap (λ (l : List ℕ). xs ++ l) (sym (drop-drop (length xs) at m)) ∙ part_rest n (drop at m))
    ∙ take-append-drop at m
