-- Laws of lists laid one behind the other, and of what is then in front. Assumes nothing.
use mathlib.Core.Path.{◌≡◌, refl, ap, ap₂, ◌∙◌, sym}
use mathlib.Core.List.{List, [], ◌∷◌, ◌++◌, append_assoc}
use Prim.Native.Nat.{ℕ, suc, ◌+◌, ◌≤◌, ◌<◌}
use native.Mathlib.Nat.{add-zero}
use native.Mathlib.Omega.{arith}
use lib.ListN.{length, take, drop, set, length-append}
use lib.Seq.{sets, set_comm, take-append_seam, length-take-le, drop_at}
use Rattle.laws.specs.Bytes.{put}
use Rattle.laws.proofs.Bytes.{sets-put, put-length}

pub sets-append : (xs ys m : List ℕ) (i : ℕ) → sets m i (xs ++ ys) ≡ sets (sets m i xs) (i + length xs) ys
sets-append [] ys m i = rw (add-zero i)
sets-append (x ∷ xs) ys m i =
    let e : suc i + length xs ≡ i + suc (length xs) = omega arith in
    sets-append xs ys (set m i x) (suc i) ∙ ap (λ (k : ℕ). sets (sets (set m i x) (suc i) xs) k ys) e

-- what was put at the front is the front
pub take_put : (xs m : List ℕ) → take (length xs) (put 0 xs m) ≡ xs
unfolding put
take_put xs m = take-append_seam xs (drop (0 + length xs) m)

-- what was put at a place stands there
pub part_put : (xs m : List ℕ) (i : ℕ) → i ≤ length m → take (length xs) (drop i (put i xs m)) ≡ xs
unfolding put
part_put xs m i h =
    let r = drop (i + length xs) m in
    let e : drop i (take i m ++ xs ++ r) ≡ xs ++ r = ap (drop i) (append_assoc (take i m) xs r) ∙ drop_at (take i m) (xs ++ r) i (length-take-le i m h) in
    ap (take (length xs)) e ∙ take-append_seam xs r

-- bytes laid behind bytes
pub put_behind : (at j : ℕ) (xs ys m : List ℕ) → j ≡ at + length xs → j + length ys ≤ length m → put j ys (put at xs m) ≡ put at (xs ++ ys) m
put_behind at j xs ys m e h =
    let a : at + length xs ≤ length m = omega arith in
    let f : length (xs ++ ys) ≡ length xs + length ys = length-append xs ys in
    let b : at + length (xs ++ ys) ≤ length m = omega arith in
    let g : length (put at xs m) ≡ length m = put-length at xs m a in
    let c : j + length ys ≤ length (put at xs m) = omega arith in
    sym (sets-put ys (put at xs m) j c)
    ∙ ap₂ (λ (l : List ℕ) (k : ℕ). sets l k ys) (sym (sets-put xs m at a)) e
    ∙ sym (sets-append xs ys m at)
    ∙ sets-put (xs ++ ys) m at b

-- a byte stored in front of others, before or after them
set_apart : (xs m : List ℕ) (i j v : ℕ) → j < i → set (sets m i xs) j v ≡ sets (set m j v) i xs
set_apart [] m i j v h = refl
set_apart (x ∷ xs) m i j v h =
    let k : j < suc i = omega arith in
    let d : i ≡ j → ⊥ = λ e. omega arith in
    set_apart xs (set m i x) (suc i) j v k ∙ ap (λ (l : List ℕ). sets l (suc i) xs) (set_comm m i j x v d)

sets_apart : (ys xs m : List ℕ) (i j : ℕ) → j + length ys ≤ i → sets (sets m i xs) j ys ≡ sets (sets m j ys) i xs
sets_apart [] xs m i j h = refl
sets_apart (y ∷ ys) xs m i j h =
    let k : j < i = omega arith in
    let r : suc j + length ys ≤ i = omega arith in
    ap (λ (l : List ℕ). sets l (suc j) ys) (set_apart xs m i j y k) ∙ sets_apart ys xs (set m j y) i (suc j) r
