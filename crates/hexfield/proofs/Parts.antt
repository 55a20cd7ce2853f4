-- Laws of a list that is cut into parts of n elements. Assumes nothing.
use Rattle.std.proofs.Common.{◌≡◌, ℕ, zero, suc, ◌+◌, ◌*◌, ◌/◌, ◌<◌, List, [], length, take, drop, get_or, refl, ap, ◌∙◌, arith, zero-mul}
use Rattle.std.specs.Simd.{first_chunks}
use Rattle.std.proofs.lemmas.List.{drop-drop, get_or-take, get_or-drop}

pub length-first_chunks : (n k : ℕ) (xs : List ℕ) → length (first_chunks n k xs) ≡ k
length-first_chunks n zero xs = refl
length-first_chunks n (suc k) xs = ap suc (length-first_chunks n k (drop n xs))

pub part_at : (n k i : ℕ) (xs : List ℕ) → i < k → get_or (first_chunks n k xs) i [] ≡ take n (drop (i * n) xs)
part_at n zero i xs h = absurd (omega arith)
part_at n (suc k) zero xs h = rw zero-mul
part_at n (suc k) (suc i) xs h =
    let e : n + i * n ≡ suc i * n = omega arith in
    part_at n k i (drop n xs) (omega arith) ∙ rw (drop-drop (i * n) n xs, e)

-- both elements of a pair
pub pair_at : (xs : List ℕ) (pairs : List (List ℕ)) (i : ℕ) → pairs ≡ first_chunks 2 (length xs / 2) xs → i < length pairs → (get_or (get_or pairs i []) 0 0 ≡ get_or xs (i * 2) 0) × (get_or (get_or pairs i []) 1 0 ≡ get_or xs (i * 2 + 1) 0)
pair_at xs pairs i e h =
    let k = length xs / 2 in
    let l = length-first_chunks 2 k xs in
    let more : i < k = omega (arith, ap length e) in
    let zero_is : i * 2 + 0 ≡ i * 2 = omega arith in
    let p : get_or pairs i [] ≡ take 2 (drop (i * 2) xs) = rw e (part_at 2 k i xs more) in
    (rw p (get_or-take 2 (drop (i * 2) xs) 0 0 (omega arith) ∙ get_or-drop (i * 2) xs 0 0 ∙ rw zero_is), rw p (get_or-take 2 (drop (i * 2) xs) 1 0 (omega arith) ∙ get_or-drop (i * 2) xs 1 0))
