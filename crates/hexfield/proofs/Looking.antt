-- Laws of the loops that look whether all bytes of a field are digits. Assumes nothing.
use mathlib.Core.Path.{◌≡◌, refl, ap, ◌∙◌, sym}
use mathlib.Core.Bool.{Bool, true, false, ◌&&◌, true≢false}
use mathlib.Core.List.{List, [], ◌∷◌}
use Prim.Native.Nat.{ℕ, zero, suc, ◌+◌, ◌-◌, ◌*◌, ◌/◌, ◌<◌, ◌≤◌}
use native.Mathlib.Omega.{arith}
use native.Mathlib.Numerals.{add-one}
use lib.Dec.{ltb}
use lib.ListN.{length, take, drop, get_or, drop_of_length-le}
use Rattle.std.specs.List.{list_all}
use Rattle.std.specs.Simd.{first_chunks}
use Rattle.std.proofs.lemmas.List.{take-take, drop-take}
use Rattle.std.proofs.Common.{zero-mul}
use lib.Seq.{drop-cons, drop-drop, length-take-le}
use Rattle.laws.proofs.Split.{by_bool, and_right_true}
use Rattle.digit.specs.Digit.{value_of}
use Rattle.hexfield.specs.Hex.{all_digits}
use Rattle.hexfield.proofs.Fields.{digits_take, digits_drop, digits_split}

-- a field in the words of the iterator's `all`
pub list_all_digits : (ds : List ℕ) → list_all (λ d. ltb (value_of d) 16) ds ≡ all_digits ds
unfolding all_digits
list_all_digits [] = refl
list_all_digits (d ∷ ds) = ap (λ b. ltb (value_of d) 16 && b) (list_all_digits ds)

-- the turn of the loop that looks at a field byte by byte and does not stop, and its end
pub gather_turn : (ds : List ℕ) (i : ℕ) (b : Bool) → i < length ds → b ≡ ltb (value_of (get_or ds i 0)) 16 → (all : Bool) → (all && all_digits (drop i ds)) ≡ ((all && b) && all_digits (drop (i + 1) ds))
unfolding all_digits
gather_turn ds i b more e true = rw (drop-cons ds i 0 more, e, add-one i)
gather_turn ds i b more e false = refl

pub gather_end : (ds : List ℕ) (i : ℕ) (all : Bool) → length ds ≤ i → (all && all_digits (drop i ds)) ≡ all
unfolding all_digits
gather_end ds i all h = rw (drop_of_length-le ds h, and_right_true all)

-- a field's front, by its parts of n bytes
parts_digits : (n k : ℕ) (ds : List ℕ) → list_all all_digits (first_chunks n k ds) ≡ all_digits (take (k * n) ds)
unfolding all_digits
parts_digits n zero ds = rw zero-mul
parts_digits n (suc k) ds =
    let e : suc k * n ≡ n + k * n = omega arith in
    let h : n ≤ n + k * n = omega arith in
    let f : all_digits (take (n + k * n) ds) ≡ (all_digits (take n ds) && all_digits (take (k * n) (drop n ds))) = digits_split n (take (n + k * n) ds) ∙ rw (take-take n (n + k * n) ds h, drop-take n (k * n) ds) in
    rw (e, f, parts_digits n k (drop n ds))

-- a front and a back that leave out no byte between them
ends_digits : (ds : List ℕ) (m n : ℕ) → n ≤ m → (all_digits (take m ds) && all_digits (drop n ds)) ≡ all_digits ds
ends_digits ds m n h =
    let back : all_digits (drop n ds) ≡ true → all_digits (drop m ds) ≡ true =
    λ t.
    let e : n + (m - n) ≡ m = omega arith in
    ap (λ k. all_digits (drop k ds)) (sym e) ∙ sym (ap all_digits (drop-drop (m - n) n ds)) ∙ digits_drop (m - n) (drop n ds) t in
    by_bool (all_digits ds) (λ t. rw (digits_take m ds t, digits_drop n ds t, t))
    (λ f.
    by_bool (all_digits (take m ds))
    (λ t.
    by_bool (all_digits (drop n ds)) (λ u. absurd (true≢false (sym (digits_split m ds ∙ rw (t, back u)) ∙ f))) (λ g. rw (t, g, f)))
    (λ g. rw (g, f)))

-- a field of sixteen or more, by parts of sixteen of all but its last byte, and by its last sixteen
pub by_sixteen : (ds last : List ℕ) (parts : List (List ℕ)) (all ends : Bool) → 16 ≤ length ds → parts ≡ first_chunks 16 (length (take (length ds - 1) ds) / 16) (take (length ds - 1) ds) → last ≡ drop (length ds - 16) ds → all ≡ list_all all_digits parts → ends ≡ all_digits last → (all && ends) ≡ all_digits ds
by_sixteen ds last parts all ends long p l a e =
    let n = length ds - 1 in
    let s : length (take n ds) ≡ n = length-take-le n ds (omega arith) in
    let m = length (take n ds) / 16 * 16 in
    let in_front : m ≤ n = omega arith in
    let past : length ds - 16 ≤ m = omega arith in
    rw (a, e, p, l, parts_digits 16 (length (take n ds) / 16) (take n ds), take-take m n ds in_front) (ends_digits ds m (length ds - 16) past)
