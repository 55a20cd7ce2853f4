-- Laws of a field in capitals, which spells what the field spells, and of a part of a list in capitals. Assumes nothing.
use mathlib.Core.Path.{◌≡◌, refl, ap, ap₂, ◌∙◌, sym}
use mathlib.Core.Bool.{◌&&◌}
use mathlib.Core.Logic.{◌⊎◌, ⊎_elim}
use mathlib.Core.List.{List, [], ◌∷◌, ◌++◌, append_assoc}
use Prim.Native.Nat.{ℕ, zero, suc, ◌+◌, ◌-◌, ◌≤◌, ◌<◌}
use native.Mathlib.Omega.{arith}
use lib.Dec.{ltb}
use lib.ListN.{length, take, drop, get_or, length-drop, drop_of_length-le}
use lib.Seq.{take-nil, take_at, drop_at, get_or-take, get_or-drop}
use Rattle.laws.specs.Bytes.{put}
use Rattle.laws.proofs.Bytes.{put_own, put_seam, take_at_most, take_within}
use Rattle.laws.proofs.Places.{put-before, put_in, put-after}
use Rattle.laws.proofs.Split.{by_lt}
use Rattle.digit.specs.Digit.{capital_of}
use Rattle.digit.proofs.Values.{value_of_capital, capital_below, capital_of_capital, capital_digit, byte_of_capitals}
use Rattle.hexfield.specs.Hex.{all_digits, capitals, capital_part, bytes_of, hex_of}

pub capitals-length : (ds : List ℕ) → length (capitals ds) ≡ length ds
unfolding capitals
capitals-length [] = refl
capitals-length (d ∷ ds) = ap suc (capitals-length ds)

capitals_at : (ds : List ℕ) (i : ℕ) → get_or (capitals ds) i 0 ≡ capital_of (get_or ds i 0)
unfolding capitals
capitals_at [] i = sym (capital_below 0 (omega arith))
capitals_at (d ∷ ds) zero = refl
capitals_at (d ∷ ds) (suc i) = capitals_at ds i

capitals-take : (n : ℕ) (ds : List ℕ) → capitals (take n ds) ≡ take n (capitals ds)
unfolding capitals
capitals-take zero ds = refl
capitals-take (suc n) [] = refl
capitals-take (suc n) (d ∷ ds) = ap (λ (l : List ℕ). capital_of d ∷ l) (capitals-take n ds)

capitals-drop : (n : ℕ) (ds : List ℕ) → capitals (drop n ds) ≡ drop n (capitals ds)
unfolding capitals
capitals-drop zero ds = refl
capitals-drop (suc n) [] = refl
capitals-drop (suc n) (d ∷ ds) = capitals-drop n ds

pub capitals-append : (xs ys : List ℕ) → capitals (xs ++ ys) ≡ capitals xs ++ capitals ys
unfolding capitals
capitals-append [] ys = refl
capitals-append (x ∷ xs) ys = ap (λ (l : List ℕ). capital_of x ∷ l) (capitals-append xs ys)

-- a field is one of digits where its capitals are, and they spell its bytes
pub digits_of_capitals : (ds : List ℕ) → all_digits (capitals ds) ≡ all_digits ds
unfolding capitals all_digits
digits_of_capitals [] = refl
digits_of_capitals (d ∷ ds) = ap₂ ◌&&◌ (ap (λ (v : ℕ). ltb v 16) (value_of_capital d)) (digits_of_capitals ds)

bytes_of_capitals : (ds : List ℕ) → bytes_of (capitals ds) ≡ bytes_of ds
unfolding capitals bytes_of
bytes_of_capitals [] = refl
bytes_of_capitals (d ∷ []) = refl
bytes_of_capitals (d ∷ e ∷ ds) = ap₂ ◌∷◌ (byte_of_capitals d e) (bytes_of_capitals ds)

-- what is in capitals stays, and so does what is written
capitals_of_capitals : (ds : List ℕ) → capitals (capitals ds) ≡ capitals ds
unfolding capitals
capitals_of_capitals [] = refl
capitals_of_capitals (d ∷ ds) = ap₂ ◌∷◌ (capital_of_capital d) (capitals_of_capitals ds)

pub capitals_hex : (xs : List ℕ) → capitals (hex_of xs) ≡ hex_of xs
unfolding capitals hex_of
capitals_hex [] = refl
capitals_hex (x ∷ xs) = rw (capital_digit _, capital_digit x, capitals_hex xs)

-- lists with the same capitals spell the same by the same places
pub same_bytes : (l m : List ℕ) (at n : ℕ) → capitals l ≡ capitals m → bytes_of (take n (drop at l)) ≡ bytes_of (take n (drop at m))
same_bytes l m at n e =
    let c : (k : List ℕ) → capitals (take n (drop at k)) ≡ take n (drop at (capitals k)) = λ k. capitals-take n (drop at k) ∙ ap (take n) (capitals-drop at k) in
    sym (bytes_of_capitals (take n (drop at l)))
    ∙ ap bytes_of (c l ∙ ap (λ (k : List ℕ). take n (drop at k)) e ∙ sym (c m))
    ∙ bytes_of_capitals (take n (drop at m))

-- a part of a list in capitals: the list's capitals and its length stay
module _ (at n : ℕ) (l : List ℕ) where
  abbrev part : List ℕ
  part = take n (drop at l)

  pub part_capitals : capitals (capital_part at n l) ≡ capitals l
  unfolding capital_part put
  part_capitals =
      capitals-append (take at l ++ capitals part) (drop (at + length (capitals part)) l)
      ∙ ap₂ ◌++◌
      (capitals-append (take at l) (capitals part) ∙ ap (λ (x : List ℕ). capitals (take at l) ++ x) (capitals_of_capitals part) ∙ sym (capitals-append (take at l) part))
      (ap (λ (k : ℕ). capitals (drop (at + k) l)) (capitals-length part))
      ∙ sym (capitals-append (take at l ++ part) (drop (at + length part) l))
      ∙ ap capitals (put_own at n l)

  pub part_same_length : length (capital_part at n l) ≡ length l
  part_same_length = sym (capitals-length (capital_part at n l)) ∙ ap length part_capitals ∙ capitals-length l

  short : length (capitals part) ≤ n
  short = rw (capitals-length part) (take_at_most n (drop at l))

  room : at < length l → at + length (capitals part) ≤ length l
  room h =
      let d : length (drop at l) ≡ length l - at = length-drop at l in
      let k : length part ≤ length (drop at l) = take_within n (drop at l) in
      let c = capitals-length part in
      omega arith

  -- past the end of the list there is no part
  no_part : length l ≤ at → capital_part at n l ≡ l
  unfolding capital_part capitals
  no_part h =
      let e : part ≡ [] = ap (take n) (drop_of_length-le l h) ∙ take-nil n in
      ap (λ (x : List ℕ). put at (capitals x) l) e ∙ ap (λ (x : List ℕ). put at x l) (sym e) ∙ put_own at n l

  -- a byte of the part becomes its capital, and any other stays
  pub part_inside : (i : ℕ) → at ≤ i → i < at + n → i < length l → get_or (capital_part at n l) i 0 ≡ capital_of (get_or l i 0)
  unfolding capital_part
  part_inside i a b h =
      let r : at + length (capitals part) ≤ length l = room (omega arith) in
      let d : length (drop at l) ≡ length l - at = length-drop at l in
      let k : i - at < n = omega arith in
      let e : at + (i - at) ≡ i = omega arith in
      let u : i < at + length (capitals part) = let c = capitals-length part in let m = reaches n (drop at l) (i - at) k (omega arith) in omega arith in
      put_in at (capitals part) l r i a u
      ∙ capitals_at part (i - at)
      ∙ ap capital_of (get_or-take n (drop at l) (i - at) 0 k ∙ get_or-drop at l (i - at) 0 ∙ ap (λ (j : ℕ). get_or l j 0) e)
    where
      reaches : (n : ℕ) (l : List ℕ) (i : ℕ) → i < n → i < length l → i < length (take n l)
      reaches zero l i k h = absurd (omega arith)
      reaches (suc n) [] i k h = absurd (omega arith)
      reaches (suc n) (x ∷ l) zero k h = omega arith
      reaches (suc n) (x ∷ l) (suc i) k h = let m = reaches n l i (omega arith) (omega arith) in omega arith

  laid : (i : ℕ) → at + length (capitals part) ≤ length l → (i < at) ⊎ (at + n ≤ i) → get_or (capital_part at n l) i 0 ≡ get_or l i 0
  unfolding capital_part
  laid i r = ⊎_elim (put-before at (capitals part) l r i) (λ b. put-after at (capitals part) l r i (let s = short in omega arith))

  pub part_outside : (i : ℕ) → (i < at) ⊎ (at + n ≤ i) → get_or (capital_part at n l) i 0 ≡ get_or l i 0
  part_outside i out = by_lt at (length l) (λ h. laid i (room h) out) (λ h. ap (λ (x : List ℕ). get_or x i 0) (no_part h))

-- a part by what stands in front of it and behind it
pub part_between : (a x b : List ℕ) (at n : ℕ) → length a ≡ at → length x ≡ n → capital_part at n (a ++ (x ++ b)) ≡ a ++ (capitals x ++ b)
unfolding capital_part
part_between a x b at n e f =
    let l = a ++ (x ++ b) in
    ap (λ (y : List ℕ). put at (capitals (take n y)) l) (drop_at a (x ++ b) at e)
    ∙ ap (λ (y : List ℕ). put at (capitals y) l) (take_at x b n f)
    ∙ ap (λ (k : ℕ). put k (capitals x) l) (sym e)
    ∙ put_seam a (capitals x) (x ++ b)
    ∙ append_assoc a (capitals x) (drop (length (capitals x)) (x ++ b))
    ∙ ap (λ (y : List ℕ). a ++ (capitals x ++ y)) (drop_at x b (length (capitals x)) (sym (capitals-length x)))
