-- Laws of a field that is read eight bytes at a time. Assumes nothing.
use mathlib.Core.Path.{◌≡◌, refl, ap, ap₂, ◌∙◌, sym}
use mathlib.Core.Bool.{true}
use mathlib.Core.List.{List, [], ◌∷◌, ◌++◌, append_assoc}
use Prim.Native.Nat.{ℕ, zero, suc, ◌+◌, ◌-◌, ◌*◌, ◌/◌, ◌≤◌, ◌<◌}
use native.Mathlib.Omega.{arith}
use lib.ListN.{length, take, drop, get_or, take-append-drop, length-drop, drop_of_length-le}
use lib.Seq.{length-take-le, take_at, drop_at, drop-append-add, drop-drop, take-add, take_all, drop-cons}
use Rattle.laws.specs.Bytes.{put}
use Rattle.laws.proofs.Bytes.{sets-put, put-length}
use Rattle.laws.proofs.Append.{put_behind}
use Rattle.digit.specs.Digit.{byte_of}
use Rattle.hexfield.specs.Hex.{all_digits, bytes_of}
use Rattle.hexfield.proofs.Parts.{length-first_chunks, part_at}
use Rattle.hexfield.proofs.Fields.{bytes-length, bytes_of_take, bytes_of_drop, byte_of_lem, digits_take, digits_drop}
use Rattle.std.specs.Simd.{first_chunks}
use Rattle.std.proofs.lemmas.List.{take-take, drop-take}

-- nothing laid, and bytes laid over no more bytes at the same place
pub put-none : (at : ℕ) (m : List ℕ) → at ≤ length m → m ≡ put at [] m
put-none at m h =
    let r : at + length {A = ℕ} [] ≤ length m = omega arith in
    sets-put [] m at r

put_twice : (j : ℕ) (zs ys m : List ℕ) → length zs ≤ length ys → j + length ys ≤ length m → put j ys (put j zs m) ≡ put j ys m
unfolding put
put_twice j zs ys m h room =
    let r = drop (j + length zs) m in
    let p = take j m ++ zs ++ r in
    let k = length ys - length zs in
    let l : length (take j m) ≡ j = length-take-le j m (omega arith) in
    let e : p ≡ take j m ++ (zs ++ r) = append_assoc (take j m) zs r in
    let front : take j p ≡ take j m = ap (take j) e ∙ take_at (take j m) (zs ++ r) j l in
    let a : length ys ≡ length zs + k = omega arith in
    let b : j + length zs + k ≡ j + length ys = omega arith in
    let back : drop (j + length ys) p ≡ drop (j + length ys) m =
    sym (drop-drop (length ys) j p)
    ∙ ap (drop (length ys)) (ap (drop j) e ∙ drop_at (take j m) (zs ++ r) j l)
    ∙ ap (λ (n : ℕ). drop n (zs ++ r)) a
    ∙ drop-append-add zs r k
    ∙ drop-drop k (j + length zs) m
    ∙ ap (λ (n : ℕ). drop n m) b in
    ap₂ (λ (x : List ℕ) (y : List ℕ). x ++ ys ++ y) front back

-- a part that reaches to the end is laid over what was laid before
pub put_over_part : (at last i : ℕ) (xs m : List ℕ) → last ≤ i → i ≤ length xs → at + length xs ≤ length m → put (at + last) (drop last xs) (put at (take i xs) m) ≡ put at xs m
put_over_part at last i xs m h k room =
    let n = i - last in
    let e : i ≡ last + n = omega arith in
    let f : take i xs ≡ take last xs ++ take n (drop last xs) = ap (λ (x : ℕ). take x xs) e ∙ take-add last n xs in
    let a : length (take last xs) ≡ last = length-take-le last xs (omega arith) in
    let d : length (drop last xs) ≡ length xs - last = length-drop last xs in
    let b : length (take n (drop last xs)) ≡ n = length-take-le n (drop last xs) (omega arith) in
    let j : at + last ≡ at + length (take last xs) = omega arith in
    let front : List ℕ = put at (take last xs) m in
    let g : length front ≡ length m = put-length at (take last xs) m (omega arith) in
    ap (λ (l : List ℕ). put (at + last) (drop last xs) (put at l m)) f
    ∙ ap (put (at + last) (drop last xs)) (sym (put_behind at (at + last) (take last xs) (take n (drop last xs)) m j (omega arith)))
    ∙ put_twice (at + last) (take n (drop last xs)) (drop last xs) front (omega arith) (omega arith)
    ∙ put_behind at (at + last) (take last xs) (drop last xs) m j (omega arith)
    ∙ ap (λ (l : List ℕ). put at l m) (take-append-drop last xs)

-- n bytes laid behind those that were laid before
pub put_next : (at j n k : ℕ) (xs bytes m m₀ : List ℕ) → k ≡ j + n → k ≤ length xs → at + length xs ≤ length m₀ → bytes ≡ take n (drop j xs) → m ≡ put at (take j xs) m₀ → put (at + j) bytes m ≡ put at (take k xs) m₀
put_next at j n k xs bytes m m₀ next fit room is inv =
    let a : length (take j xs) ≡ j = length-take-le j xs (omega arith) in
    let d : length (drop j xs) ≡ length xs - j = length-drop j xs in
    let b : length (take n (drop j xs)) ≡ n = length-take-le n (drop j xs) (omega arith) in
    let e : at + j ≡ at + length (take j xs) = omega arith in
    ap₂ (put (at + j)) is inv
    ∙ put_behind at (at + j) (take j xs) (take n (drop j xs)) m₀ e (omega arith)
    ∙ ap (λ (l : List ℕ). put at l m₀) (sym (take-add j n xs) ∙ ap (λ (i : ℕ). take i xs) (sym next))

-- sixteen digits of a field, and the eight bytes that they spell
module _ (ds : List ℕ) (parts : List (List ℕ)) (i n : ℕ) (p : parts ≡ first_chunks 16 (length (take n ds) / 16) (take n ds)) (long : n ≤ length ds) (more : i < length parts) where
  sixteen_fit : i * 16 + 16 ≤ n
  sixteen_fit =
      let l : length (take n ds) ≡ n = length-take-le n ds long in
      let k = length (take n ds) / 16 in
      omega (arith, ap length p, length-first_chunks 16 k (take n ds))

  sixteen_at : get_or parts i [] ≡ take 16 (drop (i * 8 * 2) ds)
  sixteen_at =
      let k = length (take n ds) / 16 in
      let h : i < k = omega (arith, ap length p, length-first_chunks 16 k (take n ds)) in
      let m = n - i * 16 in
      let fit = sixteen_fit in
      let e : n ≡ i * 16 + m = omega arith in
      let f : 16 ≤ m = omega arith in
      let g : i * 16 ≡ i * 8 * 2 = omega arith in
      ap (λ (l : List (List ℕ)). get_or l i []) p
      ∙ part_at 16 k i (take n ds) h
      ∙ ap (λ (x : ℕ). take 16 (drop (i * 16) (take x ds))) e
      ∙ ap (take 16) (drop-take (i * 16) m ds)
      ∙ take-take 16 m (drop (i * 16) ds) f
      ∙ ap (λ (x : ℕ). take 16 (drop x ds)) g

  pub sixteen_digits : all_digits ds ≡ true → all_digits (get_or parts i []) ≡ true
  sixteen_digits h = ap all_digits sixteen_at ∙ digits_take 16 (drop (i * 8 * 2) ds) (digits_drop (i * 8 * 2) ds h)

  pub sixteen_bytes : (i * 8 + 8 ≤ n / 2) × (bytes_of (get_or parts i []) ≡ take 8 (drop (i * 8) (bytes_of ds)))
  sixteen_bytes =
      let fit = sixteen_fit in
      (omega arith, ap bytes_of sixteen_at ∙ bytes_of_take 8 (drop (i * 8 * 2) ds) ∙ ap (take 8) (bytes_of_drop (i * 8) ds))

-- the last eight bytes, by the last sixteen digits of whole pairs
module _ (ds last : List ℕ) (is : last ≡ drop (length (take (length ds / 2 * 2) ds) - 16) (take (length ds / 2 * 2) ds)) where
  pub last_digits : all_digits ds ≡ true → all_digits last ≡ true
  last_digits h = ap all_digits is ∙ digits_drop _ _ (digits_take (length ds / 2 * 2) ds h)

  pub last_bytes : bytes_of last ≡ drop (length ds / 2 - 8) (bytes_of ds)
  last_bytes =
      let k = length ds / 2 in
      let l : length (take (k * 2) ds) ≡ k * 2 = length-take-le (k * 2) ds (omega arith) in
      let e : length (take (k * 2) ds) - 16 ≡ (k - 8) * 2 = omega arith in
      let b : length (bytes_of ds) ≤ k = omega (arith, bytes-length ds) in
      ap bytes_of (is ∙ rw e) ∙ bytes_of_drop (k - 8) (take (k * 2) ds) ∙ ap (drop (k - 8)) (bytes_of_take k ds ∙ take_all k (bytes_of ds) b)

listed : ℕ → ℕ → List ℕ → List ℕ
listed zero i xs = []
listed (suc n) i xs = get_or xs i 0 ∷ listed n (suc i) xs

listed_is : (n i : ℕ) (xs : List ℕ) → i + n ≡ length xs → listed n i xs ≡ drop i xs
unfolding listed
listed_is zero i xs e = sym (drop_of_length-le xs (let h : length xs ≤ i = omega arith in h))
listed_is (suc n) i xs e =
    let h : i < length xs = omega arith in
    let f : suc i + n ≡ length xs = omega arith in
    ap (λ (l : List ℕ). get_or xs i 0 ∷ l) (listed_is n (suc i) xs f) ∙ sym (drop-cons xs i 0 h)

module _ (ds : List ℕ) (is : length ds ≡ 16) where
  byte-here : (i x : ℕ) → i < 8 → x ≡ byte_of (get_or ds (i * 2) 0) (get_or ds (i * 2 + 1) 0) → x ≡ get_or (bytes_of ds) i 0
  byte-here i x k e =
      let h : i < length ds / 2 = omega arith in
      e ∙ byte_of_lem ds i h

  module _ (s t u v w x y z : ℕ) where
    pub eight_listed : s ≡ byte_of (get_or ds 0 0) (get_or ds 1 0) → t ≡ byte_of (get_or ds 2 0) (get_or ds 3 0) → u ≡ byte_of (get_or ds 4 0) (get_or ds 5 0) → v ≡ byte_of (get_or ds 6 0) (get_or ds 7 0) → w ≡ byte_of (get_or ds 8 0) (get_or ds 9 0) → x ≡ byte_of (get_or ds 10 0) (get_or ds 11 0) → y ≡ byte_of (get_or ds 12 0) (get_or ds 13 0) → z ≡ byte_of (get_or ds 14 0) (get_or ds 15 0) → s ∷ t ∷ u ∷ v ∷ w ∷ x ∷ y ∷ z ∷ [] ≡ bytes_of ds
    unfolding listed
    eight_listed a b c d e f g h =
        let n : 0 + 8 ≡ length (bytes_of ds) = let k = bytes-length ds in omega arith in
        ap₂ ◌∷◌ (byte-here 0 s (omega arith) a)
        (ap₂ ◌∷◌ (byte-here 1 t (omega arith) b)
        (ap₂ ◌∷◌ (byte-here 2 u (omega arith) c)
        (ap₂ ◌∷◌ (byte-here 3 v (omega arith) d)
        (ap₂ ◌∷◌ (byte-here 4 w (omega arith) e)
        (ap₂ ◌∷◌ (byte-here 5 x (omega arith) f)
        (ap₂ ◌∷◌ (byte-here 6 y (omega arith) g)
        (ap₂ ◌∷◌ (byte-here 7 z (omega arith) h) refl)))))))
        ∙ listed_is 8 0 (bytes_of ds) n
