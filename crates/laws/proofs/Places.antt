-- What stands at a place after bytes were laid over a list. Assumes nothing.
use mathlib.Core.Path.{◌≡◌, ap, ◌∙◌, sym}
use mathlib.Core.Logic.{◌⊎◌, inl, inr, ⊎_elim}
use mathlib.Core.List.{List, ◌++◌}
use Prim.Native.Nat.{ℕ, ◌+◌, ◌-◌, ◌≤◌, ◌<◌}
use native.Mathlib.Omega.{arith}
use lib.ListN.{length, take, drop, get_or, replicate, length-append, length-drop, length-replicate, get_or-append}
use lib.Seq.{ext_get_or, length-take-le, get_or-take, get_or-drop, get_or-append-add}
use Rattle.laws.specs.Bytes.{put, filled, Apart}
use Rattle.laws.proofs.Bytes.{put-length}
use Rattle.laws.proofs.Split.{by_lt}

-- behind a list, places count from its end on
get_d_behind : (xs ys : List ℕ) (i : ℕ) → length xs ≤ i → get_or (xs ++ ys) i 0 ≡ get_or ys (i - length xs) 0
get_d_behind xs ys i h =
    let e : i ≡ length xs + (i - length xs) = omega arith in
    ap (λ (k : ℕ). get_or (xs ++ ys) k 0) e ∙ get_or-append-add xs ys (i - length xs) 0

module _ (at : ℕ) (xs m : List ℕ) (h : at + length xs ≤ length m) where
  front : length (take at m) ≡ at
  front = length-take-le at m (let k : at ≤ length m = omega arith in k)

  both : length (take at m ++ xs) ≡ at + length xs
  both = length-append (take at m) xs ∙ ap (λ (k : ℕ). k + length xs) front

  pub put-before : (i : ℕ) → i < at → get_or (put at xs m) i 0 ≡ get_or m i 0
  unfolding put
  put-before i l =
      let a : i < length (take at m) = rw front l in
      let b : i < length (take at m ++ xs) = rw both (omega arith) in
      get_or-append (take at m ++ xs) (drop (at + length xs) m) 0 i b ∙ get_or-append (take at m) xs 0 i a ∙ get_or-take at m i 0 l

  pub put_in : (i : ℕ) → at ≤ i → i < at + length xs → get_or (put at xs m) i 0 ≡ get_or xs (i - at) 0
  unfolding put
  put_in i l u =
      let a : length (take at m) ≤ i = rw front l in
      let b : i < length (take at m ++ xs) = rw both u in
      get_or-append (take at m ++ xs) (drop (at + length xs) m) 0 i b
      ∙ get_d_behind (take at m) xs i a
      ∙ ap (λ (k : ℕ). get_or xs (i - k) 0) front

  pub put-after : (i : ℕ) → at + length xs ≤ i → get_or (put at xs m) i 0 ≡ get_or m i 0
  unfolding put
  put-after i l =
      let b : length (take at m ++ xs) ≤ i = rw both l in
      let e : at + length xs + (i - (at + length xs)) ≡ i = omega arith in
      get_d_behind (take at m ++ xs) (drop (at + length xs) m) i b
      ∙ ap (λ (k : ℕ). get_or (drop (at + length xs) m) (i - k) 0) both
      ∙ get_or-drop (at + length xs) m (i - (at + length xs)) 0
      ∙ ap (λ (k : ℕ). get_or m k 0) e

-- outside `count` places from `from` on
abbrev pub Outside : ℕ → ℕ → ℕ → Type 0
Outside from count i = (i < from) ⊎ (from + count ≤ i)

pub put_outside : (at : ℕ) (xs m : List ℕ) (i : ℕ) → at + length xs ≤ length m → Outside at (length xs) i → get_or (put at xs m) i 0 ≡ get_or m i 0
put_outside at xs m i h o = ⊎_elim (λ b. put-before at xs m h i b) (λ a. put-after at xs m h i a) o

pub filled_outside : (from count v : ℕ) (m : List ℕ) (i : ℕ) → from + count ≤ length m → Outside from count i → get_or (filled from count v m) i 0 ≡ get_or m i 0
unfolding filled
filled_outside from count v m i h o =
    let l : length (replicate count v) ≡ count = length-replicate {A = ℕ} count v in
    let room : from + length (replicate count v) ≤ length m = omega arith in
    put_outside from (replicate count v) m i room (rw l o)

-- what lies within some places is apart from what they are apart from
pub apart_within : (from count at size other others : ℕ) → from ≤ at → at + size ≤ from + count → Apart from count other others → Apart at size other others
apart_within from count at size other others a b o =
    ⊎_elim (λ h. let z : at + size ≤ other = omega arith in inl z) (λ h. let z : other + others ≤ at = omega arith in inr z) o

pub apart_swapped : (from count other others : ℕ) → Apart from count other others → Apart other others from count
apart_swapped from count other others o = ⊎_elim (λ a. inr a) (λ a. inl a) o

-- a place is among some, or outside them
pub among : {C : Type 0} (from count i : ℕ) → (from ≤ i → i < from + count → C) → (Outside from count i → C) → C
among from count i inside outside =
    by_lt i from (λ a. outside (inl a)) (λ a. by_lt i (from + count) (λ b. inside a b) (λ b. outside (inr b)))

-- `count` bytes of a list from place `from` on
module _ (from count : ℕ) (m : List ℕ) (h : from + count ≤ length m) where
  pub part_length : length (take count (drop from m)) ≡ count
  part_length = length-take-le count (drop from m) (let k : count ≤ length (drop from m) = rw length-drop (omega arith) in k)

  pub part_at : (i : ℕ) → i < count → get_or (take count (drop from m)) i 0 ≡ get_or m (from + i) 0
  part_at i b = get_or-take count (drop from m) i 0 b ∙ get_or-drop from m i 0

-- bytes laid into such a part, and elsewhere
module _ (from count at : ℕ) (xs m : List ℕ) (h : from + count ≤ length m) where
  pub part_put_in : at + length xs ≤ count → take count (drop from (put (from + at) xs m)) ≡ put at xs (take count (drop from m))
  part_put_in inside =
      let room : from + at + length xs ≤ length m = omega arith in
      let size = put-length (from + at) xs m room in
      let h' : from + count ≤ length (put (from + at) xs m) = omega arith in
      let part = part_length from count m h in
      let fits : at + length xs ≤ length (take count (drop from m)) = omega arith in
      ext_get_or 0 _ _ (part_length from count (put (from + at) xs m) h' ∙ sym (put-length at xs (take count (drop from m)) fits ∙ part))
      (λ i l.
      let b : i < count = omega (arith, part_length from count (put (from + at) xs m) h') in
      part_at from count (put (from + at) xs m) h' i b
      ∙ among at (length xs) i
      (λ p q.
      let back : from + i - (from + at) ≡ i - at = omega arith in
      put_in (from + at) xs m room (from + i) (omega arith) (omega arith) ∙ ap (λ (k : ℕ). get_or xs k 0) back ∙ sym (put_in at xs (take count (drop from m)) fits i p q))
      (λ o.
      let o' : Outside (from + at) (length xs) (from + i) = ⊎_elim (λ x. let z : from + i < from + at = omega arith in inl z) (λ x. let z : from + at + length xs ≤ from + i = omega arith in inr z) o in
      put_outside (from + at) xs m (from + i) room o' ∙ sym (put_outside at xs (take count (drop from m)) i fits o ∙ part_at from count m h i b)))

  pub part_put_out : at + length xs ≤ length m → Apart at (length xs) from count → take count (drop from (put at xs m)) ≡ take count (drop from m)
  part_put_out room apart =
      let size = put-length at xs m room in
      let h' : from + count ≤ length (put at xs m) = omega arith in
      ext_get_or 0 _ _ (part_length from count (put at xs m) h' ∙ sym (part_length from count m h))
      (λ i l.
      let b : i < count = omega (arith, part_length from count (put at xs m) h') in
      let o : Outside at (length xs) (from + i) = ⊎_elim (λ x. let z : at + length xs ≤ from + i = omega arith in inr z) (λ x. let z : from + i < at = omega arith in inl z) apart in
      part_at from count (put at xs m) h' i b ∙ put_outside at xs m (from + i) room o ∙ sym (part_at from count m h i b))
