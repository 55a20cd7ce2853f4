-- Laws of `said_of`: what is left by the ways that `say` takes, by the words that are written over it, and by words behind words. Assumes nothing.
use mathlib.Core.Path.{◌≡◌, refl, ap, ap₂, ◌∙◌, sym}
use mathlib.Core.List.{List, [], ◌++◌, append-nil}
use Prim.Native.Nat.{ℕ, ◌+◌, ◌-◌, ◌≤◌, ◌<◌, min}
use native.Mathlib.Nat.{add-zero, le_refl}
use native.Mathlib.Omega.{arith}
use lib.ListN.{length, take, take-append-drop, length-append, length-take}
use lib.Seq.{take_all, length-take-le, take-append-le, take-append-add}
use Rattle.laws.specs.Bytes.{put}
use Rattle.laws.proofs.Bytes.{put-length, take_at_most}
use Rattle.laws.proofs.Append.{put_behind}
use Rattle.laws.proofs.Split.{by_lt}
use Rattle.append.specs.Said.{Said, left, said_of}

-- ys are as many of xs as there is room for
said_as : (xs ys out o : List ℕ) (at n : ℕ) → take (length out - at) xs ≡ ys → n ≡ at + length ys → o ≡ put at ys out → left n o ≡ said_of xs out at
unfolding said_of
said_as xs ys out o at n t p e = rw t (ap₂ left p e)

put_nothing : (out : List ℕ) (at : ℕ) → out ≡ put at [] out
unfolding put
put_nothing out at = rw (append-nil (take at out), add-zero at) (sym (take-append-drop at out))

take_none : (n : ℕ) (xs : List ℕ) → n ≡ 0 → take n xs ≡ []
take_none n xs e = rw e

-- no words leave all as it was
pub said_nothing : (out : List ℕ) (at : ℕ) → left at out ≡ said_of [] out at
said_nothing out at =
    let h : 0 ≤ length out - at = omega arith in
    said_as [] [] out out at at (take_all (length out - at) [] h) (sym (add-zero at)) (put_nothing out at)

-- where the place is past the end, nothing is written
pub said_none : (xs out : List ℕ) (at : ℕ) → length out ≤ at → left at out ≡ said_of xs out at
said_none xs out at h =
    let e : length out - at ≡ 0 = omega arith in
    said_as xs [] out out at at (take_none (length out - at) xs e) (sym (add-zero at)) (put_nothing out at)

pub said_all : (xs out o : List ℕ) (at : ℕ) → length xs ≤ length out - at → o ≡ put at xs out → left (at + length xs) o ≡ said_of xs out at
said_all xs out o at h e = said_as xs xs out o at (at + length xs) (take_all (length out - at) xs h) refl e

-- n of the words are written, as many as there is room for
pub said_fit : (xs out o : List ℕ) (at n : ℕ) → n ≡ min (length xs) (length out - at) → o ≡ put at (take n xs) out → left (at + n) o ≡ said_of xs out at
said_fit xs out o at n e p =
    let t : take (length out - at) xs ≡ take n xs = by_lt (length out - at) (length xs) (λ h. let k : length out - at ≡ n = omega arith in rw k) (λ h. let k : n ≡ length xs = omega arith in rw (k, take_all (length out - at) xs h, take_all (length xs) xs (le_refl (length xs)))) in
    let l : n ≡ length (take n xs) = rw length-take (omega arith) in
    said_as xs (take n xs) out o at (at + n) t (ap (λ (k : ℕ). at + k) l) p

-- what says some words says words that are the same
pub same_said : {s : Said} (xs ys out : List ℕ) (at : ℕ) → xs ≡ ys → s ≡ said_of xs out at → s ≡ said_of ys out at
same_said xs ys out at e h = h ∙ ap (λ (l : List ℕ). said_of l out at) e

-- words behind words: there is no room for any, none for all of xs, or room for xs and as much of ys as fits
behind_none : (xs ys out : List ℕ) (at : ℕ) → length out ≤ at → said_of ys (said_of xs out at).out (said_of xs out at).place ≡ said_of (xs ++ ys) out at
behind_none xs ys out at h = ap (λ (s : Said). said_of ys s.out s.place) (sym (said_none xs out at h)) ∙ sym (said_none ys out at h) ∙ said_none (xs ++ ys) out at h

behind_part : (xs ys out : List ℕ) (at : ℕ) → at < length out → length out - at < length xs → said_of ys (said_of xs out at).out (said_of xs out at).place ≡ said_of (xs ++ ys) out at
behind_part xs ys out at h s =
    let g : length out - at ≤ length xs = omega arith in
    let k : length (take (length out - at) xs) ≡ length out - at = length-take-le (length out - at) xs g in
    let r : at + length (take (length out - at) xs) ≤ length out = omega arith in
    let o : List ℕ = put at (take (length out - at) xs) out in
    let l : length o ≡ length out = put-length at (take (length out - at) xs) out r in
    let n : length out ≡ at + length (take (length out - at) xs) = omega arith in
    let e : left (length out) o ≡ said_of xs out at = said_as xs (take (length out - at) xs) out o at (length out) refl n refl in
    let full : length o ≤ length out = omega arith in
    ap (λ (w : Said). said_of ys w.out w.place) (sym e)
    ∙ sym (said_none ys o (length out) full)
    ∙ said_as (xs ++ ys) (take (length out - at) xs) out o at (length out) (take-append-le (length out - at) xs ys g) n refl

behind_all : (xs ys out : List ℕ) (at : ℕ) → at < length out → length xs ≤ length out - at → said_of ys (said_of xs out at).out (said_of xs out at).place ≡ said_of (xs ++ ys) out at
behind_all xs ys out at h f =
    let o : List ℕ = put at xs out in
    let p : ℕ = at + length xs in
    let r : at + length xs ≤ length out = omega arith in
    let l : length o ≡ length out = put-length at xs out r in
    let n : ℕ = length out - p in
    let e : left p o ≡ said_of xs out at = said_all xs out o at f refl in
    let room : length out - at ≡ length xs + n = omega arith in
    let t : take (length out - at) (xs ++ ys) ≡ xs ++ take n ys = ap (λ (k : ℕ). take k (xs ++ ys)) room ∙ take-append-add xs ys n in
    let m : length (take n ys) ≤ n = take_at_most n ys in
    let b : put p (take n ys) o ≡ put at (xs ++ take n ys) out = put_behind at p xs (take n ys) out refl (omega arith) in
    let q : p + length (take n ys) ≡ at + length (xs ++ take n ys) = rw (length-append xs (take n ys)) (omega arith) in
    ap (λ (w : Said). said_of ys w.out w.place) (sym e)
    ∙ sym (said_as ys (take n ys) o (put p (take n ys) o) p (p + length (take n ys)) (ap (λ (k : ℕ). take (k - p) ys) l) refl refl)
    ∙ said_as (xs ++ ys) (xs ++ take n ys) out (put p (take n ys) o) at (p + length (take n ys)) t q b

pub said_behind : (xs ys out o : List ℕ) (at p : ℕ) (s : Said) → left p o ≡ said_of xs out at → s ≡ said_of ys o p → s ≡ said_of (xs ++ ys) out at
said_behind xs ys out o at p s first then =
    then
    ∙ ap (λ (w : Said). said_of ys w.out w.place) first
    ∙ by_lt at (length out)
    (λ h. by_lt (length out - at) (length xs) (λ k. behind_part xs ys out at h k) (λ k. behind_all xs ys out at h k))
    (λ h. behind_none xs ys out at h)
