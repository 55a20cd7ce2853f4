-- A turn of the loop over a template, and its end. Assumes nothing.
use mathlib.Core.Path.{◌≡◌, ap, ◌∙◌, sym}
use mathlib.Core.Bool.{cond}
use mathlib.Core.List.{List, [], ◌++◌}
use Prim.Native.Nat.{ℕ, ◌+◌, ◌-◌, ◌≤◌, ◌<◌}
use native.Mathlib.Numerals.{add-one}
use lib.Dec.{eqb}
use lib.ListN.{length, take, drop, get_or, drop_of_length-le}
use lib.Seq.{drop-cons}
use Rattle.laws.proofs.Bytes.{rest_is}
use Rattle.append.specs.Said.{left, said_of}
use Rattle.append.proofs.Said.{said_behind, said_nothing}
use Rattle.sentence.specs.Sentence.{first_text, spelled_of, takes_of, left_texts, part_of, picked_of, filled_of}

pub fill_end : (t ns ts out : List ℕ) (i part picked at : ℕ) → length t ≤ i → left at out ≡ said_of (filled_of (drop i t) part picked ns ts) out at
unfolding filled_of
fill_end t ns ts out i part picked at h = rw (drop_of_length-le t h) (said_nothing out at)

module _ (t ns ts : List ℕ) (i part picked : ℕ) (more : i < length t) where
  -- what the byte at place i says, and what is left
  one : List ℕ
  one = cond (eqb part picked) (spelled_of (get_or t i 0) (get_or ns 0 0) (first_text ts)) []

  rest : List ℕ
  rest = filled_of (drop (i + 1) t) (part_of (get_or t i 0) part) (picked_of (get_or t i 0) picked (get_or ns 0 0) (drop (i + 1) t)) (drop (takes_of (get_or t i 0)) ns) (left_texts (get_or t i 0) ts)

  here : filled_of (drop i t) part picked ns ts ≡ one ++ rest
  unfolding one rest filled_of
  here = rw (drop-cons t i 0 more, add-one i)

  -- the number n and the text x here, and what stands behind the turn
  module _ (n part' picked' : ℕ) (ns' ts' x : List ℕ)
      (en : n ≡ get_or ns 0 0) (ex : x ≡ first_text ts)
      (ep : part' ≡ part_of (get_or t i 0) part) (ek : picked' ≡ picked_of (get_or t i 0) picked n (take (length t - (i + 1)) (drop (i + 1) t)))
      (ea : ns' ≡ drop (takes_of (get_or t i 0)) ns) (et : ts' ≡ left_texts (get_or t i 0) ts) where
    one_is : cond (eqb part picked) (spelled_of (get_or t i 0) n x) [] ≡ one
    unfolding one
    one_is = rw (en, ex)

    rest-left : filled_of (drop (i + 1) t) part' picked' ns' ts' ≡ rest
    unfolding rest
    rest-left = rw (ep, ek, rest_is (i + 1) t, ea, et, en)

    pub fill_turn : (out o : List ℕ) (at p : ℕ) → left p o ≡ said_of (cond (eqb part picked) (spelled_of (get_or t i 0) n x) []) out at → said_of (filled_of (drop (i + 1) t) part' picked' ns' ts') o p ≡ said_of (filled_of (drop i t) part picked ns ts) out at
    fill_turn out o at p h =
        said_behind one rest out o at p (said_of (filled_of (drop (i + 1) t) part' picked' ns' ts') o p) (h ∙ ap (λ (l : List ℕ). said_of l out at) one_is) (ap (λ (l : List ℕ). said_of l o p) rest-left)
        ∙ ap (λ (l : List ℕ). said_of l out at) (sym here)
