-- How a name ends, in letters of either case. Assumes nothing.
use mathlib.Core.Path.{◌≡◌, refl, ap, ◌∙◌, sym}
use mathlib.Core.Bool.{true, false}
use mathlib.Core.List.{List, [], ◌∷◌, map}
use Prim.Native.Nat.{ℕ, ◌-◌, ◌≤◌, ◌<◌}
use lib.ListN.{length, take, drop}
use borrow.Author.Tests.{lt-ltb, le-ltb}
use Rattle.std.specs.Char.{to_ascii_lowercase}
use Rattle.laws.specs.Lists.{same}
use Rattle.laws.proofs.Split.{by_bool}
use Rattle.laws.proofs.Bytes.{rest_is}
use Rattle.laws.proofs.Lists.{same_eq, same_refl}
use Rattle.hexname.specs.Name.{smalls, ends_in}

-- a name that is shorter than the ending does not end so
pub too_short : (e n : List ℕ) → length n < length e → ends_in e n ≡ false
unfolding ends_in
too_short e n h = rw (lt-ltb (length n) (length e) h)

-- the library's small letters are ours
smalls_are : (xs : List ℕ) → smalls xs ≡ map to_ascii_lowercase xs
unfolding smalls
smalls_are [] = refl
smalls_are (x ∷ xs) = rw (smalls_are xs)

-- the end of a name that is long enough, as the library compares it with an ending in small letters
module _ (e n : List ℕ) (small : smalls e ≡ e) (h : length e ≤ length n) where
  end : List ℕ
  end = take (length n - (length n - length e)) (drop (length n - length e) n)

  ends_same : ends_in e n ≡ same (smalls end) e
  unfolding ends_in end
  ends_same = rw (le-ltb (length n) (length e) h, rest_is (length n - length e) n)

  pub ends_so : map to_ascii_lowercase (take (length n - (length n - length e)) (drop (length n - length e) n)) ≡ map to_ascii_lowercase e → ends_in e n ≡ true
  unfolding end
  ends_so d = ends_same ∙ ap (λ (l : List ℕ). same l e) (smalls_are end ∙ d ∙ sym (smalls_are e) ∙ small) ∙ same_refl e

  pub ends_not : (map to_ascii_lowercase (take (length n - (length n - length e)) (drop (length n - length e) n)) ≡ map to_ascii_lowercase e → ⊥) → ends_in e n ≡ false
  unfolding end
  ends_not d =
      by_bool (ends_in e n)
      (λ t. absurd (d (sym (smalls_are end) ∙ same_eq (smalls end) e (sym ends_same ∙ t) ∙ sym small ∙ smalls_are e)))
      (λ t. t)
