-- Laws of `fits_of` and `data_length`: what follows where a request fits. Assumes nothing.
use mathlib.Core.Path.{◌≡◌}
use mathlib.Core.Bool.{true}
use mathlib.Core.List.{List}
use Prim.Native.Nat.{ℕ, ◌+◌, ◌≤◌}
use native.Mathlib.Omega.{arith}
use native.Mathlib.Nat.{le_refl}
use lib.Dec.{eqb, leb, ltb}
use lib.ListN.{length}
use borrow.Author.Tests.{leb-true, eqb-true}
use Rattle.laws.proofs.Split.{by_bool, and_true}
use Rattle.request.specs.declared.Setup.{Setup}
use Rattle.request.specs.Setup.{setup_of, data_length, fits_of}

-- a request that fits has its setup, and the data that this asks for
pub fits_eight : (q : List ℕ) → fits_of q ≡ true → 8 ≤ length q
unfolding fits_of
fits_eight q e = leb-true _ _ (and_true (leb 8 (length q)) (eqb (length q) (8 + data_length (setup_of q))) e).0

pub fits_data : (q : List ℕ) → fits_of q ≡ true → length q ≡ 8 + data_length (setup_of q)
unfolding fits_of
fits_data q e = eqb-true _ _ (and_true (leb 8 (length q)) (eqb (length q) (8 + data_length (setup_of q))) e).1

pub data_at_most : (s : Setup) → data_length s ≤ s.length
unfolding data_length
data_at_most s = by_bool (ltb s.kind 128) (λ e. rw e (le_refl _)) (λ e. rw e (omega arith))
