-- The setup that a field of 16 digits spells, from its two halves. Assumes nothing.
use mathlib.Core.Path.{◌≡◌, ap, ◌∙◌}
use mathlib.Core.List.{List, [], ◌∷◌}
use Prim.Native.Nat.{ℕ, ◌+◌, ◌/◌, ◌<◌}
use native.Mathlib.Omega.{arith}
use Rattle.std.specs.Simd.{first_chunks}
use lib.ListN.{length, take, drop, get_or}
use lib.Seq.{get_or-take, get_or-drop}
use Rattle.request.specs.Setup.{setup_of}
use Rattle.hexfield.specs.Hex.{bytes_of}
use Rattle.hexfield.proofs.Fields.{bytes_of_take, bytes_of_drop}

-- sixteen digits, cut into halves
pub two_halves : (ds : List ℕ) (parts : List (List ℕ)) → parts ≡ first_chunks 8 (length ds / 8) ds → length ds ≡ 16 → parts ≡ take 8 ds ∷ take 8 (drop 8 ds) ∷ []
two_halves ds parts e l = e ∙ ap (λ (n : ℕ). first_chunks 8 (n / 8) ds) l

-- the setup whose first bytes one half of the field spells, and the others the other half
pub setup_halves : (ds front back : List ℕ) → front ≡ bytes_of (take 8 ds) → back ≡ bytes_of (take 8 (drop 8 ds)) → setup_of (get_or front 0 0 ∷ get_or front 1 0 ∷ get_or front 2 0 ∷ get_or front 3 0 ∷ get_or back 0 0 ∷ get_or back 1 0 ∷ get_or back 2 0 ∷ get_or back 3 0 ∷ []) ≡ setup_of (bytes_of ds)
unfolding setup_of
setup_halves ds front back a b =
    let x = bytes_of ds in
    let f : (i : ℕ) → i < 4 → get_or front i 0 ≡ get_or x i 0 = λ i h. ap (λ (l : List ℕ). get_or l i 0) (a ∙ bytes_of_take 4 ds) ∙ get_or-take 4 x i 0 h in
    let g : (i : ℕ) → i < 4 → get_or back i 0 ≡ get_or x (4 + i) 0 =
    λ i h. ap (λ (l : List ℕ). get_or l i 0) (b ∙ bytes_of_take 4 (drop 8 ds) ∙ ap (take 4) (bytes_of_drop 4 ds)) ∙ get_or-take 4 (drop 4 x) i 0 h ∙ get_or-drop 4 x i 0 in
    rw (f 0 (omega arith), f 1 (omega arith), f 2 (omega arith), f 3 (omega arith), g 0 (omega arith), g 1 (omega arith), g 2 (omega arith), g 3 (omega arith))
