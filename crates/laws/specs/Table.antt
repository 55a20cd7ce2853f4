-- A test at every entry of a table, for the prover to compute. Assumes nothing.
use Rattle.std.specs.Prelude.{Bool, true, false, ◌&&◌, List, [], ◌∷◌, ℕ, suc}

-- the test passes at each entry and its place, counted from i
abbrev pub every : {A : Type 0} → (ℕ → A → Bool) → ℕ → List A → Bool
every test i [] = true
every test i (x ∷ xs) = test i x && every test (suc i) xs

-- two truth values agree
abbrev pub agree : Bool → Bool → Bool
agree true b = b
agree false true = false
agree false false = true
