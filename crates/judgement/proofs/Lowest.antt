-- Where the test holds nowhere, the lowest number is the one behind. Assumes nothing.
use mathlib.Core.Path.{◌≡◌, ◌∙◌, sym}
use mathlib.Core.Bool.{Bool, false}
use Prim.Native.Nat.{ℕ, zero, suc, ◌+◌, ◌≤◌, ◌<◌}
use native.Mathlib.Omega.{arith}
use native.Mathlib.Nat.{add-zero}
use Rattle.judgement.specs.Judgement.{lowest_from}

pub lowest_none : (test : ℕ → Bool) (count i : ℕ) → ((k : ℕ) → i ≤ k → k < i + count → test k ≡ false) → lowest_from test count i ≡ i + count
unfolding lowest_from
lowest_none test zero i none = sym (add-zero i)
lowest_none test (suc count) i none =
    let here : test i ≡ false = none i (omega arith) (omega arith) in
    let rest : lowest_from test count (suc i) ≡ suc i + count = lowest_none test count (suc i) (λ k a b. none k (omega arith) (omega arith)) in
    let e : suc i + count ≡ i + suc count = omega arith in
    rw here (rest ∙ e)
