-- Bytes laid over bytes, in closed form: what every store, fill and reply comes down to. Assumes nothing.
use Rattle.std.specs.Prelude.{List, ◌++◌, ◌⊎◌, ℕ, ◌+◌, ◌≤◌, length, take, drop, replicate}

-- the list m with the bytes xs over its own from place `at` on
unfoldable pub put : ℕ → List ℕ → List ℕ → List ℕ
put at xs m = take at m ++ xs ++ drop (at + length xs) m

-- the list m with `count` bytes from place `from` on, each of them v
unfoldable pub filled : ℕ → ℕ → ℕ → List ℕ → List ℕ
filled from count v m = put from (replicate count v) m

-- `count` places from `from` on and `others` places from `other` on have none in common
abbrev pub Apart : ℕ → ℕ → ℕ → ℕ → Type 0
Apart from count other others = (from + count ≤ other) ⊎ (other + others ≤ from)
