-- What reading from the file of vectors leaves of a buffer: no rule of the paper. Assumes nothing.
use Rattle.std.specs.Prelude.{◌≡◌, List, ℕ, ◌+◌, ◌≤◌, ◌<◌, length, take, drop}

-- what reading `count` bytes to place `at` leaves: the place behind those that came, and all else as it was; without room nothing comes
pub record Loaded (at count place : ℕ) (before after : List ℕ) : Type 0 where
  pub first : at ≤ place
  pub last : place ≤ at + count
  pub front : take at after ≡ take at before
  pub rest : drop (at + count) after ≡ drop (at + count) before
  pub none : length before < at + count → (place ≡ at) × (after ≡ before)
