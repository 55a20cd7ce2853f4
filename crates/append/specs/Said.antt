-- What saying words leaves: for the words of programs, and no rule of the paper. Assumes nothing.
use Rattle.std.specs.Prelude.{List, ℕ, ◌+◌, ◌-◌, length, take}
use Rattle.laws.specs.Bytes.{put}

-- what a call leaves: the place behind its words, and the buffer
pub record Said : Type 0 where
  pub place : ℕ
  pub out : List ℕ

-- the two in one
abbrev pub left : ℕ → List ℕ → Said
left place out = record { place = place; out = out }

-- as much of xs as there is room for goes over the bytes from place `at` on
unfoldable pub said_of : List ℕ → List ℕ → ℕ → Said
said_of xs out at = left (at + length (take (length out - at) xs)) (put at (take (length out - at) xs) out)
