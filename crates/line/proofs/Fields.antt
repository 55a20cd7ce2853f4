-- The fields of a setup, each from its own digits. Assumes nothing.
use mathlib.Core.Path.{◌≡◌, ◌∙◌}
use mathlib.Core.List.{List}
use Prim.Native.Nat.{ℕ, ◌+◌, ◌*◌, ◌/◌, ◌<◌}
use native.Mathlib.Omega.{arith}
use lib.ListN.{length, get_or}
use borrow.Author.Tests.{lt-ltb, le-ltb}
use Rattle.laws.proofs.Split.{by_lt}
use Rattle.request.specs.Setup.{setup_of, data_length}
use Rattle.request.specs.declared.Setup.{Setup}
use Rattle.digit.specs.Digit.{byte_of}
use Rattle.hexfield.specs.Hex.{bytes_of}
use Rattle.hexfield.proofs.Fields.{byte_of_lem}

-- the byte and the word that the digits from place i on spell
abbrev pub byte_at : List ℕ → ℕ → ℕ
byte_at ds i = byte_of (get_or ds i 0) (get_or ds (i + 1) 0)

abbrev pub word_at : List ℕ → ℕ → ℕ
word_at ds i = byte_of (get_or ds i 0) (get_or ds (i + 1) 0) + byte_of (get_or ds (i + 2) 0) (get_or ds (i + 3) 0) * 256

module _ (ds : List ℕ) (whole : length ds ≡ 16) where
  spells : (i : ℕ) → i < 8 → byte_of (get_or ds (i * 2) 0) (get_or ds (i * 2 + 1) 0) ≡ get_or (bytes_of ds) i 0
  spells i h = byte_of_lem ds i (let k : i < length ds / 2 = omega arith in k)

  -- how much data follow is told by the kind and the length
  pub length_fields : (s : Setup) → s.kind ≡ byte_at ds 0 → s.length ≡ word_at ds 12 → data_length s ≡ data_length (setup_of (bytes_of ds))
  unfolding data_length setup_of
  length_fields s k l =
      rw (k, l, spells 0 (omega arith), spells 6 (omega arith), spells 7 (omega arith))

  -- where one byte of data would not follow, none do
  pub length_none : (s : Setup) → s.kind ≡ byte_at ds 0 → s.length ≡ 1 → data_length s ≡ 0 → 0 ≡ data_length (setup_of (bytes_of ds))
  unfolding data_length setup_of
  length_none s k l e =
      let a : s.kind ≡ get_or (bytes_of ds) 0 0 = k ∙ spells 0 (omega arith) in
      by_lt s.kind 128
      (λ h. let z : 1 ≡ 0 = rw (lt-ltb s.kind 128 h, l) at e in absurd (omega arith))
      (λ h. rw (← a, le-ltb s.kind 128 h))
