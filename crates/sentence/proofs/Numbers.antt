-- Numbers, addresses and bytes, said from the buffers that their digits stand in. Assumes nothing.
use mathlib.Core.Path.{◌≡◌, ap, ap₂, ◌∙◌}
use mathlib.Core.List.{List, [], ◌∷◌, ◌++◌, append_assoc}
use Prim.Native.Nat.{ℕ, ◌+◌, ◌-◌, ◌/◌, ◌%◌, ◌^◌, ◌<◌}
use Rattle.std.proofs.Common.{w32}
use Rattle.std.specs.Int.{to_be_bytes}
use native.Mathlib.Omega.{arith}
use lib.ListN.{length, take, drop}
use lib.Seq.{take-append_seam}
use Rattle.laws.specs.Bytes.{put}
use Rattle.hexfield.specs.Hex.{hex_of}
use Rattle.decimal.specs.Decimal.{decimal_of}
use Rattle.append.specs.Said.{Said, said_of}
use Rattle.append.proofs.Said.{same_said}
use Rattle.sentence.specs.Address.{high_first, address_of}

front : (xs : List ℕ) (b : ℕ) (m : List ℕ) → take (length xs) (put 0 (xs ++ (b ∷ [])) m) ≡ xs
unfolding put
front xs b m = ap (take (length xs)) (append_assoc xs (b ∷ []) (drop (0 + length (xs ++ (b ∷ []))) m)) ∙ take-append_seam xs (b ∷ drop (0 + length (xs ++ (b ∷ []))) m)

-- a number's digits, from a buffer that has them and a byte behind them
pub decimal_said : (n end b : ℕ) (ds zs out : List ℕ) (at : ℕ) (s : Said) → end ≡ 0 + length (decimal_of n) + 1 → ds ≡ put 0 (decimal_of n ++ (b ∷ [])) zs → s ≡ said_of (take (end - 1) ds) out at → s ≡ said_of (decimal_of n) out at
decimal_said n end b ds zs out at s e is h =
    let k : end - 1 ≡ length (decimal_of n) = omega arith in
    let d : take (end - 1) ds ≡ decimal_of n = ap₂ (λ (m : ℕ) (l : List ℕ). take m l) k is ∙ front (decimal_of n) b zs in
    same_said _ _ out at d h

-- the library's word for an address in bytes is ours
pub be_bytes : (x : ℕ) → x < 2 ^ 32 → to_be_bytes w32 x ≡ high_first x
be_bytes x h =
    let e : x / 16777216 % 256 ≡ x / 16777216 = omega arith in
    rw e

-- an address, from a buffer of ten bytes whose first two are 0x
pub address_said : (x : ℕ) (bs ds out : List ℕ) (at : ℕ) (s : Said) → bs ≡ high_first x → ds ≡ put 2 (hex_of bs) (48 ∷ 120 ∷ 48 ∷ 48 ∷ 48 ∷ 48 ∷ 48 ∷ 48 ∷ 48 ∷ 48 ∷ []) → s ≡ said_of ds out at → s ≡ said_of (address_of x) out at
unfolding put hex_of
address_said x bs ds out at s b is h = same_said _ _ out at (is ∙ ap (λ (l : List ℕ). put 2 (hex_of l) (48 ∷ 120 ∷ 48 ∷ 48 ∷ 48 ∷ 48 ∷ 48 ∷ 48 ∷ 48 ∷ 48 ∷ [])) b) h

-- a byte's two digits, from a buffer of as many
pub digits_said : (x : ℕ) (ds out : List ℕ) (at : ℕ) (s : Said) → ds ≡ put 0 (hex_of (x ∷ [])) (48 ∷ 48 ∷ []) → s ≡ said_of ds out at → s ≡ said_of (hex_of (x ∷ [])) out at
unfolding put hex_of
digits_said x ds out at s is h = same_said _ _ out at is h
