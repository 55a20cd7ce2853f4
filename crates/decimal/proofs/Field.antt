-- Writing a field, from its last digit on. Assumes nothing.
use mathlib.Core.Path.{◌≡◌, ap, ap₂, ◌∙◌, sym}
use mathlib.Core.List.{List, [], ◌∷◌, ◌++◌, append_assoc}
use Prim.Native.Nat.{ℕ, suc, ◌+◌, ◌-◌, ◌/◌, ◌%◌, ◌≤◌, ◌<◌}
use native.Mathlib.Nat.{add-zero}
use native.Mathlib.Omega.{arith}
use lib.ListN.{length, take, drop, set, length-append}
use lib.Seq.{drop-cons, take-set-le, drop-set-add}
use Rattle.laws.specs.Bytes.{put}
use Rattle.laws.proofs.Bytes.{sets-put}
use Rattle.decimal.specs.Decimal.{decimal_of}
use Rattle.decimal.proofs.Decimal.{one_digit, last_digit, digits_more}

drop-set : (m : List ℕ) (j v : ℕ) → j < length m → drop j (set m j v) ≡ v ∷ drop (suc j) m
drop-set m j v h =
    ap (λ (k : ℕ). drop j (set m k v)) (sym (add-zero j))
    ∙ drop-set-add j m 0 v
    ∙ ap (λ (l : List ℕ). set l 0 v) (drop-cons m j 0 h)

-- a byte stored where xs will end goes behind them
pub store_behind : (at j v : ℕ) (xs m : List ℕ) → j ≡ at + length xs → j < length m → put at xs (set m j v) ≡ put at (xs ++ (v ∷ [])) m
unfolding put
store_behind at j v xs m e h =
    let a : take at (set m j v) ≡ take at m = take-set-le at m j v (let k : at ≤ j = omega arith in k) in
    let b : drop (at + length xs) (set m j v) ≡ v ∷ drop (suc j) m = ap (λ (k : ℕ). drop k (set m j v)) (sym e) ∙ drop-set m j v h in
    let f : length (xs ++ (v ∷ [])) ≡ length xs + 1 = length-append xs (v ∷ []) in
    let c : suc j ≡ at + length (xs ++ (v ∷ [])) = omega arith in
    ap₂ (λ (p : List ℕ) (q : List ℕ). p ++ xs ++ q) a b
    ∙ sym (append_assoc (take at m ++ xs) (v ∷ []) (drop (suc j) m))
    ∙ ap₂ (λ (p : List ℕ) (k : ℕ). p ++ drop k m) (append_assoc (take at m) xs (v ∷ [])) c

-- a turn: the last digit is stored, the rest are still to come
pub field_turn : (at i rest byte : ℕ) (m : List ℕ) → 10 ≤ rest → i ≡ at + length (decimal_of rest) → i ≤ length m → byte ≡ 48 + rest % 10 → put at (decimal_of (rest / 10)) (set m (i - 1) byte) ≡ put at (decimal_of rest) m
field_turn at i rest byte m h e room b =
    let d = digits_more rest h in
    let p : i - 1 ≡ at + length (decimal_of (rest / 10)) = omega arith in
    let l : i - 1 < length m = omega arith in
    store_behind at (i - 1) byte (decimal_of (rest / 10)) m p l
    ∙ ap (λ (x : ℕ). put at (decimal_of (rest / 10) ++ (x ∷ [])) m) b
    ∙ ap (λ (xs : List ℕ). put at xs m) (sym (last_digit rest h))

-- the end: the first digit is stored
pub field_end : (at rest byte : ℕ) (m : List ℕ) → rest < 10 → at < length m → byte ≡ 48 + rest % 10 → set m at byte ≡ put at (decimal_of rest) m
field_end at rest byte m h room b =
    let l : at + 1 ≤ length m = omega arith in
    let e : byte ≡ 48 + rest = omega arith in
    sets-put (byte ∷ []) m at l ∙ ap (λ (x : ℕ). put at (x ∷ []) m) e ∙ ap (λ (xs : List ℕ). put at xs m) (sym (one_digit rest h))
