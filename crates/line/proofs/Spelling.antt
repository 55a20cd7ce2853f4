-- A field that spells some bytes; and a request's line by its places: what stands where in it, and that what stands so is one. Assumes nothing.
use mathlib.Core.Path.{◌≡◌, refl, ap, ap₂, ◌∙◌, sym}
use mathlib.Core.Bool.{true}
use mathlib.Core.List.{List, ◌∷◌, ◌++◌}
use Prim.Native.Nat.{ℕ, suc, ◌+◌, ◌*◌, ◌/◌, ◌%◌, ◌≤◌, ◌<◌}
use native.Mathlib.Omega.{arith}
use lib.ListN.{length, take, drop, get_or, length-append, take-append-drop}
use lib.Seq.{drop-cons, drop-drop, take_at, get_or_at, drop-append-add, get_or-drop, length-take-le}
use Rattle.hexfield.specs.Hex.{hex_of, bytes_of, all_digits, capitals}
use Rattle.hexfield.proofs.Fields.{hex_length, bytes-length, bytes_hex, digits_hex, hex_bytes}
use Rattle.laws.specs.Lists.{all_bytes}

-- the field ds spells the bytes xs: it has digits only, two a byte
pub record Spells (ds xs : List ℕ) : Type 0 where
  pub digits : all_digits ds ≡ true
  pub bytes : bytes_of ds ≡ xs
  pub twice : length ds ≡ length xs * 2

pub spells_field : (ds : List ℕ) (n : ℕ) → all_digits ds ≡ true → length ds ≡ n * 2 → Spells ds (bytes_of ds)
spells_field ds n h e =
    let l : length (bytes_of ds) ≡ length ds / 2 = bytes-length ds in
    record { digits = h; bytes = refl; twice = omega arith }

pub spells_hex : (xs : List ℕ) → all_bytes xs ≡ true → Spells (hex_of xs) xs
spells_hex xs h = record { digits = digits_hex xs; bytes = bytes_hex xs h; twice = hex_length xs }

-- and what is written for them is the field in capitals
pub hex_spells : {ds xs : List ℕ} → Spells ds xs → hex_of xs ≡ capitals ds
hex_spells {ds} {xs} s =
    let e : length ds % 2 ≡ 0 = let t = s.twice in omega arith in
    ap hex_of (sym s.bytes) ∙ hex_bytes ds s.digits e

-- the field of a setup has 16 digits
pub setup_wide : (q : List ℕ) → 8 ≤ length q → length (hex_of (take 8 q)) ≡ 16
setup_wide q h =
    let l : length (take 8 q) ≡ 8 = length-take-le 8 q h in
    let e : length (hex_of (take 8 q)) ≡ length (take 8 q) * 2 = hex_length (take 8 q) in
    omega arith

-- a request's line: the field a of its setup, the field b of its data, and r after it
abbrev pub spelled : List ℕ → List ℕ → List ℕ → List ℕ
spelled a b r = 81 ∷ 9 ∷ (a ++ (9 ∷ (b ++ (10 ∷ r))))

-- what stands where in such a line at the front of u
pub record Spelled (u a b r : List ℕ) : Type 0 where
  pub kind : get_or u 0 0 ≡ 81
  pub first : get_or u 1 0 ≡ 9
  pub setup : take 16 (drop 2 u) ≡ a
  pub second : get_or u 18 0 ≡ 9
  pub body : take (length b) (drop 19 u) ≡ b
  pub stop : get_or u (19 + length b) 0 ≡ 10
  pub size : length u ≡ 20 + length b + length r

module _ (a b r : List ℕ) (wide : length a ≡ 16) where
  after : drop 19 (spelled a b r) ≡ b ++ (10 ∷ r)
  after =
      let e : 17 ≡ length a + 1 = omega arith in
      ap (λ (k : ℕ). drop k (a ++ (9 ∷ (b ++ (10 ∷ r))))) e ∙ drop-append-add a (9 ∷ (b ++ (10 ∷ r))) 1

  pub spelled-size : length (spelled a b r) ≡ 20 + length b + length r
  spelled-size = simp length-append (omega arith)

  spelled_facts : Spelled (spelled a b r) a b r
  spelled_facts =
      record {
        kind = refl;
        first = refl;
        setup = take_at a (9 ∷ (b ++ (10 ∷ r))) 16 wide;
        second = get_or_at a 9 (b ++ (10 ∷ r)) 0 16 wide;
        body = ap (take (length b)) after ∙ take_at b (10 ∷ r) (length b) refl;
        stop = sym (get_or-drop 19 (spelled a b r) (length b) 0) ∙ ap (λ (l : List ℕ). get_or l (length b) 0) after ∙ get_or_at b 10 r 0 (length b) refl;
        size = spelled-size;
      }

pub spelled-here : (u a b r : List ℕ) → length a ≡ 16 → u ≡ spelled a b r → Spelled u a b r
spelled-here u a b r wide is = rw is (spelled_facts a b r wide)

-- what stands so is a line, with n bytes between the last tab and LF
pub is_spelled : (u : List ℕ) (n : ℕ) → 20 + n ≤ length u → get_or u 0 0 ≡ 81 → get_or u 1 0 ≡ 9 → get_or u 18 0 ≡ 9 → get_or u (19 + n) 0 ≡ 10 → u ≡ spelled (take 16 (drop 2 u)) (take n (drop 19 u)) (drop (20 + n) u)
is_spelled u n long k f s t =
    let h₀ : 0 < length u = omega arith in
    let h₁ : 1 < length u = omega arith in
    let h₂ : 18 < length u = omega arith in
    let h₃ : 19 + n < length u = omega arith in
    let next : suc (19 + n) ≡ 20 + n = omega arith in
    let d₂ : drop 2 u ≡ take 16 (drop 2 u) ++ drop 18 u = sym (take-append-drop 16 (drop 2 u)) ∙ ap (λ (l : List ℕ). take 16 (drop 2 u) ++ l) (drop-drop 16 2 u) in
    let d₁₉ : drop 19 u ≡ take n (drop 19 u) ++ drop (19 + n) u = sym (take-append-drop n (drop 19 u)) ∙ ap (λ (l : List ℕ). take n (drop 19 u) ++ l) (drop-drop n 19 u) in
    let e₀ : u ≡ 81 ∷ drop 1 u = drop-cons u 0 0 h₀ ∙ ap (λ (x : ℕ). x ∷ drop 1 u) k in
    let e₁ : drop 1 u ≡ 9 ∷ drop 2 u = drop-cons u 1 0 h₁ ∙ ap (λ (x : ℕ). x ∷ drop 2 u) f in
    let e₁₈ : drop 18 u ≡ 9 ∷ drop 19 u = drop-cons u 18 0 h₂ ∙ ap (λ (x : ℕ). x ∷ drop 19 u) s in
    let e₁₉ : drop (19 + n) u ≡ 10 ∷ drop (20 + n) u = drop-cons u (19 + n) 0 h₃ ∙ ap₂ (λ (x : ℕ) (k : ℕ). x ∷ drop k u) t next in
    e₀ ∙ ap (λ (l : List ℕ). 81 ∷ l) (e₁ ∙ ap (λ (l : List ℕ). 9 ∷ l) (d₂ ∙ ap (λ (l : List ℕ). take 16 (drop 2 u) ++ l) (e₁₈ ∙ ap (λ (l : List ℕ). 9 ∷ l) (d₁₉ ∙ ap (λ (l : List ℕ). take n (drop 19 u) ++ l) e₁₉))))
