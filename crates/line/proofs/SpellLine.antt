-- Writing a line, step by step. Assumes nothing.
use mathlib.Core.Path.{◌≡◌, refl, ap, ap₂, ◌∙◌, sym}
use mathlib.Core.List.{List, [], ◌∷◌, ◌++◌}
use Prim.Native.Nat.{ℕ, suc, ◌+◌, ◌-◌, ◌*◌, ◌≤◌}
use native.Mathlib.Omega.{arith}
use native.Mathlib.Numerals.{add-one, add-two}
use lib.ListN.{length, take, drop, set, length-set, length-drop}
use lib.Seq.{sets, length-sets}
use Rattle.laws.specs.Bytes.{put}
use Rattle.laws.proofs.Bytes.{sets-put, rest_is}
use Rattle.laws.proofs.Append.{sets-append}
use Rattle.hexfield.specs.Hex.{hex_of}
use Rattle.hexfield.proofs.Fields.{hex_length}
use Rattle.line.specs.Event.{attach, request, line_of}
use Rattle.line.proofs.Spelling.{setup_wide, spelled-size}

-- a line's length, from the packed bytes of its event
pub line_length_of : (q : List ℕ) → 8 ≤ length q → length (line_of (request q)) ≡ 20 + (length q - 8) * 2
unfolding line_of
line_length_of q h =
    let d : length (drop 8 q) ≡ length q - 8 = length-drop 8 q in
    let b : length (hex_of (drop 8 q)) ≡ length (drop 8 q) * 2 = hex_length (drop 8 q) in
    spelled-size (hex_of (take 8 q)) (hex_of (drop 8 q)) [] (setup_wide q h) ∙ (let e : 20 + length (hex_of (drop 8 q)) + 0 ≡ 20 + (length q - 8) * 2 = omega arith in e)

-- the room that a request's line takes
pub request_room : (q : List ℕ) (at n : ℕ) → 8 ≤ length q → at + length (line_of (request q)) ≤ n → at + 20 + (length q - 8) * 2 ≤ n
request_room q at n h room = let e : length (line_of (request q)) ≡ 20 + (length q - 8) * 2 = line_length_of q h in omega arith

-- its six parts, one after the other
module _ (q out o₁ o₂ : List ℕ) (at : ℕ) (eight : 8 ≤ length q) (fits : at + length (line_of (request q)) ≤ length out) (one : o₁ ≡ put (at + 2) (hex_of (take 8 q)) (set (set out at 81) (at + 1) 9)) (two : o₂ ≡ put (at + 19) (hex_of (take (length q - 8) (drop 8 q))) (set o₁ (at + 18) 9)) where
  a : List ℕ
  a = hex_of (take 8 q)

  b : List ℕ
  b = hex_of (drop 8 q)

  start : List ℕ
  start = set (set out at 81) (suc at) 9

  start_length : length start ≡ length out
  unfolding start
  start_length = simp length-set

  a_length : length a ≡ 16
  unfolding a
  a_length = setup_wide q eight

  b_length : length b ≡ (length q - 8) * 2
  unfolding b
  b_length = let l : length (drop 8 q) ≡ length q - 8 = length-drop 8 q in let e : length (hex_of (drop 8 q)) ≡ length (drop 8 q) * 2 = hex_length (drop 8 q) in omega arith

  room : at + 20 + (length q - 8) * 2 ≤ length out
  room = request_room q at (length out) eight fits

  first : o₁ ≡ sets start (suc (suc at)) a
  unfolding a start
  first =
      let r : at + 2 + length (hex_of (take 8 q)) ≤ length (set (set out at 81) (at + 1) 9) = let l : length (hex_of (take 8 q)) ≡ 16 = a_length in let w = room in simp length-set (omega arith) in
      one ∙ sym (sets-put (hex_of (take 8 q)) (set (set out at 81) (at + 1) 9) (at + 2) r) ∙ ap₂ (λ (i : ℕ) (j : ℕ). sets (set (set out at 81) i 9) j (hex_of (take 8 q))) (add-one at) (add-two at)

  pub first-length : length o₁ ≡ length out
  first-length = ap length first ∙ length-sets start (suc (suc at)) a ∙ start_length

  second : o₂ ≡ sets (set o₁ (at + 18) 9) (at + 19) b
  unfolding b
  second =
      let e : hex_of (take (length q - 8) (drop 8 q)) ≡ hex_of (drop 8 q) = ap hex_of (rest_is 8 q) in
      let k : length (set o₁ (at + 18) 9) ≡ length o₁ = length-set o₁ (at + 18) 9 in
      let r : at + 19 + length (hex_of (drop 8 q)) ≤ length (set o₁ (at + 18) 9) = let l : length (hex_of (drop 8 q)) ≡ (length q - 8) * 2 = b_length in let w = room in let f = first-length in omega arith in
      two ∙ ap (λ (l : List ℕ). put (at + 19) l (set o₁ (at + 18) 9)) e ∙ sym (sets-put (hex_of (drop 8 q)) (set o₁ (at + 18) 9) (at + 19) r)

  line-laid : sets out at (81 ∷ 9 ∷ (a ++ (9 ∷ (b ++ (10 ∷ []))))) ≡ set o₂ (at + 19 + (length q - 8) * 2) 10
  unfolding start
  line-laid =
      let i : suc (suc at) + length a ≡ at + 18 = let l = a_length in omega arith in
      let j : suc (at + 18) ≡ at + 19 = omega arith in
      let k : at + 19 + length b ≡ at + 19 + (length q - 8) * 2 = let l = b_length in omega arith in
      sets-append a (9 ∷ (b ++ (10 ∷ []))) start (suc (suc at))
      ∙ ap₂ (λ (m : List ℕ) (n : ℕ). sets m n (9 ∷ (b ++ (10 ∷ [])))) (sym first) i
      ∙ ap (λ (n : ℕ). sets (set o₁ (at + 18) 9) n (b ++ (10 ∷ []))) j
      ∙ sets-append b (10 ∷ []) (set o₁ (at + 18) 9) (at + 19)
      ∙ ap₂ (λ (m : List ℕ) (n : ℕ). sets m n (10 ∷ [])) (sym second) k

  pub request-spelled : (set o₂ (at + 19 + (length q - 8) * 2) 10 ≡ put at (line_of (request q)) out) × (20 + (length q - 8) * 2 ≡ length (line_of (request q)))
  unfolding line_of a b
  request-spelled = (sym line-laid ∙ sets-put (81 ∷ 9 ∷ (hex_of (take 8 q) ++ (9 ∷ (hex_of (drop 8 q) ++ (10 ∷ []))))) out at fits, sym (line_length_of q eight))

-- the line of Attach
pub attach-spelled : (out : List ℕ) (at : ℕ) → at + length (line_of attach) ≤ length out → (set (set out at 65) (at + 1) 10 ≡ put at (line_of attach) out) × (2 ≡ length (line_of attach))
unfolding line_of
attach-spelled out at room = (ap (λ (i : ℕ). set (set out at 65) i 10) (add-one at) ∙ sets-put (65 ∷ 10 ∷ []) out at room, refl)

pub attach-fits : (at n : ℕ) → at + length (line_of attach) ≤ n → at + 2 ≤ n
unfolding line_of
attach-fits at n h = h
