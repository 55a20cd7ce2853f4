-- Packing a line and packing a text: what each step leaves in the buffer. Assumes nothing.
use mathlib.Core.Path.{◌≡◌, ap, ap₂, ◌∙◌, sym}
use mathlib.Core.List.{List, [], ◌∷◌, ◌++◌}
use Prim.Native.Nat.{ℕ, suc, ◌+◌, ◌-◌, ◌*◌, ◌≤◌, ◌<◌}
use native.Mathlib.Omega.{arith}
use native.Mathlib.Numerals.{add-one}
use lib.ListN.{length, take, drop, set, length-append, length-set}
use lib.Seq.{sets, length-sets}
use Rattle.laws.specs.Bytes.{put}
use Rattle.laws.proofs.Bytes.{sets-put}
use Rattle.laws.proofs.Append.{sets-append, part_put}
use Rattle.request.specs.Setup.{setup_of, data_length}
use Rattle.hexfield.specs.Hex.{bytes_of}
use Rattle.packed.specs.Packed.{pack_of}
use Rattle.laws.specs.Lines.{first_line}
use Rattle.line.specs.Line.{event_of}
use Rattle.line.proofs.Formed.{Asks, asks_size, asks_event, asks_length, asks_setup, asks_data, asks_spells}
use Rattle.line.proofs.LineLength.{Attaches}

asks_packed : {u : List ℕ} → (x : Asks u) → pack_of (event_of (first_line u)) ≡ 1 ∷ (x.a ++ x.b)
unfolding pack_of
asks_packed x = ap pack_of (asks_event x)

-- the room that a request takes, in text and packed
pub asks_room : {u : List ℕ} (x : Asks u) (at n : ℕ) → at + length (pack_of (event_of (first_line u))) ≤ n → (20 + length x.b * 2 ≤ length u) × (at + 9 + length x.b ≤ n)
asks_room {u} x at n h =
    let e : length (pack_of (event_of (first_line u))) ≡ suc (length (x.a ++ x.b)) = ap length (asks_packed x) in
    let l : length (x.a ++ x.b) ≡ length x.a + length x.b = length-append x.a x.b in
    let w = x.whole in
    let s = asks_size x in
    (omega arith, omega arith)

-- a request, packed in three steps: its kind, its setup, its data
module _ (u out out₂ : List ℕ) (at : ℕ) (x : Asks u) (room : at + 9 + length x.b ≤ length out) (two : out₂ ≡ put (at + 1) (bytes_of (take 16 (drop 2 u))) (set out at 1)) where
  laid : out₂ ≡ put (at + 1) x.a (set out at 1)
  laid = two ∙ ap (λ (l : List ℕ). put (at + 1) l (set out at 1)) (asks_setup x)

  kept : length (set out at 1) ≡ length out
  kept = length-set out at 1

  -- the setup is read back from where it was laid
  pub count_is : (n : ℕ) → n ≡ data_length (setup_of (take (at + 9 - (at + 1)) (drop (at + 1) out₂))) → n ≡ length x.b
  count_is n e =
      let w = x.whole in
      let k : at + 9 - (at + 1) ≡ length x.a = omega arith in
      let h : at + 1 ≤ length (set out at 1) = let z = kept in omega arith in
      e ∙ ap (λ (l : List ℕ). data_length (setup_of l)) (ap₂ (λ (i : ℕ) (l : List ℕ). take i (drop (at + 1) l)) k laid ∙ part_put x.a (set out at 1) (at + 1) h) ∙ asks_data x

  pub request_packed : (out₃ : List ℕ) (end : ℕ) → end ≡ 19 + length x.b * 2 → out₃ ≡ put (at + 9) (bytes_of (take (end - 19) (drop 19 u))) out₂ → (out₃ ≡ put at (pack_of (event_of (first_line u))) out) × (end + 1 ≡ length (first_line u))
  request_packed out₃ end e three =
      let w = x.whole in
      let q = kept in
      let f : bytes_of (take (end - 19) (drop 19 u)) ≡ x.b = asks_spells x end e in
      let ra : at + 1 + length x.a ≤ length (set out at 1) = omega arith in
      let s₂ : out₂ ≡ sets (set out at 1) (at + 1) x.a = laid ∙ sym (sets-put x.a (set out at 1) (at + 1) ra) in
      let l₂ : length out₂ ≡ length (set out at 1) = ap length s₂ ∙ length-sets (set out at 1) (at + 1) x.a in
      let rb : at + 9 + length x.b ≤ length out₂ = omega arith in
      let s₃ : out₃ ≡ sets out₂ (at + 9) x.b = three ∙ ap (λ (l : List ℕ). put (at + 9) l out₂) f ∙ sym (sets-put x.b out₂ (at + 9) rb) in
      let i₁ : at + 1 ≡ suc at = add-one at in
      let i₂ : at + 9 ≡ suc at + length x.a = omega arith in
      let t : out₃ ≡ sets (sets (set out at 1) (suc at) x.a) (suc at + length x.a) x.b = s₃ ∙ ap₂ (λ (l : List ℕ) (i : ℕ). sets l i x.b) (s₂ ∙ ap (λ (i : ℕ). sets (set out at 1) i x.a) i₁) i₂ in
      let l : length (x.a ++ x.b) ≡ length x.a + length x.b = length-append x.a x.b in
      let r : at + length (1 ∷ (x.a ++ x.b)) ≤ length out = omega arith in
      let g : length (first_line u) ≡ 20 + length x.b * 2 = asks_length x in
      (t ∙ sym (sets-append x.a x.b (set out at 1) (suc at)) ∙ sets-put (1 ∷ (x.a ++ x.b)) out at r ∙ ap (λ (y : List ℕ). put at y out) (sym (asks_packed x)), omega arith)

-- Attach, packed
pub attach_packed : (u out out₂ : List ℕ) (at : ℕ) → Attaches u → at + length (pack_of (event_of (first_line u))) ≤ length out → out₂ ≡ set out at 0 → (out₂ ≡ put at (pack_of (event_of (first_line u))) out) × (2 ≡ length (first_line u))
unfolding pack_of
attach_packed u out out₂ at x room e =
    let p : pack_of (event_of (first_line u)) ≡ 0 ∷ [] = ap pack_of x.event in
    let l : length (pack_of (event_of (first_line u))) ≡ 1 = ap length p in
    let r : at + length {A = ℕ} (0 ∷ []) ≤ length out = omega arith in
    (e ∙ sets-put (0 ∷ []) out at r ∙ ap (λ (y : List ℕ). put at y out) (sym p), sym (ap length x.first))

pub attach-room : (u : List ℕ) (at n : ℕ) → Attaches u → at + length (pack_of (event_of (first_line u))) ≤ n → at < n
unfolding pack_of
attach-room u at n x h =
    let l : length (pack_of (event_of (first_line u))) ≡ 1 = ap length (ap pack_of x.event) in
    omega arith
