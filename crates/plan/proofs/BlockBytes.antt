-- The bytes of a block's DNLOAD, laid into a request that holds 0xFF all over. Assumes nothing.
use mathlib.Core.Path.{◌≡◌, refl, ap, ◌∙◌, sym}
use mathlib.Core.List.{List, [], ◌∷◌, ◌++◌}
use Prim.Native.Nat.{ℕ, ◌+◌, ◌-◌, ◌/◌, ◌%◌}
use native.Mathlib.Omega.{arith}
use lib.ListN.{length, take, drop, replicate}
use lib.Seq.{sets, take-append_seam, take-append-add}
use borrow.Author.Tests.{eq-eqb, ne_eqb}
use Rattle.laws.specs.Bytes.{put}
use Rattle.laws.proofs.Bytes.{put_seam}
use Rattle.laws.proofs.Split.{by_eq}
use Rattle.request.specs.Request.{transfer_bytes}
use Rattle.line.specs.Event.{Event, request}
use Rattle.plan.specs.Plan.{download, padded}
use Rattle.plan.specs.Parts.{polled_text, Laid, sent_bytes, padded_length}
use Rattle.plan.proofs.Lines.{padded_one, padded-more, padded-length}

-- what the request holds behind its setup before the block is laid into it
filler : List ℕ
filler = replicate transfer_bytes 255

-- the block, and what pads it
single : (xs : List ℕ) → length xs ≡ 1 → take 2 (xs ++ drop (length xs) filler) ≡ xs ++ (255 ∷ [])
unfolding filler
single [] h = absurd (omega arith)
single (x ∷ []) h = refl
single (x ∷ y ∷ xs) h = absurd (omega arith)

padded-front : (xs : List ℕ) → take (padded_length (length xs)) (xs ++ drop (length xs) filler) ≡ padded xs
padded-front xs =
    by_eq (length xs) 1
    (λ h. rw (eq-eqb (length xs) 1 h, ← padded_one (length xs) h) (single xs h))
    (λ h. rw (ne_eqb (length xs) 1 h, ← padded-more (length xs) h) (take-append_seam xs (drop (length xs) filler)))

module _ (xs m₁ m₂ : List ℕ) (count : ℕ) (is : count ≡ padded_length (length xs)) (first : m₁ ≡ put 0 (0x21 ∷ 1 ∷ 2 ∷ 0 ∷ 0 ∷ 0 ∷ count % 256 ∷ count / 256 % 256 ∷ []) (replicate (8 + transfer_bytes) 255)) (second : m₂ ≡ put 8 xs m₁) where
  head : List ℕ
  head = 0x21 ∷ 1 ∷ 2 ∷ 0 ∷ 0 ∷ 0 ∷ count % 256 ∷ count / 256 % 256 ∷ []

  start : put 0 head (replicate (8 + transfer_bytes) 255) ≡ head ++ filler
  unfolding filler head
  start = put_seam [] head (replicate (8 + transfer_bytes) 255)

  laid : m₂ ≡ head ++ xs ++ drop (length xs) filler
  unfolding head
  laid = second ∙ ap (put 8 xs) (first ∙ start) ∙ put_seam head xs filler

  front : take (8 + count) m₂ ≡ head ++ padded xs
  unfolding head
  front =
      ap (take (8 + count)) laid
      ∙ take-append-add head (xs ++ drop (length xs) filler) count
      ∙ ap (λ (l : List ℕ). head ++ l) (ap (λ (k : ℕ). take k (xs ++ drop (length xs) filler)) is ∙ padded-front xs)

  -- the request that is sent, as the callee sees it
  bytes : take (8 + count - 0) m₂ ≡ head ++ padded xs
  bytes = let e : 8 + count - 0 ≡ 8 + count = omega arith in ap (λ (k : ℕ). take k m₂) e ∙ front

  event : request (take (8 + count - 0) m₂) ≡ download 2 (padded xs)
  unfolding head
  event =
      let f : count ≡ length (padded xs) = is ∙ sym (padded-length xs) in
      ap request (bytes ∙ ap (λ (k : ℕ). 0x21 ∷ 1 ∷ 2 ∷ 0 ∷ 0 ∷ 0 ∷ k % 256 ∷ k / 256 % 256 ∷ padded xs) f)

  pub block-laid : (m m' : List ℕ) (at r : ℕ) → Laid m at (polled_text (request (take (8 + count - 0) m₂))) (sent_bytes (length (take (8 + count - 0) m₂) - 8)) m' r → Laid m at (polled_text (download 2 (padded xs))) (sent_bytes (padded_length (length xs))) m' r
  unfolding head
  block-laid m m' at r p =
      let l = ap length bytes in
      let k = padded-length xs in
      let e = p.1 in
      (p.0 ∙ ap (λ (x : Event). sets m at (polled_text x)) event, omega arith)
