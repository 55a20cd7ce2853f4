-- What the text writer gives in each case. Assumes nothing.
use mathlib.Core.Path.{◌≡◌, ◌∙◌, sym}
use mathlib.Core.Bool.{true}
use mathlib.Core.List.{List, [], ◌∷◌}
use Prim.Native.Nat.{ℕ, ◌≤◌, ◌<◌}
use native.Mathlib.Omega.{arith}
use lib.ListN.{length}
use Rattle.std.specs.Prelude.{Result, Ok, Err}
use Rattle.laws.specs.Bytes.{put}
use Rattle.refusal.specs.declared.Refusal.{Refusal}
use Rattle.refusal.specs.declared.Refusal.TheVariants.{Text, Output}
use Rattle.refusal.specs.Order.{first_of}
use Rattle.refusal.specs.Delivery.{delivery}
use Rattle.refusal.proofs.Delivery.{counted-bytes, counted_refused, delivers_refusal, delivers_eleven, delivers_bytes, delivered-bytes}
use Rattle.text.specs.Text.{limit, text_of}
use Rattle.packed.specs.Packed.{packs, unpacked}
use Rattle.packed.specs.Ways.{capped, size_of}
use Rattle.packed.specs.Calls.{packed_refusals, write_refusals, write_of}
use Rattle.packed.proofs.Refusals.{packed_parts, write_refusal, write_long, write-within, write_parts}
use Rattle.packed.proofs.SpellSize.{capped_is, capped_long}

-- an answer of n bytes is that of whole events whose text is short enough
pub write_bytes : (p out : List ℕ) (n : ℕ) → (write_of p out).answer ≡ 0 ∷ n ∷ [] → (packs p ≡ true) × (length (text_of (unpacked p)) ≤ limit) × (n ≡ length (text_of (unpacked p))) × ((write_of p out).buffer ≡ put 0 (text_of (unpacked p)) out)
unfolding write_of
write_bytes p out n e =
    let d = delivered-bytes (write_refusals p) (text_of (unpacked p)) out n e in
    let w = write_parts p d.0 in
    (w.0, w.1, d.1, d.2)

-- the writer by what `spelled_size` answered
module _ (p out : List ℕ) (r : Result ℕ Refusal) (is : r ≡ size_of p) where
  pub write_refused : (why : Refusal) → r ≡ Err why → delivery (Err why) out ≡ write_of p out
  unfolding size_of write_of
  write_refused why e = delivers_refusal (write_refusals p) _ out why (write_refusal p why (counted_refused _ _ why (sym is ∙ e)))

  -- an answer of n bytes is that of whole events
  module _ (n : ℕ) (e : r ≡ Ok n) where
    sized : (first_of (packed_refusals p) ≡ Ok tt) × (n ≡ capped (length (text_of (unpacked p))))
    unfolding size_of
    sized = counted-bytes _ _ n (sym is ∙ e)

    pub sized_packs : packs p ≡ true
    sized_packs = packed_parts p sized.0

    pub write_too_long : limit < n → delivery (Err Text) out ≡ write_of p out
    unfolding write_of
    write_too_long h = delivers_refusal (write_refusals p) _ out Text (write_long p sized.0 (capped_long (length (text_of (unpacked p))) n sized.1 h))

    module _ (within : n ≤ limit) where
      size_is : n ≡ length (text_of (unpacked p))
      size_is = capped_is (length (text_of (unpacked p))) n sized.1 within

      free : first_of (write_refusals p) ≡ Ok tt
      free = write-within p sized.0 (let e = size_is in omega arith)

      pub sized_room : n ≤ length out → length (text_of (unpacked p)) ≤ length out
      sized_room h = let e = size_is in omega arith

      pub write_short : length out < n → delivery (Err Output) out ≡ write_of p out
      unfolding write_of
      write_short h =
          let l : length out < length (text_of (unpacked p)) = let e = size_is in omega arith in
          delivers_eleven (write_refusals p) _ out free l

      pub write_done : (y : List ℕ) → n ≤ length out → y ≡ put 0 (text_of (unpacked p)) out → delivery (Ok n) y ≡ write_of p out
      unfolding write_of
      write_done y h q = delivers_bytes (write_refusals p) _ out free n y size_is (sized_room h) q
