-- The event at a place where the text is known to be well formed. Assumes nothing.
use mathlib.Core.Path.{◌≡◌, ap, ◌∙◌, sym}
use mathlib.Core.Bool.{true}
use mathlib.Core.List.{List}
use Prim.Native.Nat.{ℕ, ◌+◌, ◌-◌, ◌*◌, ◌≤◌, ◌<◌}
use native.Mathlib.Omega.{arith}
use lib.ListN.{length, take, drop, get_or, length-drop}
use lib.Seq.{get_or-drop}
use Rattle.laws.proofs.Bytes.{rest_is}
use Rattle.request.specs.Setup.{setup_of, data_length}
use Rattle.request.specs.declared.Setup.{Setup}
use Rattle.hexfield.specs.Hex.{all_digits, bytes_of}
use Rattle.text.specs.declared.Item.TheVariants as item
use Rattle.line.specs.Ways.{line_length}
use Rattle.laws.specs.Lines.{first_line}
use Rattle.line.specs.Line.{well_spelled}
use Rattle.text.specs.Walk.{item_of}
use Rattle.line.proofs.Formed.{Asks, asks, asks_size, asks_length, asks_digits, asks_data}
use Rattle.line.proofs.LineLength.{length_good, attaches}
use Rattle.text.proofs.Walking.{setup_here, setup_asked, item_attach, item_request}

pub kind-here : (t : List ℕ) (at : ℕ) → get_or (drop at t) 0 0 ≡ get_or t at 0
kind-here t at = let e : at + 0 ≡ at = omega arith in get_or-drop at t 0 0 ∙ ap (λ (i : ℕ). get_or t i 0) e

module _ (t : List ℕ) (at : ℕ) (more : at < length t) (formed : well_spelled (first_line (drop at t)) ≡ true) where
  measured : length (first_line (drop at t)) ≡ line_length (take (length t - at) (drop at t))
  measured = sym (length_good (drop at t) formed) ∙ ap line_length (sym (rest_is at t))

  pub known_attach : get_or t at 0 ≡ 65 → item.Attach (at + 2) ≡ item_of t at
  known_attach k =
      let l : length (first_line (drop at t)) ≡ 2 = ap length (attaches (drop at t) formed (kind-here t at ∙ k)).first in
      ap (λ (n : ℕ). item.Attach (at + n)) (sym l) ∙ item_attach t at (length (first_line (drop at t))) more measured (λ z. omega arith) (omega arith)

  -- a line of another kind is a request's
  module _ (other : get_or t at 0 ≡ 65 → ⊥) where
    pub line_asks : Asks (drop at t)
    line_asks = asks (drop at t) formed (λ k. other (sym (kind-here t at) ∙ k))

    -- its setup lies in the text
    pub known_setup : at + 18 ≤ length t
    known_setup =
        let s = asks_size line_asks in
        let d : length (drop at t) ≡ length t - at = length-drop at t in
        omega arith

    pub known_digits : all_digits (take (at + 18 - (at + 2)) (drop (at + 2) t)) ≡ true
    known_digits = ap all_digits (setup_here t at) ∙ asks_digits line_asks

    -- n bytes of data are asked for by the setup s
    module _ (s : Setup) (n : ℕ) (reads : s ≡ setup_of (bytes_of (take (at + 18 - (at + 2)) (drop (at + 2) t)))) (count : n ≡ data_length s) where
      pub counted : n ≡ length line_asks.b
      counted = count ∙ ap data_length (setup_asked t at line_asks s reads) ∙ asks_data line_asks

      pub known_room : at + 20 + n * 2 ≤ length t
      known_room =
          let s = asks_size line_asks in
          let d : length (drop at t) ≡ length t - at = length-drop at t in
          let e = counted in
          omega arith

      pub known_request : item.Request s (at + 19) (at + 19 + n * 2 + 1) ≡ item_of t at
      known_request =
          let e = counted in
          let l = asks_length line_asks in
          let w : 20 ≤ length (first_line (drop at t)) = omega arith in
          let b : at + 19 + n * 2 + 1 ≡ at + length (first_line (drop at t)) = omega arith in
          ap (item.Request s (at + 19)) b ∙ item_request t at (length (first_line (drop at t))) more measured (λ z. omega arith) s w reads
