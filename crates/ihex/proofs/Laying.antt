-- Laying a record: data are a piece, and nothing else is. Assumes nothing.
use mathlib.Core.Path.{◌≡◌, ap}
use mathlib.Core.List.{List}
use Prim.Native.Nat.{ℕ, ◌+◌, ◌-◌, ◌*◌}
use native.Mathlib.Omega.{arith}
use lib.ListN.{length, take, drop, get_or}
use borrow.Author.Tests.{eq-eqb, ne_eqb}
use Rattle.std.specs.Prelude.{Result, Ok, Err}
use Rattle.refusal.specs.declared.Refusal.{Refusal}
use Rattle.refusal.specs.Order.{first_of}
use Rattle.refusal.proofs.First.{first-none}
use Rattle.record.specs.Record.{length_of, offset_of, type_of, data_of}
use Rattle.pieces.specs.Image.{Piece}
use Rattle.pieces.specs.Ways.{Placed}
use Rattle.ihex.specs.Reading.{data_address, upper_after, given_after, record_refusals}
use Rattle.ihex.specs.Ways.{RecordPlaced}
use Rattle.board.specs.declared.Board.{Board}

pub address_is : (upper word : ℕ) (r : List ℕ) → word ≡ get_or r 1 0 * 256 + get_or r 2 0 → upper * 0x10000 + word ≡ data_address upper r
unfolding data_address offset_of
address_is upper word r e = rw e

pub upper_here : (upper word : ℕ) (r : List ℕ) → get_or r 3 0 ≡ 4 → word ≡ get_or r 4 0 * 256 + get_or r 5 0 → word ≡ upper_after upper r
unfolding upper_after type_of
upper_here upper word r t e = rw (eq-eqb (get_or r 3 0) 4 t) e

pub upper_stays : (upper : ℕ) (r : List ℕ) → (get_or r 3 0 ≡ 4 → ⊥) → upper ≡ upper_after upper r
unfolding upper_after type_of
upper_stays upper r t = rw (ne_eqb (get_or r 3 0) 4 t)

pub data_is : (r : List ℕ) → length r ≡ 5 + length_of r → take (length r - 1 - 4) (drop 4 r) ≡ data_of r
unfolding data_of
data_is r l =
    let e : length r - 1 - 4 ≡ length_of r = omega arith in
    ap (λ (k : ℕ). take k (drop 4 r)) e

module _ (board : Board) (upper : ℕ) (ps : List Piece) (r : List ℕ) where
  pub no_data : (get_or r 3 0 ≡ 0 → ⊥) → (first_of (record_refusals board upper ps r) ≡ Ok tt) × (given_after upper ps r ≡ ps)
  unfolding record_refusals given_after type_of
  no_data t = (rw (ne_eqb (get_or r 3 0) 0 t) first-none, rw (ne_eqb (get_or r 3 0) 0 t))

  pub placed_laid : (d : Result ℕ Refusal) (a : ℕ) (xs bits image : List ℕ) → get_or r 3 0 ≡ 0 → a ≡ data_address upper r → xs ≡ data_of r → Placed board a xs ps bits image d → RecordPlaced board upper ps r bits image d
  unfolding record_refusals given_after type_of
  placed_laid (Err w) a xs bits image t is «data» h = rw (eq-eqb (get_or r 3 0) 0 t, ← is, ← «data») h
  placed_laid (Ok end) a xs bits image t is «data» h = (rw (eq-eqb (get_or r 3 0) 0 t, ← is, ← «data») h.0, rw (eq-eqb (get_or r 3 0) 0 t, ← is, ← «data») h.1)
