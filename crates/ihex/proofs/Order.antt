-- The refusals of reader and writer stand in the one order: of each line, at the end record, and of the writer. Assumes nothing.
use mathlib.Core.Path.{◌≡◌, refl}
use mathlib.Core.Bool.{true}
use mathlib.Core.List.{List, ◌++◌}
use Prim.Native.Nat.{ℕ}
use lib.Dec.{eqb}
use Rattle.laws.proofs.Split.{by_bool}
use Rattle.refusal.specs.Order.{met, before, before_all, in_order}
use Rattle.refusal.specs.Delivery.{with_output}
use Rattle.record.specs.Record.{record_in, type_of}
use Rattle.pieces.specs.Image.{Piece}
use Rattle.ihex.specs.Reading.{record_refusals, line_refusals, end_refusals}
use Rattle.ihex.specs.Writing.{hex_text, hex_write_refusals}
use Rattle.board.specs.declared.Board.{Board}

pub line_in_order : (board : Board) (k upper : ℕ) (ps : List Piece) (l : List ℕ) → in_order (line_refusals board k upper ps l) ≡ true
unfolding met before before_all in_order record_refusals line_refusals
line_in_order board k upper ps l = by_bool (eqb (type_of (record_in l)) 0) (λ e. rw e) (λ e. rw e)

pub end_in_order : (ps : List Piece) (ls : List (List ℕ)) → in_order (end_refusals ps ls) ≡ true
unfolding met before before_all in_order
end_in_order ps ls = refl

-- the line of the end record, what stands behind it, and 11 behind all
pub end_line_in_order : (board : Board) (k upper : ℕ) (ps : List Piece) (l : List ℕ) (ls : List (List ℕ)) (xs out : List ℕ) → type_of (record_in l) ≡ 1 → in_order (with_output (line_refusals board k upper ps l ++ end_refusals ps ls) xs out) ≡ true
unfolding met before before_all in_order record_refusals line_refusals
end_line_in_order board k upper ps l ls xs out t = rw t

pub write_in_order : (board : Board) (xs out : List ℕ) → in_order (with_output (hex_write_refusals board xs) (hex_text board xs) out) ≡ true
unfolding met before before_all in_order
write_in_order board xs out = refl
