-- Lengths that the code goes by: no rule of the paper. Assumes nothing.
use Rattle.std.specs.Prelude.{cond, List, ℕ, ◌+◌, ◌*◌, ltb, length, Result}
use Rattle.refusal.specs.declared.Refusal.{Refusal}
use Rattle.refusal.specs.Order.{first_of}
use Rattle.refusal.specs.Delivery.{counted}
use Rattle.text.specs.Text.{limit, text_of}
use Rattle.packed.specs.Packed.{first_piece, well_packed, unpacked}
use Rattle.packed.specs.Calls.{packed_refusals}

-- how many bytes the first event takes; 0 where it is not well packed
unfoldable pub piece_length : List ℕ → ℕ
piece_length p = cond (well_packed (first_piece p)) (length (first_piece p)) 0

-- how long the line of a well-packed event of n bytes is
unfoldable pub line_size : ℕ → ℕ
line_size n = cond (ltb n 9) 2 (n * 2 + 2)

-- a length, or just over the limit where it is over the limit
unfoldable pub capped : ℕ → ℕ
capped n = cond (ltb limit n) (limit + 1) n

-- 5, or how long the text of a packed list is, counted no further than one over the limit
unfoldable pub size_of : List ℕ → Result ℕ Refusal
size_of p = counted (first_of (packed_refusals p)) (capped (length (text_of (unpacked p))))
