-- What document 01 prints of the logger's plans: the job of the image 5A under "Bench cases", and the length of the longest. Examples, computed
-- with the logger's numbers: where those change, these change with them, and no other proof cites them. Assumes nothing.
use mathlib.Core.Path.{◌≡◌, refl, ap, ◌∙◌}
use mathlib.Core.List.{List, [], ◌∷◌, ◌++◌}
use Prim.Native.Nat.{ℕ, ◌≤◌}
use native.Mathlib.Omega.{arith}
use lib.ListN.{length}
use Rattle.board.specs.Layout.{logger, flash_pages, page_bytes, page_offset, flash_bytes, flash_first, pages_of, page_rest}
use Rattle.board.proofs.Logger.{logger-sound}
use Rattle.digit.specs.Digit.{digit_of}
use Rattle.hexfield.specs.Hex.{hex_of}
use Rattle.line.specs.Event.{line_of}
use Rattle.text.specs.Text.{text_of}
use Rattle.ihex.specs.Ways.{text_bytes}
use Rattle.plan.specs.Plan.{pages_from, plan_events, plan_of}
use Rattle.plan.specs.Parts.{plan_bytes}
use Rattle.plan.proofs.Length.{plan_length, bytes_most}

-- Q>2101000000000500>4100000008
erase : List ℕ
erase = 81 ∷ 9 ∷ 50 ∷ 49 ∷ 48 ∷ 49 ∷ 48 ∷ 48 ∷ 48 ∷ 48 ∷ 48 ∷ 48 ∷ 48 ∷ 48 ∷ 48 ∷ 53 ∷ 48 ∷ 48 ∷ 9 ∷ 52 ∷ 49 ∷ 48 ∷ 48 ∷ 48 ∷ 48 ∷ 48 ∷ 48 ∷ 48 ∷ 56 ∷ 10 ∷ []

-- Q>2101000000000500>2100000008
point : List ℕ
point = 81 ∷ 9 ∷ 50 ∷ 49 ∷ 48 ∷ 49 ∷ 48 ∷ 48 ∷ 48 ∷ 48 ∷ 48 ∷ 48 ∷ 48 ∷ 48 ∷ 48 ∷ 53 ∷ 48 ∷ 48 ∷ 9 ∷ 50 ∷ 49 ∷ 48 ∷ 48 ∷ 48 ∷ 48 ∷ 48 ∷ 48 ∷ 48 ∷ 56 ∷ 10 ∷ []

-- Q>2101020000000200>5AFF
block : List ℕ
block = 81 ∷ 9 ∷ 50 ∷ 49 ∷ 48 ∷ 49 ∷ 48 ∷ 50 ∷ 48 ∷ 48 ∷ 48 ∷ 48 ∷ 48 ∷ 48 ∷ 48 ∷ 50 ∷ 48 ∷ 48 ∷ 9 ∷ 53 ∷ 65 ∷ 70 ∷ 70 ∷ 10 ∷ []

-- Q>2101000000000000>
leave : List ℕ
leave = 81 ∷ 9 ∷ 50 ∷ 49 ∷ 48 ∷ 49 ∷ 48 ∷ 48 ∷ 48 ∷ 48 ∷ 48 ∷ 48 ∷ 48 ∷ 48 ∷ 48 ∷ 48 ∷ 48 ∷ 48 ∷ 9 ∷ 10 ∷ []

-- Q>A103000000000600>
status : List ℕ
status = 81 ∷ 9 ∷ 65 ∷ 49 ∷ 48 ∷ 51 ∷ 48 ∷ 48 ∷ 48 ∷ 48 ∷ 48 ∷ 48 ∷ 48 ∷ 48 ∷ 48 ∷ 54 ∷ 48 ∷ 48 ∷ 9 ∷ 10 ∷ []

pub printed : List ℕ
printed = erase ++ status ++ status ++ point ++ status ++ status ++ block ++ status ++ status ++ point ++ status ++ status ++ leave ++ status

pub plan_of_5_a : plan_of logger (0x5A ∷ []) ≡ printed
unfolding printed erase point block leave status plan_of plan_events pages_from text_of line_of hex_of digit_of pages_of page_offset page_bytes flash_first
plan_of_5_a = refl

-- "314 bytes"
pub length_of_5_a : length printed ≡ 314
unfolding printed erase point block leave status
length_of_5_a = refl

-- "The longest is 36,078 bytes"
longest : plan_bytes logger (flash_bytes logger) ≡ 36078
unfolding plan_bytes flash_bytes page_offset flash_pages page_bytes pages_of page_rest
longest = refl

pub plan_at_most : (image : List ℕ) → length image ≤ flash_bytes logger → length (plan_of logger image) ≤ 36078
plan_at_most image h = omega (arith, plan_length logger logger-sound image, bytes_most logger logger-sound (length image) h, longest)

-- and an image of the whole flash has one as long
pub plan_longest : (image : List ℕ) → length image ≡ flash_bytes logger → length (plan_of logger image) ≡ 36078
plan_longest image h = plan_length logger logger-sound image ∙ ap (plan_bytes logger) h ∙ longest

-- and the HEX of an image of the whole flash, which no text of the writer is longer than
pub longest_hex : text_bytes (flash_bytes logger) ≡ 45084
unfolding flash_bytes page_offset flash_pages page_bytes
longest_hex = refl
