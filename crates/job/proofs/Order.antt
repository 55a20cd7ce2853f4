-- The refusals of reader and writer stand in document 01's order, 5 "before 9 and 11". Assumes nothing.
use mathlib.Core.Path.{◌≡◌, refl}
use mathlib.Core.Bool.{true}
use mathlib.Core.List.{List}
use Prim.Native.Nat.{ℕ}
use Rattle.refusal.specs.Order.{met, before, before_all, in_order}
use Rattle.refusal.specs.Delivery.{with_output}
use Rattle.text.specs.Text.{text_of, events_of}
use Rattle.packed.specs.Packed.{packed_of, unpacked}
use Rattle.packed.specs.Calls.{write_refusals}
use Rattle.job.specs.Calls.{text_refusals}

pub read_in_order : (t out : List ℕ) → in_order (with_output (text_refusals t) (packed_of (events_of t)) out) ≡ true
unfolding met before before_all in_order
read_in_order t out = refl

pub write_in_order : (p out : List ℕ) → in_order (with_output (write_refusals p) (text_of (unpacked p)) out) ≡ true
unfolding met before before_all in_order
write_in_order p out = refl
