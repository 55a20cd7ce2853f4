-- The first place that is in the way, as what a search through the list of places finds. Assumes nothing.
use mathlib.Core.Path.{◌≡◌, refl, ap, ◌∙◌}
use mathlib.Core.Bool.{Bool, not, ◌&&◌}
use mathlib.Core.List.{List}
use Prim.Native.Nat.{ℕ, zero, suc, ◌+◌}
use native.Mathlib.Omega.{arith}
use native.Mathlib.Numerals.{add-one}
use lib.Dec.{eqb}
use lib.ListN.{get_or}
use Rattle.std.specs.Prelude.{Option, None, Some, unwrap_or}
use Rattle.std.specs.Option.{option_map}
use Rattle.std.specs.List.{find, range_with_len}
use Rattle.laws.proofs.Split.{by_bool}
use Rattle.board.specs.Layout.{logger}
use Rattle.protection.specs.Protection.{word_of}
use Rattle.flash.specs.Flash.{kept}
use Rattle.trial.specs.Trial.{first_written}

-- the byte at place i is not erased, and not in a write-protected page
abbrev pub in_way : List ℕ → ℕ → Bool
in_way m i = not (eqb (get_or m i 0) 0xFF) && not (kept logger (word_of logger m) i)

written_listed : (m : List ℕ) (i n e : ℕ) → i + n ≡ e → unwrap_or (find (in_way m) (range_with_len i n)) e ≡ first_written m n i
unfolding first_written
written_listed m i zero e h = omega (arith, h)
written_listed m i (suc n) e h =
    let later : unwrap_or (find (in_way m) (range_with_len (i + 1) n)) e ≡ first_written m n (suc i) = rw (← add-one i) (written_listed m (i + 1) n e (omega (arith, h))) in
    by_bool (eqb (get_or m i 0) 0xFF) (λ a. rw a later)
    (λ a. by_bool (kept logger (word_of logger m) i) (λ b. rw (a, b) later) (λ b. rw (a, b) refl))

pub found_written : (m : List ℕ) (r : Option ℕ) (i n e : ℕ) → i + n ≡ e → option_map (λ (k : ℕ). k) r ≡ find (in_way m) (range_with_len i n) → unwrap_or r e ≡ first_written m n i
found_written m None i n e h f = ap (λ o. unwrap_or o e) f ∙ written_listed m i n e h
found_written m (Some k) i n e h f = ap (λ o. unwrap_or o e) f ∙ written_listed m i n e h
