-- The walk over a text, event by event, and the search at its end. Assumes nothing.
use mathlib.Core.Path.{◌≡◌, refl, sym, ap, subst, ◌∙◌}
use mathlib.Core.Bool.{Bool, not, ◌&&◌}
use mathlib.Core.List.{List}
use Prim.Native.Nat.{ℕ, zero, suc, ◌+◌, ◌≤◌, ◌<◌}
use native.Mathlib.Omega.{arith}
use native.Mathlib.Numerals.{add-one}
use lib.Dec.{eqb}
use lib.ListN.{length, get_or}
use borrow.Author.Tests.{lt-ltb, le-ltb}
use Rattle.std.specs.Prelude.{Option, None, Some, unwrap_or, IfSome}
use Rattle.std.specs.Option.{option_map}
use Rattle.std.specs.List.{find, range_with_len}
use Rattle.laws.proofs.Split.{by_bool}
use Rattle.board.specs.declared.Board.{Board}
use Rattle.board.specs.Layout.{flash_from}
use Rattle.demand.specs.Verdict.{pages_end}
use Rattle.marks.specs.Work.{Work, known}
use Rattle.judgement.specs.Judgement.{suspect, lowest_from}

-- the first number of a range at which the test holds is the lowest, and lies below the range's end
lowest_listed : (test : ℕ → Bool) (i n e : ℕ) → i + n ≡ e → unwrap_or (find test (range_with_len i n)) e ≡ lowest_from test n i
unfolding lowest_from
lowest_listed test i zero e h = omega (arith, h)
lowest_listed test i (suc n) e h =
    let later : unwrap_or (find test (range_with_len (i + 1) n)) e ≡ lowest_from test n (suc i) = rw (← add-one i) (lowest_listed test (i + 1) n e (omega (arith, h))) in
    by_bool (test i) (λ t. rw t refl) (λ t. rw t later)

listed_below : (test : ℕ → Bool) (i n e : ℕ) → i + n ≡ e → IfSome (find test (range_with_len i n)) (λ f. f < e)
listed_below test i zero e h = tt
listed_below test i (suc n) e h = by_bool (test i) (λ t. rw t (omega (arith, h))) (λ t. rw t (listed_below test (i + 1) n e (omega (arith, h))))

pub found_lowest : (test : ℕ → Bool) (r : Option ℕ) (n : ℕ) → option_map (λ (f : ℕ). f) r ≡ find test (range_with_len 0 n) → (unwrap_or r n ≡ lowest_from test n 0) × IfSome r (λ f. f < n)
found_lowest test None n e = (ap (λ o. unwrap_or o n) e ∙ lowest_listed test 0 n n (omega arith), tt)
found_lowest test (Some f) n e = (ap (λ o. unwrap_or o n) e ∙ lowest_listed test 0 n n (omega arith), subst (λ o. IfSome o (λ x. x < n)) (sym e) (listed_below test 0 n n (omega arith)))

-- the three kinds of offset, each with its test; flash begins at place `from`, and the byte has this value and is known or not
module _ (board : Board) (image : List ℕ) (w : Work) (f from : ℕ) (is_known : Bool) (value : ℕ) (o : from ≡ flash_from board) (k : is_known ≡ known w (from + f)) (v : value ≡ get_or w.values (from + f) 0) where
  pub suspect_image : f < length image → not (is_known && eqb value (get_or image f 0)) ≡ suspect board image w f
  unfolding suspect
  suspect_image h = rw (lt-ltb f (length image) h, k, v, o)

  pub suspect-rest : length image ≤ f → f < pages_end board image → not (is_known && eqb value 0xFF) ≡ suspect board image w f
  unfolding suspect
  suspect-rest h b = rw (le-ltb f (length image) h, lt-ltb f (pages_end board image) b, k, v, o)

  pub suspect_other : length image ≤ f → pages_end board image ≤ f → is_known ≡ suspect board image w f
  unfolding suspect
  suspect_other h b = rw (le-ltb f (length image) h, le-ltb f (pages_end board image) b, k, o)
