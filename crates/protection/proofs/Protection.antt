-- Laws of `write_protected` and `any_protected`, and what protection looks at. Assumes nothing.
use mathlib.Core.Path.{◌≡◌, refl, ap, ap₂, ◌∙◌, sym}
use mathlib.Core.Bool.{Bool, true, false, not, ◌||◌}
use Prim.Native.Nat.{ℕ, zero, suc, ◌+◌, ◌*◌, ◌≤◌, ◌<◌, ◌^◌}
use native.Mathlib.Omega.{arith}
use native.Mathlib.Numerals.{add-one}
use native.Mathlib.Nat.{add-zero, pow-le-pow_right, div-eq_of_lt, lt_of_lt_of_le}
use mathlib.Core.List.{List}
use lib.Dec.{eqb}
use lib.ListN.{get_or}
use Rattle.laws.proofs.Split.{by_eq, or_false}
use Rattle.std.specs.List.{list_any, range_with_len}
use Rattle.board.specs.declared.Board.{Board}
use Rattle.board.specs.Layout.{options_from, option_bytes}
use Rattle.protection.specs.Protection.{locked_from, word_from, read_protected, word_of, write_protected, any_protected}

-- a page past the bits of the word is protected
pub protected_past : (word page : ℕ) → word < 2 ^ 32 → 32 ≤ page → write_protected word page ≡ true
unfolding write_protected
protected_past word page w h =
    let two : 0 < 2 = omega arith in
    let small : word < 2 ^ page = lt_of_lt_of_le w (pow-le-pow_right two h) in
    rw (div-eq_of_lt small)

-- one of some pages in turn is protected
pub any_listed : (word count page : ℕ) → list_any (write_protected word) (range_with_len page count) ≡ any_protected word count page
unfolding any_protected
any_listed word zero page = refl
any_listed word (suc count) page =
    ap (λ (b : Bool). write_protected word page || b) (any_listed word count (page + 1) ∙ ap (any_protected word count) (add-one page))

-- where no page is protected, the first is not, and none of the others
pub none_parts : (word count page : ℕ) → any_protected word (suc count) page ≡ false → (write_protected word page ≡ false) × (any_protected word count (suc page) ≡ false)
unfolding any_protected
none_parts word count page e = or_false (write_protected word page) (any_protected word count (suc page)) e

pub none_at : (word count page : ℕ) → any_protected word count page ≡ false → (i : ℕ) → page ≤ i → i < page + count → write_protected word i ≡ false
none_at word zero page e i a b = absurd (omega arith)
none_at word (suc count) page e i a b =
    let parts = none_parts word count page e in
    by_eq i page (λ h. ap (write_protected word) h ∙ parts.0) (λ h. none_at word count (suc page) parts.1 i (omega arith) (omega arith))

-- protection looks at the option bytes alone
module _ (board : Board) (m w : List ℕ) (same : (k : ℕ) → k < option_bytes → get_or m (options_from board + k) 0 ≡ get_or w (options_from board + k) 0) where
  pub word_by_options : word_of board m ≡ word_of board w
  unfolding word_of word_from
  word_by_options = ap₂ (λ (a b : ℕ). a + b * 256) (same 8 (omega arith)) (same 9 (omega arith))

  pub protection_by_options : read_protected board m ≡ read_protected board w
  unfolding read_protected locked_from
  protection_by_options =
      let first : get_or m (options_from board) 0 ≡ get_or w (options_from board) 0 = ap (λ (k : ℕ). get_or m k 0) (sym (add-zero (options_from board))) ∙ same 0 (omega arith) ∙ ap (λ (k : ℕ). get_or w k 0) (add-zero (options_from board)) in
      ap (λ (k : ℕ). not (eqb k 0xAA)) first

-- the option bytes of a memory protect as they do on a card
module _ (board : Board) (m card : List ℕ) (same : (k : ℕ) → k < option_bytes → get_or m (options_from board + k) 0 ≡ get_or card k 0) where
  pub word_by_card : word_of board m ≡ word_from board 0 card
  unfolding word_of word_from
  word_by_card = ap₂ (λ (a b : ℕ). a + b * 256) (same 8 (omega arith)) (same 9 (omega arith))

  pub protection_by_card : read_protected board m ≡ locked_from 0 card
  unfolding read_protected locked_from
  protection_by_card =
      let first : get_or m (options_from board) 0 ≡ get_or card 0 0 = ap (λ (k : ℕ). get_or m k 0) (sym (add-zero (options_from board))) ∙ same 0 (omega arith) in
      ap (λ (k : ℕ). not (eqb k 0xAA)) first
