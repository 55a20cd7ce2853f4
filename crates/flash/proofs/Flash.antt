-- Laws of `each`, `stored` and `erased`: a turn of each loop, its end, and lengths. Assumes nothing.
use mathlib.Core.Path.{◌≡◌, refl, ap, ◌∙◌, sym}
use mathlib.Core.Bool.{Bool, true, false, cond, ◌&&◌, ◌||◌}
use mathlib.Core.List.{List, [], ◌∷◌, ◌++◌}
use Prim.Native.Nat.{ℕ, zero, suc, ◌+◌, ◌-◌, ◌≤◌, ◌<◌}
use native.Mathlib.Omega.{arith}
use native.Mathlib.Nat.{add_assoc}
use native.Mathlib.Numerals.{add-one}
use lib.Dec.{eqb}
use lib.ListN.{length, take, drop, get_or, set, take-append-drop, drop_of_length-le}
use lib.Seq.{drop-cons, take-suc, take-suc-set, drop-set-lt, append_snoc}
use Rattle.std.specs.List.{list_all, range_with_len}
use Rattle.laws.proofs.Split.{by_bool}
use Rattle.laws.proofs.Bytes.{filled-length}
use Rattle.board.specs.Layout.{page_bytes, page_from}
use Rattle.protection.specs.Protection.{write_protected}
use Rattle.board.specs.declared.Board.{Board}
use Rattle.flash.specs.Flash.{kept, each, laid, stored, erased, erased_from}

-- the test of some bytes of m, place by place
pub each_listed : (board : Board) (v word : ℕ) (m : List ℕ) (at count : ℕ) → at + count ≤ length m → list_all (λ i. eqb (get_or m i 0) v || kept board word i) (range_with_len at count) ≡ each board v word at count (drop at m)
unfolding each
each_listed board v word m at zero h = refl
each_listed board v word m at (suc count) h =
    let l : at < length m = omega arith in
    let later : list_all (λ i. eqb (get_or m i 0) v || kept board word i) (range_with_len (at + 1) count) ≡ each board v word (suc at) count (drop (suc at) m) = rw (← add-one at) (each_listed board v word m (at + 1) count (omega arith)) in
    rw (drop-cons m at 0 l) (ap (λ (b : Bool). (eqb (get_or m at 0) v || kept board word at) && b) later)

-- one byte stored, unless its page is write-protected
unfoldable pub stored_one : Board → ℕ → ℕ → ℕ → List ℕ → List ℕ
stored_one board word i x m = cond (kept board word i) m (set m i x)

module _ (board : Board) (word i x : ℕ) (m : List ℕ) (h : i < length m) where
  one_front : take (suc i) (stored_one board word i x m) ≡ take i m ++ (cond (kept board word i) (get_or m i 0) x ∷ [])
  unfolding stored_one
  one_front = by_bool (kept board word i) (λ e. rw e (take-suc m i 0 h)) (λ e. rw e (take-suc-set m i x h))

  one_back : drop (suc i) (stored_one board word i x m) ≡ drop (suc i) m
  unfolding stored_one
  one_back = by_bool (kept board word i) (λ e. rw e) (λ e. rw e (drop-set-lt (suc i) m i x (omega arith)))

  -- a byte at a time is the same as all at once
  pub stored_cons : (xs : List ℕ) → stored board word i (x ∷ xs) m ≡ stored board word (suc i) xs (stored_one board word i x m)
  unfolding stored laid
  stored_cons xs = sym (rw (one_front, one_back, drop-cons m i 0 h) (append_snoc (take i m) (cond (kept board word i) (get_or m i 0) x) (laid board word (suc i) xs (drop (suc i) m))))

-- a turn of the store, at the j-th byte of xs
stored_turn : (board : Board) (word : ℕ) (m xs : List ℕ) (at j : ℕ) → j < length xs → at + j < length m → stored board word (at + j) (drop j xs) m ≡ stored board word (at + (j + 1)) (drop (j + 1) xs) (stored_one board word (at + j) (get_or xs j 0) m)
stored_turn board word m xs at j h l = rw (drop-cons xs j 0 h, ← add_assoc at j 1, add-one (at + j), add-one j) (stored_cons board word (at + j) (get_or xs j 0) m l (drop (suc j) xs))

pub stored_open : (board : Board) (word : ℕ) (m m' xs : List ℕ) (at j : ℕ) → j < length xs → at + j < length m → kept board word (at + j) ≡ false → m' ≡ set m (at + j) (get_or xs j 0) → stored board word (at + (j + 1)) (drop (j + 1) xs) m' ≡ stored board word (at + j) (drop j xs) m
unfolding stored_one
stored_open board word m m' xs at j h l f e = sym (stored_turn board word m xs at j h l ∙ rw (f, e))

pub stored_kept : (board : Board) (word : ℕ) (m m' xs : List ℕ) (at j : ℕ) → j < length xs → at + j < length m → kept board word (at + j) ≡ true → m' ≡ m → stored board word (at + (j + 1)) (drop (j + 1) xs) m' ≡ stored board word (at + j) (drop j xs) m
unfolding stored_one
stored_kept board word m m' xs at j h l f e = sym (stored_turn board word m xs at j h l ∙ rw (f, e))

pub stored-none : (board : Board) (word i : ℕ) (m : List ℕ) → stored board word i [] m ≡ m
unfolding stored laid
stored-none board word i m = take-append-drop i m

pub stored_end : (board : Board) (word : ℕ) (m xs : List ℕ) (i j : ℕ) → length xs ≤ j → stored board word i (drop j xs) m ≡ m
stored_end board word m xs i j h = rw (drop_of_length-le xs h) (stored-none board word i m)

pub erased-length : (board : Board) (word page : ℕ) (m : List ℕ) → page_from board page + page_bytes board ≤ length m → length (erased board word page m) ≡ length m
unfolding erased
erased-length board word page m h =
    by_bool (write_protected word page) (λ e. rw e) (λ e. rw e (filled-length (page_from board page) (page_bytes board) 0xFF m h))

-- a turn of the erase of pages up to page e, and its end
pub pages_turn : (board : Board) (word : ℕ) (m : List ℕ) (page e : ℕ) → page < e → erased_from board word (e - page) page m ≡ erased_from board word (e - (page + 1)) (page + 1) (erased board word page m)
unfolding erased_from
pages_turn board word m page e h =
    let k : e - page ≡ suc (e - (page + 1)) = omega arith in
    rw (k, add-one page)

pub pages_end_lem : (board : Board) (word : ℕ) (m : List ℕ) (page e : ℕ) → e ≤ page → erased_from board word (e - page) page m ≡ m
unfolding erased_from
pages_end_lem board word m page e h =
    let k : e - page ≡ 0 = omega arith in
    rw k
