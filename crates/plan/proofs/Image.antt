-- The bytes of an image's pages, and how many each page has. Assumes nothing.
use mathlib.Core.Path.{◌≡◌, refl, ◌∙◌}
use mathlib.Core.List.{List, [], ◌∷◌, ◌++◌}
use Prim.Native.Nat.{ℕ, zero, suc, ◌+◌, ◌-◌, ◌≤◌, ◌<◌}
use native.Mathlib.Omega.{arith}
use lib.Dec.{eqb}
use lib.ListN.{length, drop, get_or, length-append, length-drop}
use lib.Seq.{get_or-take, get_or-drop, length-take-le, take_all}
use borrow.Author.Tests.{eqb-false}
use Rattle.laws.proofs.Bytes.{take_at_most}
use Rattle.laws.proofs.Split.{by_bool, by_lt}
use Rattle.board.specs.declared.Board.{Board}
use Rattle.board.specs.Layout.{page_bytes, page_offset, pages_of}
use Rattle.board.specs.Sound.{Sound}
use Rattle.board.proofs.Pages.{pages_needed}
use Rattle.plan.specs.Plan.{padded, page_of}
use Rattle.plan.proofs.Lines.{padded-length, padded_at_most}

-- behind its end a list has its default, so that one more of it changes nothing
default_behind : (xs : List ℕ) (i d : ℕ) → get_or (xs ++ (d ∷ [])) i d ≡ get_or xs i d
default_behind [] zero d = refl
default_behind [] (suc i) d = refl
default_behind (x ∷ xs) zero d = refl
default_behind (x ∷ xs) (suc i) d = default_behind xs i d

padded_at : (xs : List ℕ) (i : ℕ) → get_or (padded xs) i 0xFF ≡ get_or xs i 0xFF
padded_at xs i = by_bool (eqb (length xs) 1) (λ e. rw e (default_behind xs i 0xFF)) (λ e. rw e)

-- a page's bytes are the image's, and 0xFF behind its end
pub page_at_lem : (board : Board) (image : List ℕ) (page j : ℕ) → j < page_bytes board → get_or (padded (page_of board image page)) j 0xFF ≡ get_or image (page_offset board page + j) 0xFF
page_at_lem board image page j h =
    padded_at (page_of board image page) j
    ∙ get_or-take (page_bytes board) (drop (page_offset board page) image) j 0xFF h
    ∙ get_or-drop (page_offset board page) image j 0xFF

pub padded-two : (xs : List ℕ) → 1 ≤ length xs → 2 ≤ length (padded xs)
padded-two xs h =
    by_bool (eqb (length xs) 1)
    (λ e. rw (e, length-append) (omega arith))
    (λ e. let z : length xs ≡ 1 → ⊥ = eqb-false _ _ e in rw e (more (length xs) h z))
  where
    more : (k : ℕ) → 1 ≤ k → (k ≡ 1 → ⊥) → 2 ≤ k
    more k a b = omega arith

module _ (board : Board) (sound : Sound board) (image : List ℕ) (page : ℕ) where
  pub page_most : length (padded (page_of board image page)) ≤ page_bytes board
  page_most =
      let most = take_at_most (page_bytes board) (drop (page_offset board page) image) in
      omega (arith, padded-length (page_of board image page), padded_at_most (length (page_of board image page)) (page_bytes board) sound.page_takes_two most)

  -- a page below the count has a byte at least
  pub page_some : page < pages_of board (length image) → 1 ≤ length (page_of board image page)
  page_some h =
      let begins = pages_needed board sound (length image) page h in
      let l : length (drop (page_offset board page) image) ≡ length image - page_offset board page = length-drop (page_offset board page) image in
      by_lt (length (drop (page_offset board page) image)) (page_bytes board)
      (λ a. let b : length (drop (page_offset board page) image) ≤ page_bytes board = omega arith in rw (take_all (page_bytes board) (drop (page_offset board page) image) b) (omega arith))
      (λ a. rw (length-take-le (page_bytes board) (drop (page_offset board page) image) a) (omega (arith, sound.page_takes_two)))
