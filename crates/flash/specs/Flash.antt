-- Erasing and writing flash under write protection. Document 01, the third read and write check and the paragraphs after it. Assumes nothing.
use Rattle.std.specs.Prelude.{Bool, true, cond, ◌&&◌, ◌||◌, List, [], ◌∷◌, ◌++◌, ℕ, zero, suc, eqb, take, drop}
use Rattle.laws.specs.Bytes.{filled}
use Rattle.board.specs.declared.Board.{Board}
use Rattle.board.specs.Layout.{flash_pages, page_bytes, page_from, page_at}
use Rattle.protection.specs.Protection.{write_protected}

-- the byte at place i of the memory buffer, one of flash, lies in a write-protected page
abbrev pub kept : Board → ℕ → ℕ → Bool
kept board word i = write_protected word (page_at board i)

-- of the first n of the bytes ms, which stand for places from i on, each is v or in a write-protected page
unfoldable pub each : Board → ℕ → ℕ → ℕ → ℕ → List ℕ → Bool
each board v word i zero ms = true
each board v word i (suc n) [] = true
each board v word i (suc n) (m ∷ ms) = (eqb m v || kept board word i) && each board v word (suc i) n ms

-- check 3, turned round: no "target byte in an unprotected page is not 0xFF"
unfoldable pub blank : Board → ℕ → ℕ → ℕ → List ℕ → Bool
blank board word at count m = each board 0xFF word at count (drop at m)

-- the bytes xs over the bytes ms, which stand from place i on, but for those in write-protected pages
unfoldable pub laid : Board → ℕ → ℕ → List ℕ → List ℕ → List ℕ
laid board word i [] ms = ms
laid board word i (x ∷ xs) [] = []
laid board word i (x ∷ xs) (m ∷ ms) = cond (kept board word i) m x ∷ laid board word (suc i) xs ms

-- "A write then stores its bytes, except in write-protected pages, which keep theirs"
unfoldable pub stored : Board → ℕ → ℕ → List ℕ → List ℕ → List ℕ
stored board word at xs m = take at m ++ laid board word at xs (drop at m)

-- "the page .. becomes 0xFF, or stays if write-protected"
unfoldable pub erased : Board → ℕ → ℕ → List ℕ → List ℕ
erased board word page m = cond (write_protected word page) m (filled (page_from board page) (page_bytes board) 0xFF m)

-- `count` pages from `page` on, one after the other
unfoldable pub erased_from : Board → ℕ → ℕ → ℕ → List ℕ → List ℕ
erased_from board word zero page m = m
erased_from board word (suc count) page m = erased_from board word count (suc page) (erased board word page m)

-- "Mass erase: .. every page not write-protected"
unfoldable pub erased_all : Board → ℕ → List ℕ → List ℕ
erased_all board word m = erased_from board word (flash_pages board) 0 m
