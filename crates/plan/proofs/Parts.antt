-- The parts of the plan, laid one behind the other. Assumes nothing.
use mathlib.Core.Path.{◌≡◌, refl, ap, ap₂, ◌∙◌, sym, subst}
use mathlib.Core.List.{List, [], ◌∷◌, ◌++◌}
use Prim.Native.Nat.{ℕ, ◌+◌, ◌-◌, ◌*◌, ◌≤◌, ◌<◌}
use native.Mathlib.Omega.{arith}
use lib.ListN.{length, take, drop, length-append, length-drop}
use lib.Seq.{sets, take_all}
use borrow.Author.Tests.{lt-ltb, le-ltb}
use Rattle.laws.specs.Bytes.{put}
use Rattle.laws.proofs.Append.{sets-append}
use Rattle.laws.proofs.Bytes.{sets-put, rest_is, take_at_most}
use Rattle.laws.proofs.Split.{by_lt}
use Rattle.board.specs.declared.Board.{Board}
use Rattle.board.specs.Layout.{flash_pages, page_bytes, page_offset, page_address, flash_first, flash_bytes, pages_of}
use Rattle.board.specs.Sound.{Sound}
use Rattle.board.proofs.Pages.{page_in_flash, pages_needed}
use Rattle.board.proofs.Counts.{pages_in_flash}
use Rattle.buffer.specs.Least.{least_of}
use Rattle.request.specs.Request.{transfer_bytes}
use Rattle.line.specs.Event.{request, line_of}
use Rattle.plan.specs.Plan.{download, get_status, erase_page, set_pointer, padded, page_of}
use Rattle.plan.specs.Parts.{polled_text, page_text, leaving_text, Laid, status_line_bytes, sent_bytes, leaving_bytes, padded_length, page_lines}
use Rattle.plan.proofs.Lines.{line-fits, line-count, status-length, polled-text, command-length, leaving-text, leave_length}

pub line-laid : (q m m' : List ℕ) (at : ℕ) → 8 ≤ length q → at + (20 + (length q - 8) * 2) ≤ length m → m' ≡ put at (line_of (request q)) m → m' ≡ sets m at (line_of (request q))
line-laid q m m' at h room e = e ∙ sym (sets-put (line_of (request q)) m at (line-fits q at (length m) h room).1)

laid_behind : (xs ys m m₁ m₂ : List ℕ) (at a n : ℕ) → length xs ≡ n → m₁ ≡ sets m at xs → a ≡ at + n → m₂ ≡ sets m₁ a ys → m₂ ≡ sets m at (xs ++ ys)
laid_behind xs ys m m₁ m₂ at a n l p e q =
    let k : a ≡ at + length xs = omega arith in
    q ∙ ap₂ (λ (z : List ℕ) (i : ℕ). sets z i ys) p k ∙ sym (sets-append xs ys m at)

-- a request with its two GETSTATUS
pub send_laid : (q m m₁ m₂ m₃ : List ℕ) (at n b r : ℕ) → 8 ≤ length q → at + sent_bytes (length q - 8) ≤ length m → (m₁ ≡ put at (line_of (request q)) m) × (n ≡ length (line_of (request q))) → Laid m₁ (at + n) (line_of get_status) status_line_bytes m₂ b → Laid m₂ b (line_of get_status) status_line_bytes m₃ r → Laid m at (polled_text (request q)) (sent_bytes (length q - 8)) m₃ r
send_laid q m m₁ m₂ m₃ at n b r h room w p s =
    let l = line_of (request q) in
    let g = line_of get_status in
    let k : n ≡ 20 + (length q - 8) * 2 = line-count q n w.1 h in
    let e : b ≡ at + (n + status_line_bytes) = let z = p.1 in omega arith in
    let t : length (l ++ g) ≡ n + status_line_bytes = length-append l g ∙ ap₂ (λ (i : ℕ) (j : ℕ). i + j) (sym w.1) status-length in
    let first : m₁ ≡ sets m at l = line-laid q m m₁ at h (omega arith) w.0 in
    let second : m₂ ≡ sets m at (l ++ g) = laid_behind l g m m₁ m₂ at (at + n) n (sym w.1) first refl p.0 in
    let third : m₃ ≡ sets m at (l ++ g ++ g) = laid_behind (l ++ g) g m m₂ m₃ at b (n + status_line_bytes) t second e s.0 in
    let z = p.1 in
    let y = s.1 in
    (rw (polled-text (request q)) third, omega arith)

-- one page of an image that fits: it lies in flash, begins within the image, and its address and its end are short
pub page_within : (board : Board) → Sound board → (page image : ℕ) → image ≤ flash_bytes board → page < pages_of board image → (page < flash_pages board) × (page_offset board page < image) × (flash_first board + page_offset board page < 0x100000000) × (page_offset board page + page_bytes board < 0x100000000)
page_within board sound page image h more =
    let below : page < flash_pages board = omega (arith, pages_in_flash board sound image h) in
    (below, pages_needed board sound image page more, omega (arith, page_in_flash board page below, sound.page_takes_two, sound.flash_addresses), omega (arith, page_in_flash board page below, sound.flash_addresses))

-- its part of the image, cut out by its two ends
module _ (board : Board) (image : List ℕ) (page from size end : ℕ) (begins : from ≡ page_offset board page) (whole : size ≡ page_bytes board) (ends : end ≡ least_of (from + size) (length image)) where
  pub page_starts : from < length image → from ≤ end
  page_starts h =
      by_lt (from + size) (length image)
      (λ a. let e : end ≡ from + size = ends ∙ rw (lt-ltb (from + size) (length image) a) in omega arith)
      (λ a. let e : end ≡ length image = ends ∙ rw (le-ltb (from + size) (length image) a) in omega arith)

  pub page_part : take (end - from) (drop from image) ≡ page_of board image page
  page_part =
      by_lt (from + size) (length image)
      (λ a.
      let e : end ≡ from + size = ends ∙ rw (lt-ltb (from + size) (length image) a) in
      let k : end - from ≡ size = omega arith in
      rw (k, begins, whole))
      (λ a.
      let e : end ≡ length image = ends ∙ rw (le-ltb (from + size) (length image) a) in
      let l : length (drop from image) ≤ size = simp length-drop (omega arith) in
      rw e (rest_is from image ∙ sym (rw (← begins, ← whole) (take_all size (drop from image) l))))

-- its three requests
module _ (board : Board) (image : List ℕ) (page : ℕ) where
  pub page_room : (at n : ℕ) → at + page_lines board image page ≤ n → at + sent_bytes 5 + sent_bytes 5 + sent_bytes (padded_length (length (page_of board image page))) ≤ n
  unfolding page_lines
  page_room at n h = omega arith

  pub block_room : Sound board → (xs : List ℕ) (b n : ℕ) → xs ≡ page_of board image page → b + sent_bytes (padded_length (length (page_of board image page))) ≤ n → (length xs ≤ transfer_bytes) × (b + sent_bytes (padded_length (length xs)) ≤ n)
  block_room sound xs b n e room =
      let s : length xs ≤ page_bytes board = rw e (take_at_most (page_bytes board) (drop (page_offset board page) image)) in
      let t = ap (λ (ys : List ℕ). padded_length (length ys)) e in
      (omega (arith, sound.page_in_transfer), omega arith)

  pub page_laid : (xs m m₁ m₂ m₃ : List ℕ) (address at a b r : ℕ) → xs ≡ page_of board image page → address ≡ page_address board page → Laid m at (polled_text (erase_page address)) (sent_bytes 5) m₁ a → Laid m₁ a (polled_text (set_pointer address)) (sent_bytes 5) m₂ b → Laid m₂ b (polled_text (download 2 (padded xs))) (sent_bytes (padded_length (length xs))) m₃ r → Laid m at (page_text board image page) (page_lines board image page) m₃ r
  unfolding page_text page_lines
  page_laid xs m m₁ m₂ m₃ address at a b r e place p q s =
      let first = polled_text (erase_page address) in
      let second = polled_text (set_pointer address) in
      let third = polled_text (download 2 (padded (page_of board image page))) in
      let l : length first ≡ sent_bytes 5 = command-length 0x41 address in
      let k : length second ≡ sent_bytes 5 = command-length 0x21 address in
      let t : length (first ++ second) ≡ sent_bytes 5 + sent_bytes 5 = length-append first second ∙ ap₂ (λ (i : ℕ) (j : ℕ). i + j) l k in
      let u : Laid m₂ b third (sent_bytes (padded_length (length (page_of board image page)))) m₃ r = subst (λ (ys : List ℕ). Laid m₂ b (polled_text (download 2 (padded ys))) (sent_bytes (padded_length (length ys))) m₃ r) e s in
      let both : m₂ ≡ sets m at (first ++ second) = laid_behind first second m m₁ m₂ at a (sent_bytes 5) l p.0 p.1 q.0 in
      let x = p.1 in
      let y = q.1 in
      let z = u.1 in
      (rw (← place) (laid_behind (first ++ second) third m m₂ m₃ at b (sent_bytes 5 + sent_bytes 5) t both (omega arith) u.0), omega arith)

-- the end
pub leave_laid : (board : Board) (m m₁ m₂ m₃ : List ℕ) (address at a n : ℕ) → address ≡ flash_first board → length m₁ ≡ length m → at + leaving_bytes ≤ length m → Laid m at (polled_text (set_pointer address)) (sent_bytes 5) m₁ a → (m₂ ≡ put a (line_of (download 0 [])) m₁) × (n ≡ length (line_of (download 0 []))) → m₃ ≡ sets m₂ (a + n) (line_of get_status) → m₃ ≡ sets m at (leaving_text board)
leave_laid board m m₁ m₂ m₃ address at a n place same room p w s =
    let first = polled_text (set_pointer address) in
    let second = line_of (download 0 []) in
    let l : length first ≡ sent_bytes 5 = command-length 0x21 address in
    let k : n ≡ 20 = w.1 ∙ leave_length in
    let e = p.1 in
    let t : length (first ++ second) ≡ sent_bytes 5 + n = length-append first second ∙ ap₂ (λ (i : ℕ) (j : ℕ). i + j) l (sym w.1) in
    let laid : m₂ ≡ sets m₁ a second = line-laid (0x21 ∷ 1 ∷ 0 ∷ 0 ∷ 0 ∷ 0 ∷ 0 ∷ 0 ∷ []) m₁ m₂ a (omega arith) (omega arith) w.0 in
    let both : m₂ ≡ sets m at (first ++ second) = laid_behind first second m m₁ m₂ at a (sent_bytes 5) l p.0 p.1 laid in
    rw (leaving-text board, ← place) (laid_behind (first ++ second) (line_of get_status) m m₂ m₃ at (a + n) (sent_bytes 5 + n) t both (omega arith) s)
