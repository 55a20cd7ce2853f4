-- A plan run over the work area ends with the image in place, and so it passes. Assumes nothing.
use mathlib.Core.Path.{◌≡◌, refl, ap, ◌∙◌, sym}
use mathlib.Core.Bool.{true, false}
use mathlib.Core.List.{List, [], ◌∷◌}
use Prim.Native.Nat.{ℕ, zero, suc, ◌+◌, ◌≤◌, ◌<◌}
use native.Mathlib.Omega.{arith}
use lib.ListN.{length, get_or, get_or-eq_default}
use lib.Seq.{ext_get_or}
use borrow.Author.Tests.{eq-eqb, lt-ltb, le-ltb}
use Rattle.laws.proofs.Split.{by_lt}
use Rattle.board.specs.declared.Board.{Board}
use Rattle.board.specs.Layout.{flash_pages, page_bytes, page_address, flash_first, flash_bytes, option_bytes, pages_of}
use Rattle.board.specs.Memory.{flash_at, options_of}
use Rattle.board.specs.Sound.{Sound}
use Rattle.board.proofs.Pages.{pages_hold}
use Rattle.board.proofs.Counts.{pages_in_flash}
use Rattle.board.proofs.Span.{first_placed}
use Rattle.board.proofs.Options.{options_at_lem, options-length}
use Rattle.protection.specs.Protection.{locked_from, word_from, any_protected}
use Rattle.protection.proofs.Protection.{none_parts}
use Rattle.request.specs.declared.Request.TheVariants.{Download}
use Rattle.mode.specs.declared.Mode.{Mode}
use Rattle.mode.specs.declared.Mode.TheVariants.{Idle, DownloadIdle, ManifestSync, Left}
use Rattle.mode.specs.Wire.{is_mode}
use Rattle.mode.specs.Table.{allowed_of}
use Rattle.states.specs.WellFormed.{in_region}
use Rattle.laws.proofs.Lists.{same_refl}
use Rattle.verdict.specs.declared.Verdict.TheVariants as verdict
use Rattle.demand.specs.Verdict.{end_fails, pages_end}
use Rattle.marks.specs.Work.{Work, Sized}
use Rattle.judgement.specs.Judgement.{begun, Over, ended, over_of, suspect, lowest_from, end_number, end_verdict, over_verdict, verdict_of}
use Rattle.judgement.proofs.Lowest.{lowest_none}
use Rattle.plan.specs.Plan.{padded, page_of, get_status, download, leaving, pages_from, plan_events, barred}
use Rattle.plan.proofs.Requests.{resting, start_free, idle_free, over_on, leave_moves, manifest_moves, pointer_polled}
use Rattle.plan.proofs.Written.{default_same}
use Rattle.plan.proofs.Image.{padded-two, page_most, page_some}
use Rattle.plan.proofs.Protected.{barred_parts}
use Rattle.plan.proofs.Pages.{Placed, begun_placed, placed_on, page_written, written_learns, page_polled}

-- the first flash address lies in a region
first_reached : (board : Board) → Sound board → in_region board (flash_first board) ≡ true
unfolding in_region
first_reached board sound = rw (first_placed board sound)

-- "Then set pointer 0x08000000, two GETSTATUS, DNLOAD of length 0, one GETSTATUS"
leaving-over : (board : Board) → Sound board → (mode : Mode) (p : ℕ) (w : Work) (k : ℕ) → is_mode 0 mode ≡ false → allowed_of Download mode ≡ true → over_of board (leaving board) (resting mode p) w k ≡ ended (resting Left (flash_first board)) w
unfolding over_of
leaving-over board sound mode p w k heard free =
    let first : ℕ = flash_first board in
    let short : flash_first board < 0x100000000 = omega (arith, sound.flash_addresses) in
    pointer_polled board (download 0 [] ∷ get_status ∷ []) mode heard free (flash_first board) p w k (first_reached board sound) short
    ∙ over_on board (download 0 []) (get_status ∷ []) (resting DownloadIdle first) (resting ManifestSync first) w w (suc (suc (suc k))) (leave_moves board DownloadIdle first w refl idle_free)
    ∙ over_on board get_status [] (resting ManifestSync first) (resting Left first) w w (suc (suc (suc (suc k)))) (manifest_moves board first w)

-- a run that ends with the image in place
record Arrives (board : Board) (image card : List ℕ) (over : Over) : Type 0 where
  work : Work
  placed : Placed board image card (pages_of board (length image)) work
  ends : over ≡ ended (resting Left (flash_first board)) work

arrives_from : (board : Board) (image card : List ℕ) (over next : Over) → over ≡ next → Arrives board image card next → Arrives board image card over
arrives_from board image card over next e r = record { work = r.work; placed = r.placed; ends = e ∙ r.ends }

-- the rest of a plan, from `page` on
module _ (board : Board) (sound : Sound board) (image card : List ℕ) (unlocked : locked_from 0 card ≡ false) (within : length image ≤ flash_bytes board) where
  pages-over : (count page : ℕ) (mode : Mode) (p : ℕ) (w : Work) (k : ℕ) → is_mode 0 mode ≡ false → allowed_of Download mode ≡ true → page + count ≡ pages_of board (length image) → any_protected (word_from board 0 card) count page ≡ false → Placed board image card page w → Arrives board image card (over_of board (pages_from board image count page) (resting mode p) w k)
  unfolding pages_from
  pages-over zero page mode p w k heard free all unbarred placed =
      let e : page ≡ pages_of board (length image) = omega arith in
      record { work = w; placed = rw e at placed; ends = leaving-over board sound mode p w k heard free }
  pages-over (suc count) page mode p w k heard free all unbarred placed =
      let word : ℕ = word_from board 0 card in
      let xs : List ℕ = padded (page_of board image page) in
      let parts = none_parts word count page unbarred in
      let below : page < pages_of board (length image) = omega arith in
      let inside : page < flash_pages board = omega (arith, pages_in_flash board sound (length image) within) in
      let two : 2 ≤ length xs = padded-two (page_of board image page) (page_some board sound image page below) in
      let most : length xs ≤ page_bytes board = page_most board sound image page in
      let learns = written_learns board sound page word xs card w placed.sized placed.options refl unlocked parts.0 inside two most in
      arrives_from board image card _ _
      (page_polled board sound page word xs card w placed.sized placed.options refl unlocked parts.0 inside two most (pages_from board image count (suc page)) mode p k heard free)
      (pages-over count (suc page) DownloadIdle (page_address board page) (page_written board word page xs w) (suc (suc (suc (suc (suc (suc (suc (suc (suc k))))))))) refl idle_free (omega arith) parts.1 (placed_on board sound page image card w (page_written board word page xs w) inside learns placed))

-- the image in place is what the verdict asks for
module _ (board : Board) (sound : Sound board) (image card : List ℕ) (w : Work) (lc : length card ≡ option_bytes) (placed : Placed board image card (pages_of board (length image)) w) where
  none-suspect : (f : ℕ) → f < flash_bytes board → suspect board image w f ≡ false
  unfolding suspect
  none-suspect f h =
      by_lt f (length image)
      (λ a.
      let b : f < pages_end board image = omega (arith, pages_hold board sound (length image)) in
      rw (lt-ltb f (length image) a, placed.knows f b, eq-eqb (flash_at board w.values f) (get_or image f 0) (placed.values f b ∙ default_same image f 0xFF 0 a)))
      (λ a.
      by_lt f (pages_end board image)
      (λ b. rw (le-ltb f (length image) a, lt-ltb f (pages_end board image) b, placed.knows f b, eq-eqb (flash_at board w.values f) 0xFF (placed.values f b ∙ get_or-eq_default image 0xFF a)))
      (λ b. rw (le-ltb f (length image) a, le-ltb f (pages_end board image) b) (placed.own f b h)))

  options_card : options_of board w.values ≡ card
  options_card =
      let l = options-length board sound w.values placed.sized.values in
      ext_get_or 0 (options_of board w.values) card (l ∙ sym lc)
      (λ k h. let b : k < option_bytes = omega arith in options_at_lem board w.values k b ∙ placed.options k b)

  placed_passes : end_verdict board image card (resting Left (flash_first board)) w ≡ verdict.Pass
  unfolding end_verdict end_number lowest_from end_fails
  placed_passes =
      let none : lowest_from (suspect board image w) (flash_bytes board) 0 ≡ 0 + flash_bytes board = lowest_none (suspect board image w) (flash_bytes board) 0 (λ j a b. none-suspect j (omega arith)) in
      let past : flash_bytes board ≤ 0 + flash_bytes board = omega arith in
      rw (options_card, same_refl card, none, eq-eqb (flash_first board) (flash_first board) refl, le-ltb (0 + flash_bytes board) (flash_bytes board) past)

pub plan_verdict : (board : Board) → Sound board → (image card : List ℕ) (w : Work) → Sized board w → length image ≤ flash_bytes board → length card ≡ option_bytes → barred board image card ≡ false → verdict_of board (plan_events board image) image card w ≡ verdict.Pass
unfolding verdict_of plan_events
plan_verdict board sound image card w s li lc unbarred =
    let parts = barred_parts board image card unbarred in
    let all : 0 + pages_of board (length image) ≡ pages_of board (length image) = omega arith in
    let run = pages-over board sound image card parts.0 li (pages_of board (length image)) 0 Idle (flash_first board) (begun board card w) 0 refl start_free all parts.1 (begun_placed board sound image card w s lc) in
    ap (over_verdict board image card) run.ends ∙ placed_passes board sound image card run.work lc run.placed
