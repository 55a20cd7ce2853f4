-- The verdict that the work area gives is the verdict of all boards. Assumes nothing.
use mathlib.Core.Path.{◌≡◌, refl, ap, ◌∙◌, sym}
use mathlib.Core.Bool.{Bool, true, false, ◌&&◌}
use mathlib.Core.List.{List}
use Prim.Native.Nat.{ℕ, zero, suc, ◌+◌, ◌-◌, ◌≤◌, ◌<◌}
use native.Mathlib.Omega.{arith}
use native.Mathlib.Nat.{zero-add}
use lib.Dec.{eqb, ltb}
use lib.ListN.{length, get_or}
use borrow.Author.Tests.{eqb-false, eq-eqb, ne_eqb, ltb-true, ltb-false, not-true, not-false}
use Rattle.laws.proofs.Split.{by_bool, by_lt, by_eq, and_true}
use Rattle.board.specs.declared.Board.{Board}
use Rattle.board.specs.Layout.{flash_bytes, flash_from, option_bytes, memory_bytes}
use Rattle.board.specs.Memory.{flash_at, options_of}
use Rattle.board.specs.Sound.{Sound}
use Rattle.board.proofs.Options.{options-same, flash_outside_options}
use Rattle.device.specs.declared.Device.{Device}
use Rattle.device.specs.State.{started}
use Rattle.states.proofs.Form.{started-form}
use Rattle.laws.specs.Lists.{same, all_bytes}
use Rattle.line.specs.Event.{Event}
use Rattle.verdict.specs.declared.Verdict.TheVariants as verdict
use Rattle.loader.specs.World.{World, after}
use Rattle.demand.specs.Boards.{Fresh, fails_at}
use Rattle.demand.specs.Verdict.{end_fails, end_fault, pages_end, wanted_at, wrong_at, OnSome, OnNone, RunsClean, EndsWell, Judged}
use Rattle.marks.specs.Work.{Work, known, Sized}
use Rattle.cells.proofs.Actions.{option_same}
use Rattle.judgement.specs.Judgement.{begun, Over, fell, ended, over_of, suspect, lowest_from, flash_verdict, end_number, end_verdict, verdict_of}
use Rattle.cells.proofs.Likeness.{cell_of}
use Rattle.judgement.proofs.Events.{Stands}
use Rattle.judgement.proofs.Runs.{AllFit, run_ends, run-before, run-falls, fell_above}
use Rattle.judgement.proofs.Boards.{fresh_stands, plain, plain_fresh, plain_byte}

-- the lowest number at which a test holds
lowest_before : (test : ℕ → Bool) (count i : ℕ) → (j : ℕ) → i ≤ j → j < lowest_from test count i → test j ≡ false
unfolding lowest_from
lowest_before test zero i j a b = absurd (omega arith)
lowest_before test (suc count) i j a b =
    by_bool (test i) (λ t. absurd (let z : j < i = rw t at b in omega arith))
    (λ t. by_eq j i (λ e. rw e t) (λ e. lowest_before test count (suc i) j (omega arith) (rw t at b)))

lowest_here : (test : ℕ → Bool) (count i : ℕ) → lowest_from test count i < i + count → test (lowest_from test count i) ≡ true
unfolding lowest_from
lowest_here test zero i h = absurd (omega arith)
lowest_here test (suc count) i h =
    by_bool (test i) (λ t. rw t t)
    (λ t. rw t (lowest_here test count (suc i) (let z : lowest_from test count (suc i) < i + suc count = rw t at h in omega arith)))

-- the final boards: each stands where the device d and the work area w say, having begun as a fresh one
module _ (board : Board) (sound : Sound board) (es : List Event) (image card : List ℕ) (d : Device) (w : Work) (all : (x : World) → Fresh board card x → Stands board x.memory (after board es x) d w) where
  cell : (x : World) → Fresh board card x → (f : ℕ) → f < memory_bytes board → get_or (after board es x).memory f 0 ≡ cell_of w x.memory f
  cell x fr f h = (all x fr).alike.cells f h

  flash_in : (f : ℕ) → f < flash_bytes board → flash_from board + f < memory_bytes board
  flash_in f h = omega (arith, sound.flash_in_memory)

  -- a byte that is no suspect is right on every board
  clear : (f : ℕ) → f < flash_bytes board → suspect board image w f ≡ false → OnNone board card (wrong_at board es image f)
  unfolding suspect wrong_at
  clear f h e x fr =
      let p : ℕ = flash_from board + f in
      let is = cell x fr (flash_from board + f) (flash_in f h) in
      by_bool (ltb f (length image))
      (λ a.
      let k = and_true (known w (flash_from board + f)) (eqb (get_or w.values (flash_from board + f) 0) (get_or image f 0)) (not-false _ (rw a at e)) in
      rw (a, is, k.0, k.1))
      (λ a.
      by_bool (ltb f (pages_end board image))
      (λ b.
      let k = and_true (known w (flash_from board + f)) (eqb (get_or w.values (flash_from board + f) 0) 0xFF) (not-false _ (rw (a, b) at e)) in
      rw (a, b, is, k.0, k.1))
      (λ b.
      let k : known w (flash_from board + f) ≡ false = rw (a, b) at e in
      rw (a, b, is, k, eq-eqb (flash_at board x.memory f) (flash_at board x.memory f) refl)))

  module _ (lc : length card ≡ option_bytes) (bytes : all_bytes card ≡ true) where
    -- a board of bytes c whose byte at f is not the one that is wanted
    differs : (f c have want : ℕ) → ltb c 256 ≡ true → flash_at board (after board es (plain board card c)).memory f ≡ have → wanted_at board image (plain board card c) f ≡ want → (have ≡ want → ⊥) → OnSome board card (wrong_at board es image f)
    unfolding wrong_at
    differs f c have want small h v ne = record { world = plain board card c; fresh = plain_fresh board sound card c lc bytes small; shows = rw (h, v, ne_eqb have want ne) }

    known_is : (f c : ℕ) → ltb c 256 ≡ true → f < flash_bytes board → known w (flash_from board + f) ≡ true → flash_at board (after board es (plain board card c)).memory f ≡ get_or w.values (flash_from board + f) 0
    known_is f c small h k = cell (plain board card c) (plain_fresh board sound card c lc bytes small) (flash_from board + f) (flash_in f h) ∙ rw k

    own_is : (f c : ℕ) → ltb c 256 ≡ true → f < flash_bytes board → known w (flash_from board + f) ≡ false → flash_at board (after board es (plain board card c)).memory f ≡ c
    own_is f c small h k =
        let o = flash_outside_options board sound f h in
        cell (plain board card c) (plain_fresh board sound card c lc bytes small) (flash_from board + f) (flash_in f h) ∙ rw k (plain_byte board sound card c lc bytes small (flash_from board + f) (flash_in f h) o)

    -- a byte that must be v: the board's own is not, on one board or the other
    wanting : (f v : ℕ) → f < flash_bytes board → ((c : ℕ) → wanted_at board image (plain board card c) f ≡ v) → (known w (flash_from board + f) && eqb (get_or w.values (flash_from board + f) 0) v) ≡ false → OnSome board card (wrong_at board es image f)
    wanting f v h want e =
        by_bool (known w (flash_from board + f))
        (λ k. differs f 0 (get_or w.values (flash_from board + f) 0) v refl (known_is f 0 refl h k) (want 0) (eqb-false _ _ (rw k at e)))
        (λ k.
        by_eq v 0
        (λ z. differs f 1 1 v refl (own_is f 1 refl h k) (want 1) (λ q. let y : ◌≡◌ {A = ℕ} 1 0 = q ∙ z in omega arith))
        (λ z. differs f 0 0 v refl (own_is f 0 refl h k) (want 0) (λ q. z (sym q))))

    -- a suspect byte is wrong on some board
    shown : (f : ℕ) → f < flash_bytes board → suspect board image w f ≡ true → OnSome board card (wrong_at board es image f)
    unfolding suspect
    shown f h e =
        let o = flash_outside_options board sound f h in
        by_bool (ltb f (length image))
        (λ a. wanting f (get_or image f 0) h (λ c. rw a) (not-true _ (rw a at e)))
        (λ a.
        by_bool (ltb f (pages_end board image)) (λ b. wanting f 0xFF h (λ c. rw (a, b)) (not-true _ (rw (a, b) at e)))
        (λ b.
        let k : known w (flash_from board + f) ≡ true = rw (a, b) at e in
        let want : (c : ℕ) → ltb c 256 ≡ true → wanted_at board image (plain board card c) f ≡ c = λ c small. rw (a, b) (plain_byte board sound card c lc bytes small (flash_from board + f) (flash_in f h) o) in
        by_eq (get_or w.values (flash_from board + f) 0) 0
        (λ z. differs f 1 (get_or w.values (flash_from board + f) 0) 1 refl (known_is f 1 refl h k) (want 1 refl) (λ q. let y : ◌≡◌ {A = ℕ} 0 1 = sym z ∙ q in omega arith))
        (λ z. differs f 0 (get_or w.values (flash_from board + f) 0) 0 refl (known_is f 0 refl h k) (want 0 refl) z)))

  -- the options of every board
  options_are : (x : World) → Fresh board card x → options_of board (after board es x).memory ≡ options_of board w.values
  options_are x fr =
      let st = (all x fr).alike in
      options-same board sound (after board es x).memory w.values st.memory st.work.values (option_same board sound x.memory (after board es x).memory w st)

  -- the end conditions, of all boards at once
  unfoldable end_of_all : ℕ → Bool
  end_of_all = end_fails board d (same (options_of board w.values) card)

  end_same : (c : ℕ) (x : World) → Fresh board card x → end_fault board card c (after board es x) ≡ end_of_all c
  unfolding end_fault end_of_all
  end_same c x fr = rw ((all x fr).device, options_are x fr)

  module _ (lc : length card ≡ option_bytes) (bytes : all_bytes card ≡ true) (clean : RunsClean board es image card) where
    -- an end condition that fails, the ones before it holding
    ends_at : (c : ℕ) → end_of_all c ≡ true → ((j : ℕ) → j < c → end_of_all j ≡ false) → Judged board es image card (verdict.End c)
    ends_at c e below = (
      clean,
      record {
        here = record { world = plain board card 0; fresh = plain_fresh board sound card 0 lc bytes refl; shows = end_same c (plain board card 0) (plain_fresh board sound card 0 lc bytes refl) ∙ e };
        before = λ j h x fr. end_same j x fr ∙ below j h;
      },
    )

    flash_judged : ((c : ℕ) → end_of_all c ≡ false) → Judged board es image card (flash_verdict board (lowest_from (suspect board image w) (flash_bytes board) 0))
    flash_judged fine =
        let test = suspect board image w in
        let f = lowest_from test (flash_bytes board) 0 in
        let well : EndsWell board es image card = λ c x fr. end_same c x fr ∙ fine c in
        by_bool (ltb f (flash_bytes board))
        (λ b.
        let h : f < flash_bytes board = ltb-true _ _ b in
        let h' : f < 0 + flash_bytes board = omega arith in
        rw b (
          clean,
          well,
          h,
          record {
            here = shown lc bytes f h (lowest_here test (flash_bytes board) 0 h');
            before = λ j l. clear j (omega arith) (lowest_before test (flash_bytes board) 0 j (omega arith) l);
          },
        ))
        (λ b.
        let h : flash_bytes board ≤ f = ltb-false _ _ b in
        rw b (clean, well, λ j l. clear j l (lowest_before test (flash_bytes board) 0 j (omega arith) (omega arith))))

    past_three : (j : ℕ) → 4 ≤ j → end_of_all j ≡ false
    unfolding end_of_all end_fails
    past_three j h =
        let a : j ≡ 1 → ⊥ = λ e. omega arith in
        let b : j ≡ 2 → ⊥ = λ e. omega arith in
        let c : j ≡ 3 → ⊥ = λ e. omega arith in
        rw (ne_eqb j 1 a, ne_eqb j 2 b, ne_eqb j 3 c)

    end_before : (j : ℕ) → j < lowest_from end_of_all 3 1 → end_of_all j ≡ false
    unfolding end_of_all end_fails
    end_before j h = by_lt j 1 (λ l. let z : j ≡ 0 = omega arith in rw z) (λ l. lowest_before end_of_all 3 1 j l h)

    end_judged : Judged board es image card (end_verdict board image card d w)
    unfolding end_verdict end_number end_of_all
    end_judged =
        let c = lowest_from end_of_all 3 1 in
        by_bool (ltb c 4) (λ b. rw b (ends_at c (lowest_here end_of_all 3 1 (ltb-true _ _ b)) end_before))
        (λ b.
        let h : 4 ≤ c = ltb-false _ _ b in
        rw b (flash_judged (λ j. by_lt j 4 (λ l. end_before j (omega arith)) (λ l. past_three j l))))

-- by how the run over the work area comes out
by_over : {C : Type 0} (v : Over) → ((k : ℕ) → v ≡ fell k → C) → ((d : Device) (w : Work) → v ≡ ended d w → C) → C
by_over (fell k) f g = f k refl
by_over (ended d w) f g = g d w refl

-- the verdict of the work area is that of all boards
pub judged : (board : Board) (es : List Event) (image card : List ℕ) (w : Work) → Sound board → Sized board w → length card ≡ option_bytes → all_bytes card ≡ true → AllFit es → Judged board es image card (verdict_of board es image card w)
unfolding verdict_of
judged board es image card w sound sized lc bytes fit =
    let w₀ = begun board card w in
    let start : (x : World) → Fresh board card x → Stands board x.memory x (started board) (begun board card w) = fresh_stands board sound card w sized lc in
    by_over (over_of board es (started board) w₀ 0)
    (λ k e.
    let above : 0 < k = fell_above board es (started board) w₀ 0 k e in
    let j : ℕ = k - 1 in
    let is : k ≡ suc (k - 1) = omega arith in
    let e' : over_of board es (started board) w₀ 0 ≡ fell (suc (0 + (k - 1))) = e ∙ ap fell (is ∙ ap suc (sym (zero-add (k - 1)))) in
    let zero-board = plain board card 0 in
    let zero-fresh = plain_fresh board sound card 0 lc bytes refl in
    rw e (
      k - 1,
      is,
      record {
        here = record {
          world = zero-board;
          fresh = zero-fresh;
          shows = run-falls board sound zero-board.memory (λ i h o. plain_byte board sound card 0 lc bytes refl i h o) es zero-board (started board) w₀ 0 (k - 1) fit (started-form board sound) (start zero-board zero-fresh) e';
        };
        before = λ i h x fr. run-before board sound x.memory es x (started board) w₀ 0 (k - 1) fit (started-form board sound) (start x fr) e' i h;
      },
    ))
    (λ d w' e.
    let ends : (x : World) → Fresh board card x → ((j : ℕ) → fails_at board es j x ≡ false) × Stands board x.memory (after board es x) d w' =
    λ x fr. run_ends board sound x.memory es x (started board) w₀ 0 d w' fit (started-form board sound) (start x fr) e in
    rw e (end_judged board sound es image card d w' (λ x fr. (ends x fr).1) lc bytes (λ k x fr. (ends x fr).0 k)))
