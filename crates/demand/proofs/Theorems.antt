-- One verdict for one job, and what a pass means. Assumes nothing.
use mathlib.Core.Path.{◌≡◌, refl, ap, ◌∙◌, sym}
use mathlib.Core.Bool.{Bool, false, false≢true}
use mathlib.Core.List.{List}
use Prim.Native.Nat.{ℕ, suc, ◌≤◌, ◌<◌}
use native.Mathlib.Omega.{arith}
use lib.ListN.{length}
use borrow.Author.Tests.{eq-eqb, ne_eqb, eqb-true, lt-ltb, le-ltb, not-false}
use Rattle.std.specs.Prelude.{⊤, Result, Ok, Err}
use Rattle.laws.proofs.Split.{by_eq, by_lt}
use Rattle.board.specs.declared.Board.{Board}
use Rattle.board.specs.Layout.{logger, flash_first, flash_bytes}
use Rattle.board.specs.Memory.{flash_at}
use Rattle.board.specs.Sound.{Sound}
use Rattle.board.proofs.Logger.{logger-sound}
use Rattle.board.proofs.Pages.{pages_hold}
use Rattle.refusal.specs.declared.Refusal.{Refusal}
use Rattle.line.specs.Event.{Event}
use Rattle.text.specs.Text.{events_of, capital_text}
use Rattle.text.proofs.CapitalText.{capital_events}
use Rattle.job.proofs.Refusals.{capital_refusals}
use Rattle.refusal.proofs.First.{by_answer, First, first_exactly}
use Rattle.laws.proofs.Lists.{same_refl, same_eq}
use Rattle.verdict.specs.declared.Verdict.{Verdict}
use Rattle.verdict.specs.declared.Verdict.TheVariants as verdict
use Rattle.loader.specs.World.{World, after}
use Rattle.demand.specs.Boards.{Fresh, fails_at}
use Rattle.demand.specs.Verdict.{end_fails, end_fault, pages_end, wanted_at, wrong_at, OnSome, OnNone, Least, Judged}
use Rattle.demand.specs.Checked.{check_refusals, checkable, Ruled, Checked}
use Rattle.verdict.specs.Report.{Fields, in_fields}
use Rattle.demand.specs.Demand.{Works, AllWork}
use Rattle.demand.proofs.Supply.{checkable_parts}
use Rattle.verdict.proofs.Reading.{fields_injective}

-- no board shows a fault, and one does
contrary : {C : Type 0} (board : Board) (card : List ℕ) (fault : World → Bool) → OnNone board card fault → OnSome board card fault → C
contrary board card fault none some = absurd (false≢true (sym (none some.world some.fresh) ∙ some.shows))

-- there is one least fault
least_one : (board : Board) (card : List ℕ) (fault : ℕ → World → Bool) (x y : ℕ) → Least board card fault x → Least board card fault y → x ≡ y
least_one board card fault x y a b =
    by_lt x y (λ h. contrary board card (fault x) (b.before x h) a.here)
    (λ h. by_lt y x (λ g. contrary board card (fault y) (a.before y g) b.here) (λ g. let e : x ≡ y = omega arith in e))

module _ (board : Board) (es : List Event) (image card : List ℕ) where
  pass_only : (v : Verdict) → Judged board es image card verdict.Pass → Judged board es image card v → verdict.Pass ≡ v
  pass_only verdict.Pass p q = refl
  pass_only (verdict.Event k) p q = contrary board card _ (p.0 q.0) q.2.here
  pass_only (verdict.End c) p q = contrary board card _ (p.1 c) q.1.here
  pass_only (verdict.Flash f) p q = contrary board card _ (p.2 f q.2) q.3.here
  pass_only (verdict.Refused r) p q = absurd q

  event_only : (k : ℕ) (v : Verdict) → Judged board es image card (verdict.Event k) → Judged board es image card v → verdict.Event k ≡ v
  event_only k verdict.Pass p q = sym (pass_only (verdict.Event k) q p)
  event_only k (verdict.Event j) p q = ap verdict.Event (p.1 ∙ ap suc (least_one board card (fails_at board es) p.0 q.0 p.2 q.2) ∙ sym q.1)
  event_only k (verdict.End c) p q = contrary board card _ (q.0 p.0) p.2.here
  event_only k (verdict.Flash f) p q = contrary board card _ (q.0 p.0) p.2.here
  event_only k (verdict.Refused r) p q = absurd q

  end_only : (c : ℕ) (v : Verdict) → Judged board es image card (verdict.End c) → Judged board es image card v → verdict.End c ≡ v
  end_only c verdict.Pass p q = sym (pass_only (verdict.End c) q p)
  end_only c (verdict.Event k) p q = sym (event_only k (verdict.End c) q p)
  end_only c (verdict.End x) p q = ap verdict.End (least_one board card (λ y w. end_fault board card y (after board es w)) c x p.1 q.1)
  end_only c (verdict.Flash f) p q = contrary board card _ (q.1 c) p.1.here
  end_only c (verdict.Refused r) p q = absurd q

  flash_only : (f : ℕ) (v : Verdict) → Judged board es image card (verdict.Flash f) → Judged board es image card v → verdict.Flash f ≡ v
  flash_only f verdict.Pass p q = sym (pass_only (verdict.Flash f) q p)
  flash_only f (verdict.Event k) p q = sym (event_only k (verdict.Flash f) q p)
  flash_only f (verdict.End c) p q = sym (end_only c (verdict.Flash f) q p)
  flash_only f (verdict.Flash g) p q = ap verdict.Flash (least_one board card (wrong_at board es image) f g p.3 q.3)
  flash_only f (verdict.Refused r) p q = absurd q

  -- Two verdicts of one job, image and card are equal.
  pub one_verdict : (v u : Verdict) → Judged board es image card v → Judged board es image card u → v ≡ u
  one_verdict verdict.Pass u p q = pass_only u p q
  one_verdict (verdict.Event k) u p q = event_only k u p q
  one_verdict (verdict.End c) u p q = end_only c u p q
  one_verdict (verdict.Flash f) u p q = flash_only f u p q
  one_verdict (verdict.Refused r) u p q = absurd p

  -- what each of the three parts of Pass says of one board
  module _ (w : World) (fresh : Fresh board card w) (p : Judged board es image card verdict.Pass) where
    right_at : (f : ℕ) → f < flash_bytes board → flash_at board (after board es w).memory f ≡ wanted_at board image w f
    unfolding wrong_at
    right_at f h = eqb-true _ _ (not-false _ (p.2 f h w fresh))

    end_well : (c : ℕ) → end_fault board card c (after board es w) ≡ false
    end_well c = p.1 c w fresh

    pass_works : Sound board → length image ≤ flash_bytes board → Works board es image card w
    unfolding end_fault end_fails
    pass_works sound room =
        record {
          clean = λ k. p.0 k w fresh;
          started = not-false _ (end_well 1);
          first = eqb-true _ _ (not-false _ (end_well 2));
          image_placed = λ f h. let r : f < flash_bytes board = omega arith in right_at f r ∙ rw (lt-ltb f (length image) h);
          rest-erased = λ f a b r. right_at f r ∙ rw (le-ltb f (length image) a, lt-ltb f (pages_end board image) b);
          others_kept = λ f a r. let b : length image ≤ f = omega (arith, pages_hold board sound (length image)) in right_at f r ∙ rw (le-ltb f (length image) b, le-ltb f (pages_end board image) a);
          options-kept = same_eq _ _ (not-false _ (end_well 3));
        }

  -- and the other way round
  module _ (w : World) (works : Works board es image card w) where
    no_end : (c : ℕ) → end_fault board card c (after board es w) ≡ false
    unfolding end_fault end_fails
    no_end c =
        by_eq c 1 (λ e. rw (e, works.started))
        (λ a.
        by_eq c 2 (λ e. rw (e, eq-eqb (after board es w).device.pointer (flash_first board) works.first))
        (λ b.
        by_eq c 3 (λ e. rw (e, works.options-kept, same_refl card)) (λ d. rw (ne_eqb c 1 a, ne_eqb c 2 b, ne_eqb c 3 d))))

    wanted : (f : ℕ) → f < flash_bytes board → flash_at board (after board es w).memory f ≡ wanted_at board image w f
    wanted f r =
        by_lt f (length image) (λ a. rw (lt-ltb f (length image) a) (works.image_placed f a))
        (λ a.
        by_lt f (pages_end board image) (λ b. rw (le-ltb f (length image) a, lt-ltb f (pages_end board image) b) (works.rest-erased f a b r))
        (λ b. rw (le-ltb f (length image) a, le-ltb f (pages_end board image) b) (works.others_kept f b r)))

    no_wrong : (f : ℕ) → f < flash_bytes board → wrong_at board es image f w ≡ false
    unfolding wrong_at
    no_wrong f r = rw (eq-eqb _ _ (wanted f r))

  -- Pass holds exactly when every board runs the job cleanly and ends as demanded.
  pub pass_exactly : Sound board → length image ≤ flash_bytes board → (Judged board es image card verdict.Pass → AllWork board es image card) × (AllWork board es image card → Judged board es image card verdict.Pass)
  pass_exactly sound room = (
    λ p w fresh. pass_works w fresh p sound room,
    λ all. (λ k w fresh. (all w fresh).clean k, λ c w fresh. no_end w (all w fresh) c, λ f r w fresh. no_wrong w (all w fresh) f r),
  )

-- what the promise of `check` says of an answer v, and of the work area x that it leaves
module _ (board : Board) (t image card w : List ℕ) (v : Verdict) (x : List ℕ) (c : Checked board t image card w (in_fields v) x) where
  -- Where nothing is refused, v is the verdict of the text's events.
  pub checked_verdict : checkable board t (length image) (length card) (length w) ≡ Ok tt → Judged board (events_of t) image card v
  checked_verdict e =
      let p : (u : Verdict) × (in_fields v ≡ in_fields u) × Judged board (events_of t) image card u = rw e at c in
      rw (fields_injective v p.0 p.1) p.2

  -- Otherwise it is that refusal, and the work area is as it was.
  pub checked_refusal : (r : Refusal) → checkable board t (length image) (length card) (length w) ≡ Err r → (v ≡ verdict.Refused r) × (x ≡ w)
  checked_refusal r e =
      let p : (in_fields v ≡ in_fields (verdict.Refused r)) × (x ≡ w) = rw e at c in
      (fields_injective v (verdict.Refused r) p.0, p.1)

-- A refusal is the first row that applies.
pub check_refused_first : (board : Board) (t : List ℕ) (image card work : ℕ) (r : Refusal) → checkable board t image card work ≡ Err r → First (check_refusals board t image card work) r
unfolding checkable
check_refused_first board t image card work r e = (first_exactly (check_refusals board t image card work) (Err r)).0 e

-- Any two answers that the promise of `check` allows are equal.
pub one_answer : (board : Board) (t image card w : List ℕ) (v u : Verdict) (x y : List ℕ) → Checked board t image card w (in_fields v) x → Checked board t image card w (in_fields u) y → v ≡ u
one_answer board t image card w v u x y a b =
    by_answer (checkable board t (length image) (length card) (length w))
    (λ e. one_verdict board (events_of t) image card v u (checked_verdict board t image card w v x a e) (checked_verdict board t image card w u y b e))
    (λ r e. (checked_refusal board t image card w v x a r e).0 ∙ sym (checked_refusal board t image card w u y b r e).0)

-- After a refusal so are the work areas.
pub one_area : (board : Board) (t image card w : List ℕ) (v u : Verdict) (x y : List ℕ) (r : Refusal) → checkable board t (length image) (length card) (length w) ≡ Err r → Checked board t image card w (in_fields v) x → Checked board t image card w (in_fields u) y → x ≡ y
one_area board t image card w v u x y r e a b = (checked_refusal board t image card w v x a r e).1 ∙ sym (checked_refusal board t image card w u y b r e).1

-- The third demand: where `check` does not refuse, it answers Pass, `ACCEPT 0 0`, exactly when every board works.
pub demand_three : (board : Board) → Sound board → (t image card w : List ℕ) (v : Verdict) (x : List ℕ) → checkable board t (length image) (length card) (length w) ≡ Ok tt → Checked board t image card w (in_fields v) x → (v ≡ verdict.Pass → AllWork board (events_of t) image card) × (AllWork board (events_of t) image card → v ≡ verdict.Pass)
demand_three board sound t image card w v x e c =
    let j = checked_verdict board t image card w v x c e in
    let exactly = pass_exactly board (events_of t) image card sound (checkable_parts board t (length image) (length card) (length w) e).supply.most in (
      λ is. exactly.0 (rw is at j),
      λ all. one_verdict board (events_of t) image card v verdict.Pass j (exactly.1 all),
    )

-- And so on the logger's board, on which `check` runs.
pub logger_demand_three : (t image card w : List ℕ) (v : Verdict) (x : List ℕ) → checkable logger t (length image) (length card) (length w) ≡ Ok tt → Checked logger t image card w (in_fields v) x → (v ≡ verdict.Pass → AllWork logger (events_of t) image card) × (AllWork logger (events_of t) image card → v ≡ verdict.Pass)
logger_demand_three = demand_three logger logger-sound

capital_checkable : (board : Board) (t : List ℕ) (image card work : ℕ) → checkable board (capital_text t) image card work ≡ checkable board t image card work
unfolding checkable
capital_checkable board t image card work = rw (capital_refusals t)

-- texts of the same events are ruled alike
ruled_alike : (a : Result ⊤ Refusal) (board : Board) (t u image card w : List ℕ) (f : Fields) (x : List ℕ) → events_of t ≡ events_of u → Ruled a board t image card w f x → Ruled a board u image card w f x
ruled_alike (Ok _) board t u image card w f x e c = (c.0, c.1, rw e at c.2)
ruled_alike (Err r) board t u image card w f x e c = c

-- What the promise of `check` allows for a text, it allows for its capital spelling, and the other way round.
pub same_answer : (board : Board) (t image card w : List ℕ) (f : Fields) (x : List ℕ) → (Checked board t image card w f x → Checked board (capital_text t) image card w f x) × (Checked board (capital_text t) image card w f x → Checked board t image card w f x)
same_answer board t image card w f x =
    let a = checkable board t (length image) (length card) (length w) in
    let e : checkable board (capital_text t) (length image) (length card) (length w) ≡ a = capital_checkable board t (length image) (length card) (length w) in (
      λ c. rw e (ruled_alike a board t (capital_text t) image card w f x (sym (capital_events t)) c),
      λ c. ruled_alike a board (capital_text t) t image card w f x (capital_events t) (rw e at c),
    )

-- So the verdict of a text is that of its capital spelling.
pub spelling_answer : (board : Board) (t image card w : List ℕ) (v u : Verdict) (x y : List ℕ) → Checked board t image card w (in_fields v) x → Checked board (capital_text t) image card w (in_fields u) y → v ≡ u
spelling_answer board t image card w v u x y a b = one_answer board t image card w v u x y a ((same_answer board t image card w (in_fields u) y).1 b)

-- And texts with one capital spelling have one verdict: where a plan passes, so does its text in small letters.
pub one_spelling_one_answer : (board : Board) (t u image card w : List ℕ) (v o : Verdict) (x y : List ℕ) → capital_text t ≡ capital_text u → Checked board t image card w (in_fields v) x → Checked board u image card w (in_fields o) y → v ≡ o
one_spelling_one_answer board t u image card w v o x y e a b =
    let c = (same_answer board t image card w (in_fields v) x).0 a in
    one_answer board u image card w v o x y ((same_answer board u image card w (in_fields v) x).1 (rw e at c)) b
