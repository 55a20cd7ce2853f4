-- `ihex::walk` meets its contract. Assumes nothing.
use native.Mathlib.Omega.{arith}
use Rattle.ihex.specs.Reading.{upper_after}
use Rattle.ihex.proofs.Walking.{sofar_start, stops, walk_over, walk_bad, walk_refused, walk_on, walk_ends, line-within, line_read, line_bad_read, laid_refused, laid-bytes}
use borrow.Author.Rules.{rules}
use lib.ListN.{length}
use Prim.Native.Nat.{ℕ, ◌+◌, ◌≤◌}
use mathlib.Core.List.{[]}
use mathlib.Core.Path.{refl, sym, ap, ◌∙◌}
use Rattle.ihex.proofs.walk.Goals as goal

pub loop-at-init : goal.loop-at-init
loop-at-init c = (([], sofar_start _ _ _ _ c.requires.1), refl, refl, refl)

pub returns-in_default : goal.returns-in_default
returns-in_default c =
    let l = c.loop-at in
    let p = walk_bad l.invariant.0.1 c.loop-at-test.true (line_bad_read _ _ 0 c.loop-at-test.true c.in_default.ensures.length refl) in
    stops _ _ _ _ _ _ c.stopped.ensures p.0 p.1

pub overflow_cast-size : goal.overflow_cast-size
overflow_cast-size c = omega arith

pub overflow_add-size : goal.overflow_add-size
overflow_add-size c = omega arith

pub overflow_sub-text-then-record-eq-END : goal.overflow_sub-text-then-record-eq-END
overflow_sub-text-then-record-eq-END c =
    let l = c.loop-at in
    let room : 260 ≤ length l.«record» = let i = l.invariant.1 in let p = c.requires.0 in omega arith in
    let q = line_read c.args.text.now l.at l.«record» _ _ c.in-Some.ensures.length c.in-Some.ensures.laid room c.in-Some.ensures.some.0 in
    let w = line-within l.invariant.0.1 c.loop-at-test.true q.0.formed _ q.1 in omega arith

pub ended-requires : goal.ended-requires
ended-requires c = let n = c.loop-at.invariant.0.1.numbered in omega arith

pub returns-then-record-eq-END : goal.returns-then-record-eq-END
returns-then-record-eq-END c =
    let l = c.loop-at in
    let room : 260 ≤ length l.«record» = let i = l.invariant.1 in let p = c.requires.0 in omega arith in
    let q = line_read c.args.text.now l.at l.«record» _ _ c.in-Some.ensures.length c.in-Some.ensures.laid room c.in-Some.ensures.some.0 in
    walk_ends l.invariant.0.1 c.loop-at-test.true q.0.formed _ q.1 _ (sym q.0.type ∙ c.if-record-eq-END.true) c.ended.ensures

pub slice_bounds-lay-end : goal.slice_bounds-lay-end
slice_bounds-lay-end c =
    let l = c.loop-at in
    let room : 260 ≤ length l.«record» = let i = l.invariant.1 in let p = c.requires.0 in omega arith in
    let q = line_read c.args.text.now l.at l.«record» _ _ c.in-Some.ensures.length c.in-Some.ensures.laid room c.in-Some.ensures.some.0 in
    let b = q.0.bytes in let w = q.0.short in let k = q.0.kept in omega arith

pub lay-requires : goal.lay-requires
lay-requires c =
    let l = c.loop-at in
    let room : 260 ≤ length l.«record» = let i = l.invariant.1 in let p = c.requires.0 in omega arith in
    let q = line_read c.args.text.now l.at l.«record» _ _ c.in-Some.ensures.length c.in-Some.ensures.laid room c.in-Some.ensures.some.0 in
    let f = q.0.front _ (ap (λ (n : ℕ). 5 + n) q.0.bytes) in
    let h = l.invariant.0.1.holds in
    (rw f q.0.whole, h.room, h.size)

pub returns-in-Err : goal.returns-in-Err
returns-in-Err c =
    let l = c.loop-at in
    let room : 260 ≤ length l.«record» = let i = l.invariant.1 in let p = c.requires.0 in omega arith in
    let q = line_read c.args.text.now l.at l.«record» _ _ c.in-Some.ensures.length c.in-Some.ensures.laid room c.in-Some.ensures.some.0 in
    let f = q.0.front _ (ap (λ (n : ℕ). 5 + n) q.0.bytes) in
    let x = l.invariant.0.1 in
    let p = walk_refused x c.loop-at-test.true q.0.formed _ (laid_refused _ _ _ _ _ _ _ _ _ f c.in-Err.is (c.lay.ensures _ x.holds)) in
    stops _ _ _ _ _ _ c.stopped-in-Err.ensures p.0 p.1

pub slice_bounds-upper_after-end : goal.slice_bounds-upper_after-end
slice_bounds-upper_after-end c =
    let l = c.loop-at in
    let room : 260 ≤ length l.«record» = let i = l.invariant.1 in let p = c.requires.0 in omega arith in
    let q = line_read c.args.text.now l.at l.«record» _ _ c.in-Some.ensures.length c.in-Some.ensures.laid room c.in-Some.ensures.some.0 in
    let b = q.0.bytes in let w = q.0.short in let k = q.0.kept in omega arith

pub upper_after-upper-requires : goal.upper_after-upper-requires
upper_after-upper-requires c =
    let l = c.loop-at in
    let room : 260 ≤ length l.«record» = let i = l.invariant.1 in let p = c.requires.0 in omega arith in
    let q = line_read c.args.text.now l.at l.«record» _ _ c.in-Some.ensures.length c.in-Some.ensures.laid room c.in-Some.ensures.some.0 in
    let f = q.0.front _ (ap (λ (n : ℕ). 5 + n) q.0.bytes) in
    (rw f q.0.whole, rw f q.0.good)

pub overflow_add-at : goal.overflow_add-at
overflow_add-at c =
    let l = c.loop-at in
    let room : 260 ≤ length l.«record» = let i = l.invariant.1 in let p = c.requires.0 in omega arith in
    let q = line_read c.args.text.now l.at l.«record» _ _ c.in-Some.ensures.length c.in-Some.ensures.laid room c.in-Some.ensures.some.0 in
    let w = line-within l.invariant.0.1 c.loop-at-test.true q.0.formed _ q.1 in omega arith

pub overflow_add-number : goal.overflow_add-number
overflow_add-number c = let n = c.loop-at.invariant.0.1.numbered in omega arith

pub loop-at-smaller : goal.loop-at-smaller
loop-at-smaller c =
    let l = c.loop-at in
    let room : 260 ≤ length l.«record» = let i = l.invariant.1 in let p = c.requires.0 in omega arith in
    let q = line_read c.args.text.now l.at l.«record» _ _ c.in-Some.ensures.length c.in-Some.ensures.laid room c.in-Some.ensures.some.0 in
    let w = line-within l.invariant.0.1 c.loop-at-test.true q.0.formed _ q.1 in let g = q.0.long in let e = q.1 in omega arith

pub loop-at-preserved : goal.loop-at-preserved
loop-at-preserved c =
    let l = c.loop-at in
    let room : 260 ≤ length l.«record» = let i = l.invariant.1 in let p = c.requires.0 in omega arith in
    let q = line_read c.args.text.now l.at l.«record» _ _ c.in-Some.ensures.length c.in-Some.ensures.laid room c.in-Some.ensures.some.0 in
    let f = q.0.front _ (ap (λ (n : ℕ). 5 + n) q.0.bytes) in
    let x = l.invariant.0.1 in
    let p = laid-bytes _ _ _ _ _ _ _ _ _ f c.in-Ok.is (c.lay.ensures _ x.holds) in
    ((_, walk_on x c.loop-at-test.true q.0.formed _ q.1 _ _ _ _ q.0.long (λ z. c.if-record-eq-END.false (q.0.type ∙ z)) p.0 p.1 (c.upper_after-upper.ensures ∙ ap (upper_after l.upper) f)), q.0.kept ∙ l.invariant.1, search rules, search rules)

pub returns : goal.returns
returns c =
    let p = walk_over c.loop-at.invariant.0.1 c.loop-at-test.false in
    stops _ _ _ _ _ _ c.stopped-2.ensures p.0 p.1
