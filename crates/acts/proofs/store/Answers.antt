-- `acts::store` meets its contract. Assumes nothing.
use native.Mathlib.Omega.{arith}
use Rattle.acts.proofs.Copying.{Given, store_open, store_kept, store_end}
use Rattle.marks.specs.Work.{Work}
use Rattle.marks.proofs.View.{values-room, block_room}
use lib.ListN.{length, length-set}
use mathlib.Core.Path.{refl, ap, sym, ◌∙◌}
use Rattle.acts.proofs.store.Goals as goal
use Rattle.acts.proofs.store.Goals.{then-not-is_kept, else-not-is_kept}

pub overflow_add-work : goal.overflow_add-work
overflow_add-work c = omega (arith, block_room c.args.board c.args.work.now c.requires.2)

pub bounds-work-block : goal.bounds-work-block
bounds-work-block c = omega (arith, block_room c.args.board c.args.work.now c.requires.2)

pub overflow_add-work-then-not-is_kept-2 : goal.overflow_add-work-then-not-is_kept-2
overflow_add-work-then-not-is_kept-2 c = omega (arith, values-room c.args.board c.args.work.now c.requires.2)

pub bounds-work-values : goal.bounds-work-values
bounds-work-values c = omega (arith, values-room c.args.board c.args.work.now c.requires.2)

pub loop-i-preserved : goal.loop-i-preserved
loop-i-preserved c =
    let g : Given c.args.board c.args.work.now c.args.at c.args.count c.values_from-values.result c.block_from-block.result = record { size = c.requires.2; room = c.requires.0; short = c.requires.1; values_there = c.values_from-values.ensures; block_there = c.block_from-block.ensures } in
    let more = c.loop-i-test.true in
    let same = ap (λ (w : Work). w.block) c.loop-i.invariant.0 in
    let is = sym c.is_kept.ensures in
    elim c.if-not-is_kept.branch [
      | then-not-is_kept w ↦ (
        store_open _ _ _ _ _ _ _ _ _ g c.loop-i.invariant.1 more same _ (is ∙ w.if-not-is_kept.true) w.work-is ∙ c.loop-i.invariant.0,
        ap length w.work-is ∙ simp length-set c.loop-i.invariant.1,
      )
      | else-not-is_kept w ↦ (
        store_kept _ _ _ _ _ _ _ _ _ g c.loop-i.invariant.1 more same _ (is ∙ w.if-not-is_kept.false) w.work-is ∙ c.loop-i.invariant.0,
        ap length w.work-is ∙ c.loop-i.invariant.1,
      )
    ]

pub returns : goal.returns
returns c =
    let g : Given c.args.board c.args.work.now c.args.at c.args.count c.values_from-values.result c.block_from-block.result = record { size = c.requires.2; room = c.requires.0; short = c.requires.1; values_there = c.values_from-values.ensures; block_there = c.block_from-block.ensures } in
    store_end _ _ _ _ _ _ _ _ g c.loop-i-test.false _ c.loop-i.invariant.0
