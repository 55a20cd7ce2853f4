-- `packed::spell` meets its contract. Assumes nothing.
use native.Mathlib.Omega.{arith}
use lib.ListN.{length}
use mathlib.Core.Path.{◌∙◌}
use Prim.Native.Nat.{◌≤◌}
use Rattle.packed.specs.Packed.{unpacked}
use Rattle.text.specs.Text.{text_of}
use Rattle.packed.proofs.SpellLoop.{next_well, next_packs, next_room, next_total, next_laid, spell_end}
use Rattle.packed.proofs.spell.Goals as goal

pub write_piece-to-requires : goal.write_piece-to-requires
write_piece-to-requires c =
    let l = c.loop-count in
    let s = c.in-Some.ensures.some in
    let is = c.in-Some.ensures.length in
    let h : length (text_of (unpacked c.args.packed.now)) ≤ length l.out = let k = c.requires.1 in let a = l.auto.out in omega arith in
    rw c.split_at.ensures.front (next_well _ l.invariant.2 _ is s.0 s.1, next_room _ l.invariant.2 _ is s.0 s.1 _ _ _ l.invariant.1 h)

pub overflow_add-to : goal.overflow_add-to
overflow_add-to c =
    let l = c.loop-count in
    let s = c.in-Some.ensures.some in
    let t = next_total _ l.invariant.2 _ c.in-Some.ensures.length s.0 s.1 _ _ _ (rw c.split_at.ensures.front at c.write_piece-to.ensures.1) l.invariant.1 in
    let k = c.requires.1 in
    omega arith

pub loop-count-preserved : goal.loop-count-preserved
loop-count-preserved c =
    let l = c.loop-count in
    let s = c.in-Some.ensures.some in
    let is = c.in-Some.ensures.length in
    let w = rw c.split_at.ensures.front at c.write_piece-to.ensures in
    let h : length (text_of (unpacked c.args.packed.now)) ≤ length l.out = let k = c.requires.1 in let a = l.auto.out in omega arith in
    rw c.split_at.ensures.back (next_laid _ l.invariant.2 _ is s.0 s.1 _ _ _ _ (next_room _ l.invariant.2 _ is s.0 s.1 _ _ _ l.invariant.1 h) w.1 w.0 ∙ l.invariant.0, next_total _ l.invariant.2 _ is s.0 s.1 _ _ _ w.1 l.invariant.1, next_packs _ l.invariant.2 _ is s.0 s.1)

pub returns : goal.returns
returns c = spell_end _ _ _ _ _ c.loop-count.invariant.2 c.in_default.ensures.length c.requires.1 c.loop-count.invariant.0
