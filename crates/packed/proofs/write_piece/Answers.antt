-- `packed::write_piece` meets its contract. Assumes nothing.
use Rattle.packed.proofs.SpellLoop.{piece_fits, piece_attach, piece_long, piece_requires, piece_request}
use lib.ListN.{length, length-set}
use Prim.Native.Nat.{◌+◌, ◌≤◌}
use mathlib.Core.Path.{sym, ◌∙◌}
use native.Mathlib.Omega.{arith}
use Rattle.packed.proofs.write_piece.Goals as goal

pub bounds-out-at : goal.bounds-out-at
bounds-out-at c =
    let room : c.args.at + 2 ≤ length c.args.out.now = piece_fits _ _ (sym c.byte_at.ensures ∙ c.if-byte_at-eq0.true) _ c.requires.1 in
    let r = room in omega arith

pub bounds-out-at-then-byte_at-eq0 : goal.bounds-out-at-then-byte_at-eq0
bounds-out-at-then-byte_at-eq0 c =
    let room : c.args.at + 2 ≤ length c.args.out.now = piece_fits _ _ (sym c.byte_at.ensures ∙ c.if-byte_at-eq0.true) _ c.requires.1 in
    let r = room in simp length-set (omega arith)

pub returns-then-byte_at-eq0 : goal.returns-then-byte_at-eq0
returns-then-byte_at-eq0 c = piece_attach _ _ (sym c.byte_at.ensures ∙ c.if-byte_at-eq0.true) _ c.requires.1

pub slice_bounds-write_request-count : goal.slice_bounds-write_request-count
slice_bounds-write_request-count c =
    let long : 9 ≤ length c.args.piece.now = piece_long _ (λ e. c.if-byte_at-eq0.false (c.byte_at.ensures ∙ e)) c.requires.0 in
    let l = long in omega arith

pub slice_bounds-write_request-start : goal.slice_bounds-write_request-start
slice_bounds-write_request-start c =
    let long : 9 ≤ length c.args.piece.now = piece_long _ (λ e. c.if-byte_at-eq0.false (c.byte_at.ensures ∙ e)) c.requires.0 in
    let l = long in omega arith

pub write_request-requires : goal.write_request-requires
write_request-requires c = piece_requires _ (λ e. c.if-byte_at-eq0.false (c.byte_at.ensures ∙ e)) _ _ c.requires.0 c.requires.1

pub returns : goal.returns
returns c = piece_request _ (λ e. c.if-byte_at-eq0.false (c.byte_at.ensures ∙ e)) _ _ _ _ c.write_request.ensures
