-- `plan::page` meets its contract. Assumes nothing.
use native.Mathlib.Omega.{arith}
use mathlib.Core.Path.{◌≡◌}
use Prim.Native.Nat.{◌+◌, ◌-◌}
use lib.ListN.{length, take, drop}
use Rattle.std.proofs.Common.{rules}
use Rattle.buffer.specs.Least.{least_of}
use Rattle.plan.specs.Plan.{page_of}
use Rattle.plan.proofs.Parts.{page_within, page_starts, page_part, page_room, block_room, page_laid}
use Rattle.plan.proofs.page.Goals as goal

pub page_offset-from-requires : goal.page_offset-from-requires
page_offset-from-requires c =
    let b = page_within _ c.requires.0 _ _ c.requires.1 c.requires.2 in
    omega arith

pub overflow_add-from : goal.overflow_add-from
overflow_add-from c =
    let b = page_within _ c.requires.0 _ _ c.requires.1 c.requires.2 in
    omega arith

pub overflow_cast-address : goal.overflow_cast-address
overflow_cast-address c =
    let b = page_within _ c.requires.0 _ _ c.requires.1 c.requires.2 in
    omega arith

pub overflow_add-address : goal.overflow_add-address
overflow_add-address c =
    let b = page_within _ c.requires.0 _ _ c.requires.1 c.requires.2 in
    omega arith

pub command-erased-requires : goal.command-erased-requires
command-erased-requires c =
    let r = page_room _ _ _ _ _ c.requires.3 in
    omega arith

pub command-pointed-requires : goal.command-pointed-requires
command-pointed-requires c =
    let r = page_room _ _ _ _ _ c.requires.3 in
    omega arith

-- the page's part of the image begins before it ends
pub slice_bounds-block-count : goal.slice_bounds-block-count
slice_bounds-block-count c =
    let end : c.min-end.result ≡ least_of (c.page_offset-from.result + c.page_bytes.result) (length c.args.image.now) = search rules in
    let b = page_within _ c.requires.0 _ _ c.requires.1 c.requires.2 in
    page_starts c.args.board c.args.image.now c.args.page _ _ _ c.page_offset-from.ensures c.page_bytes.ensures end (omega arith)

pub slice_bounds-block-start : goal.slice_bounds-block-start
slice_bounds-block-start c =
    let end : c.min-end.result ≡ least_of (c.page_offset-from.result + c.page_bytes.result) (length c.args.image.now) = search rules in
    let b = page_within _ c.requires.0 _ _ c.requires.1 c.requires.2 in
    page_starts c.args.board c.args.image.now c.args.page _ _ _ c.page_offset-from.ensures c.page_bytes.ensures end (omega arith)

-- and holds the page's bytes
pub block-requires : goal.block-requires
block-requires c =
    let end : c.min-end.result ≡ least_of (c.page_offset-from.result + c.page_bytes.result) (length c.args.image.now) = search rules in
    let part : take (c.min-end.result - c.page_offset-from.result) (drop c.page_offset-from.result c.args.image.now) ≡ page_of c.args.board c.args.image.now c.args.page = page_part _ _ _ _ _ _ c.page_offset-from.ensures c.page_bytes.ensures end in
    block_room c.args.board c.args.image.now c.args.page c.requires.0 _ _ _ part
    (omega (arith, page_room _ _ _ _ _ c.requires.3, c.command-erased.ensures.1, c.command-erased.auto, c.command-pointed.ensures.1, c.command-pointed.auto))

pub returns : goal.returns
returns c =
    let end : c.min-end.result ≡ least_of (c.page_offset-from.result + c.page_bytes.result) (length c.args.image.now) = search rules in
    let part : take (c.min-end.result - c.page_offset-from.result) (drop c.page_offset-from.result c.args.image.now) ≡ page_of c.args.board c.args.image.now c.args.page = page_part _ _ _ _ _ _ c.page_offset-from.ensures c.page_bytes.ensures end in
    page_laid _ _ _ _ _ _ _ _ _ _ _ _ _ part (omega arith) c.command-erased.ensures c.command-pointed.ensures c.block.ensures
