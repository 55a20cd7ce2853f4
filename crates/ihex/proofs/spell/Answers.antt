-- `ihex::spell` meets its contract. Assumes nothing.
use mathlib.Core.Path.{◌≡◌}
use native.Mathlib.Omega.{arith}
use Rattle.record.specs.Record.{record_of, record_line}
use Rattle.ihex.specs.Writing.{upper_line}
use Rattle.ihex.proofs.Writing.{upper_room, data_room, end_room, text-laid}
use Rattle.ihex.proofs.spell.Goals as goal

pub write-first-requires : goal.write-first-requires
write-first-requires c =
    let is : record_line (record_of 4 0 c.upper_half.result) ≡ upper_line c.args.board = rw c.upper_half.ensures in
    (omega arith, upper_room c.args.board c.requires.0 c.args.image.now c.args.out.now c.requires.2 _ is)

pub write_data-last-requires : goal.write_data-last-requires
write_data-last-requires c =
    let is : record_line (record_of 4 0 c.upper_half.result) ≡ upper_line c.args.board = rw c.upper_half.ensures in
    let w = c.write-first.ensures in
    (c.requires.1, data_room _ c.requires.0 _ c.args.out.now c.requires.2 _ is _ _ w.0 w.1)

pub write-requires : goal.write-requires
write-requires c =
    let is : record_line (record_of 4 0 c.upper_half.result) ≡ upper_line c.args.board = rw c.upper_half.ensures in
    let w = c.write-first.ensures in
    let d = c.write_data-last.ensures in
    (omega arith, end_room _ c.requires.0 _ c.args.out.now c.requires.2 _ is _ _ w.0 w.1 _ _ d.0 d.1)

pub returns : goal.returns
returns c =
    let is : record_line (record_of 4 0 c.upper_half.result) ≡ upper_line c.args.board = rw c.upper_half.ensures in
    let w = c.write-first.ensures in
    let d = c.write_data-last.ensures in
    text-laid _ c.requires.0 _ c.args.out.now c.requires.2 _ is _ _ w.0 w.1 _ _ d.0 d.1 _ c.write.ensures.0
