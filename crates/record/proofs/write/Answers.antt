-- `record::write` meets its contract. Assumes nothing.
use Rattle.std.proofs.Common.{ℕ, List, [], ◌∷◌, ◌≡◌, ◌<◌, ◌/◌, ◌%◌, get_or, refl, w16, arith}
use Rattle.std.specs.Int.{to_be_bytes}
use Rattle.record.proofs.Writing.{write-room, written}
use Rattle.record.proofs.write.Goals as goal

-- the head, with the offset in two bytes
head : (n offset kind : ℕ) (bytes : List ℕ) → offset < 65536 → bytes ≡ to_be_bytes w16 offset → n ∷ get_or bytes 0 0 ∷ get_or bytes 1 0 ∷ kind ∷ [] ≡ n ∷ offset / 256 ∷ offset % 256 ∷ kind ∷ []
head n offset kind bytes small e =
    let high : get_or bytes 0 0 ≡ offset / 256 = rw e (omega arith) in
    let low : get_or bytes 1 0 ≡ offset % 256 = rw e (omega arith) in
    rw (high, low)

pub spell-requires : goal.spell-requires
spell-requires c =
    let h = c.requires.0 in
    write-room _ c.args.«data».now _ _ _ refl (omega arith) c.put.ensures c.put-2.ensures c.args.kind c.args.offset _ _ _ refl (head _ _ _ _ (omega arith) c.to_be_bytes.ensures) c.sum.ensures c.complement.ensures c.args.at c.args.out.now c.requires.1

pub returns : goal.returns
returns c =
    let h = c.requires.0 in
    written _ c.args.«data».now _ _ _ refl (omega arith) c.put.ensures c.put-2.ensures c.args.kind c.args.offset _ _ _ refl (head _ _ _ _ (omega arith) c.to_be_bytes.ensures) c.sum.ensures c.complement.ensures _ _ _ c.spell.ensures
