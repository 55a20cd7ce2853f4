-- `job::pack_line` meets its contract. Assumes nothing.
use Rattle.job.proofs.Packing.{attach-room, attach_packed}
use Rattle.line.proofs.LineLength.{Attaches, attaches}
use mathlib.Core.Path.{refl, sym, ◌∙◌}
use Rattle.job.proofs.pack_line.Goals as goal

pub bounds-out-at : goal.bounds-out-at
bounds-out-at c =
    let line : Attaches c.args.rest.now = attaches _ c.requires.0 (sym c.byte_at.ensures ∙ c.if-byte_at-eq65.true) in
    attach-room _ _ _ line c.requires.1

pub returns-then-byte_at-eq65 : goal.returns-then-byte_at-eq65
returns-then-byte_at-eq65 c =
    let line : Attaches c.args.rest.now = attaches _ c.requires.0 (sym c.byte_at.ensures ∙ c.if-byte_at-eq65.true) in
    attach_packed _ _ _ _ line c.requires.1 refl

pub pack_request-requires : goal.pack_request-requires
pack_request-requires c = (c.requires.0, λ e. c.if-byte_at-eq65.false (c.byte_at.ensures ∙ e), c.requires.1)

pub returns : goal.returns
returns c = c.pack_request.ensures
