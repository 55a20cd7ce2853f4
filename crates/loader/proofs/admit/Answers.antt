-- `loader::admit` meets its contract. Assumes nothing.
use mathlib.Core.Path.{sym, ◌∙◌}
use Rattle.loader.proofs.Admitted.{admit_memory, admit_block, admit_reply, admit_state, admit_last, admit_all}
use Rattle.loader.proofs.admit.Goals as goal

pub returns-then-sizes-memory_bytes : goal.returns-then-sizes-memory_bytes
returns-then-sizes-memory_bytes c =
    let is = c.memory_bytes.ensures.0 in
    admit_memory _ _ _ _ _ (λ e. c.if-sizes-memory_bytes.true (e ∙ sym is))

pub returns-then-sizes : goal.returns-then-sizes
returns-then-sizes c = admit_block _ _ _ _ _ (c.if-sizes-memory_bytes.false ∙ c.memory_bytes.ensures.0) c.if-sizes.true

pub returns-then-sizes-2 : goal.returns-then-sizes-2
returns-then-sizes-2 c =
    admit_reply _ _ _ _ _ (c.if-sizes-memory_bytes.false ∙ c.memory_bytes.ensures.0) c.if-sizes.false c.if-sizes-2.true

pub returns-then-not-well_formed : goal.returns-then-not-well_formed
returns-then-not-well_formed c =
    admit_state _ _ _ _ _ (c.if-sizes-memory_bytes.false ∙ c.memory_bytes.ensures.0) c.if-sizes.false c.if-sizes-2.false (sym c.well_formed-2.ensures ∙ c.if-not-well_formed.true)

pub returns-in-Attach : goal.returns-in-Attach
returns-in-Attach c =
    sym (admit_all _ _ _ _ _ (c.if-sizes-memory_bytes.false ∙ c.memory_bytes.ensures.0) c.if-sizes.false c.if-sizes-2.false (sym c.well_formed-2.ensures ∙ c.if-not-well_formed.false) (rw c.in-Attach.is))

pub returns-in-Request : goal.returns-in-Request
returns-in-Request c =
    admit_last _ _ _ _ _ (c.if-sizes-memory_bytes.false ∙ c.memory_bytes.ensures.0) c.if-sizes.false c.if-sizes-2.false (sym c.well_formed-2.ensures ∙ c.if-not-well_formed.false) _ (rw c.in-Request.is c.admit_request.ensures)
