-- `loader::upload` meets its contract. Assumes nothing.
use Rattle.loader.proofs.Requests.{read_is, read_reached}
use native.Mathlib.Omega.{arith}
use mathlib.Core.Logic.{⊎_elim}
use mathlib.Core.Path.{◌∙◌}
use Rattle.loader.proofs.upload.Goals as goal

pub send-requires : goal.send-requires
send-requires c =
    ⊎_elim (λ e. let g = read_reached _ c.requires.0 _ _ _ _ _ _ c.examine_block.ensures e in (omega arith, omega arith))
    (λ w.
    ⊎_elim (λ e. let g = read_reached _ c.requires.0 _ _ _ _ _ _ c.examine_block.ensures e in (omega arith, omega arith))
    (λ e. let g = read_reached _ c.requires.0 _ _ _ _ _ _ c.examine_block.ensures e in (omega arith, omega arith))
    w)
    c.in-InFlash.is

pub returns-in-Denied : goal.returns-in-Denied
returns-in-Denied c b =
    rw (c.answered.ensures, c.stall.ensures) (read_is _ _ _ _ b _ _ _ _ c.read_protected-protected.ensures c.examine_block.ensures c.in-Denied.is)

pub returns-in-InFlash : goal.returns-in-InFlash
returns-in-InFlash c b =
    c.send.ensures b
    ∙ ⊎_elim (λ e. read_is _ _ _ _ b _ _ _ _ c.read_protected-protected.ensures c.examine_block.ensures e)
    (λ w. ⊎_elim (λ e. read_is _ _ _ _ b _ _ _ _ c.read_protected-protected.ensures c.examine_block.ensures e) (λ e. read_is _ _ _ _ b _ _ _ _ c.read_protected-protected.ensures c.examine_block.ensures e) w)
    c.in-InFlash.is
