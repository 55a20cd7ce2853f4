-- The logger's longest plan is a text that the checker takes: the one place where a theorem of plans looks at numbers of a board. Assumes nothing.
use mathlib.Core.Path.{◌≡◌, ap, ◌∙◌}
use Prim.Native.Nat.{◌≤◌}
use native.Mathlib.Omega.{arith}
use native.Mathlib.Nat.{le_refl}
use Rattle.board.specs.Layout.{logger, flash_pages, flash_bytes, page_rest}
use Rattle.board.proofs.Counts.{pages_in_flash, rest_of_pages}
use Rattle.board.proofs.Logger.{logger-sound, logger-pages, logger_flash}
use Rattle.board.proofs.Pages.{flash_is_pages}
use Rattle.text.specs.Text.{limit}
use Rattle.plan.specs.Parts.{plan_bytes}

pub logger_short : plan_bytes logger (flash_bytes logger) ≤ limit
unfolding plan_bytes
logger_short =
    let whole : page_rest logger (flash_bytes logger) ≡ 0 = ap (page_rest logger) (flash_is_pages logger) ∙ rest_of_pages logger logger-sound (flash_pages logger) in
    rw whole (omega (arith, pages_in_flash logger logger-sound (flash_bytes logger) (le_refl _), logger-pages, logger_flash))
