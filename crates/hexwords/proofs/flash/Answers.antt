-- `hexwords::flash` meets its contract. Assumes nothing.
use Rattle.std.proofs.Common.{arith}
use Rattle.board.specs.Layout.{logger}
use Rattle.board.proofs.Pages.{flash_has_two}
use Rattle.board.proofs.Logger.{logger-sound}
use Rattle.hexwords.proofs.flash.Goals as goal

pub overflow_add-result : goal.overflow_add-result
overflow_add-result c = omega (arith, c.flash_first-from.ensures, c.flash_bytes.ensures, logger-sound.flash_addresses)

pub returns : goal.returns
returns c = omega (arith, c.flash_bytes.ensures, flash_has_two logger logger-sound)
