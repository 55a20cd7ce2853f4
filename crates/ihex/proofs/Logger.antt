-- What the reader and the writer ask of the logger's numbers. Assumes nothing.
use mathlib.Core.Path.{refl}
use mathlib.Core.List.{[]}
use Prim.Native.Nat.{◌+◌, ◌/◌}
use native.Mathlib.Omega.{arith}
use lib.ListN.{replicate}
use Rattle.board.specs.Layout.{logger, flash_bytes}
use Rattle.board.proofs.Logger.{logger-first, logger_flash}
use Rattle.pieces.specs.Ways.{Holds}
use Rattle.pieces.proofs.Images.{holds_none}
use Rattle.ihex.specs.Ways.{OneSegment}

-- its flash lies above one upper half
pub logger_segment : OneSegment logger
logger_segment = record { begins = rw logger-first refl; most = omega (arith, logger_flash) }

-- a bit for each byte of it, none set, and an image of gaps: nothing was given yet
pub logger_holds : Holds logger [] (replicate ((flash_bytes logger + 7) / 8) 0) (replicate (flash_bytes logger) 0xFF) 0
logger_holds = holds_none logger ((flash_bytes logger + 7) / 8) _ _ refl refl (omega arith)
