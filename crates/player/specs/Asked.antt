-- What a packed event asks for. Document 01, "Job text", last sentences, and "DNLOAD". Assumes nothing.
use Rattle.std.specs.Prelude.{cond, List, ℕ, eqb, drop, get_or}
use Rattle.board.specs.Layout.{logger}
use Rattle.request.specs.declared.Setup.{Setup}
use Rattle.request.specs.Setup.{setup_of}
use Rattle.device.specs.declared.Pending.{Pending}
use Rattle.device.specs.declared.Pending.TheVariants.{Nothing}
use Rattle.device.specs.State.{started}
use Rattle.decision.specs.declared.Decision.{Decision}
use Rattle.decision.specs.declared.Decision.TheVariants.{Silent, Stall, Accept, Take, Commands, Read, State, Status}
use Rattle.command.specs.Command.{command_of}
use Rattle.decision.specs.Decide.{decide_of}
use Rattle.loader.specs.declared.Event.{Event}
use Rattle.loader.specs.declared.Event.TheVariants.{Attach, Request}
use Rattle.player.specs.declared.Asked.{Asked}

-- the command that a decision leaves waiting, or none
abbrev pub waits_of : Decision → Pending
waits_of Silent = Nothing
waits_of (Stall next) = Nothing
waits_of (Accept next) = next.pending
waits_of (Take next) = next.pending
waits_of (Commands next count) = Nothing
waits_of Read = Nothing
waits_of State = Nothing
waits_of Status = Nothing

-- the three in one
abbrev pub asked_for : Event → Setup → Pending → Asked
asked_for event setup pending = record { event = event; setup = setup; pending = pending }

-- what a piece is, its setup, and the command that its data spells: the one that it leaves on the logger's board just attached
unfoldable pub asked_of : List ℕ → Asked
asked_of piece =
    asked_for (cond (eqb (get_or piece 0 0) 0) Attach Request) (setup_of (drop 1 piece))
    (waits_of (decide_of (started logger) (setup_of (drop 1 piece)) (command_of (drop 9 piece))))
