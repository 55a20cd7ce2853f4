-- What a decision asks of the buffers is within them. Assumes nothing.
use mathlib.Core.Path.{◌≡◌}
use mathlib.Core.Bool.{true}
use Prim.Native.Nat.{◌≤◌}
use lib.Dec.{T}
use Rattle.request.specs.declared.Setup.{Setup}
use Rattle.request.specs.Request.{transfer_bytes}
use Rattle.device.specs.declared.Device.{Device}
use Rattle.command.specs.declared.Command.{Command}
use Rattle.decision.specs.declared.Decision.{Decision}
use Rattle.decision.specs.declared.Decision.TheVariants.{Silent, Stall, Accept, Take, Commands, Read, State, Status}
use Rattle.decision.specs.Decide.{decide_of}
use Rattle.decision.proofs.Cases.{decide_case}

-- data taken and memory sent are not longer than a transfer, and there are four commands to list
abbrev pub Bounded : Setup → Decision → Type 0
Bounded s Silent = T true
Bounded s (Stall next) = T true
Bounded s (Accept next) = T true
Bounded s (Take next) = s.length ≤ transfer_bytes
Bounded s (Commands next count) = count ≤ 4
Bounded s Read = s.length ≤ transfer_bytes
Bounded s State = T true
Bounded s Status = T true

pub decide_bounded : (d : Device) (s : Setup) (k : Command) → Bounded s (decide_of d s k)
decide_bounded d s k =
    decide_case (Bounded s) d s k
    (record {
      silent = tt;
      refused = tt;
      leaves = λ t. tt;
      points = λ t address. tt;
      erases = λ t address. tt;
      erases_all = λ t. tt;
      unprotects = λ t. tt;
      takes = λ t f. t.short;
      lists = λ t count h. h;
      reads = λ t. t.short;
      clears = tt;
      state = λ t. tt;
      status = λ t. tt;
    })

-- the same of a decision that was made, and is x
pub decided_bounded : (d : Device) (setup : Setup) (command : Command) (decision x : Decision) → decision ≡ decide_of d setup command → decision ≡ x → Bounded setup x
decided_bounded d setup command decision x e t = rw (← t, e) (decide_bounded d setup command)
