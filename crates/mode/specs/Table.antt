-- Which request is taken in which mode. Document 01, "Events", last column of the table of requests. Assumes nothing.
use Rattle.std.specs.Prelude.{Bool, false, ◌||◌, List, [], ◌∷◌, ℕ, eqb}
use Rattle.request.specs.declared.Request.{Request}
use Rattle.request.specs.declared.Request.TheVariants.{Download, Upload, GetStatus, ClearStatus, GetState, Abort, Unknown}
use Rattle.mode.specs.declared.Mode.{Mode}
use Rattle.mode.specs.Wire.{wire_of}

-- column "Modes", by wire numbers; "All else .. stalls"
abbrev pub modes_of : Request → List ℕ
modes_of Download = 2 ∷ 5 ∷ []
modes_of Upload = 2 ∷ 9 ∷ []
modes_of GetStatus = 2 ∷ 3 ∷ 4 ∷ 5 ∷ 6 ∷ 9 ∷ 10 ∷ []
modes_of ClearStatus = 10 ∷ []
modes_of GetState = 2 ∷ 3 ∷ 5 ∷ 6 ∷ 9 ∷ 10 ∷ []
modes_of Abort = 2 ∷ 3 ∷ 5 ∷ 6 ∷ 9 ∷ []
modes_of Unknown = []

-- a number is among some
abbrev pub listed : ℕ → List ℕ → Bool
listed x [] = false
listed x (y ∷ ys) = eqb x y || listed x ys

-- a request is taken in a mode whose number is in its row
unfoldable pub allowed_of : Request → Mode → Bool
allowed_of request mode = listed (wire_of mode) (modes_of request)
