-- An arm of a match on the mode knows that the mode's place is one of some: what it may answer. Assumes nothing.
use mathlib.Core.Path.{◌≡◌, refl, ap, sym, ◌∙◌}
use mathlib.Core.Bool.{Bool, true, false, cond}
use mathlib.Core.List.{List, [], ◌∷◌}
use mathlib.Core.Logic.{◌⊎◌, inl, inr, ⊎_elim}
use Prim.Native.Nat.{ℕ}
use lib.Dec.{T}
use lib.ListN.{get_or}
use types.Run.{OneOf}
use denote.Enum.Declared.{tag_of}
use Rattle.laws.specs.Table.{agree}
use Rattle.laws.proofs.Table.{agree_eq}
use Rattle.request.specs.declared.Request.{Request}
use Rattle.mode.specs.declared.Mode.{Mode}
use Rattle.mode.specs.declared.Mode.TheVariants.{Idle, DownloadSync, DownloadBusy, DownloadIdle, ManifestSync, UploadIdle, Error, Left, Rebooting}
use Rattle.mode.specs.Table.{allowed_of}
use Rattle.mode.specs.contracts.Mode.{the_type}

-- the mode's place among the variants
abbrev place : Mode → ℕ
place mode = tag_of the_type mode

-- the modes, each at its place
abbrev modes : List Mode
modes = Idle ∷ DownloadSync ∷ DownloadBusy ∷ DownloadIdle ∷ ManifestSync ∷ UploadIdle ∷ Error ∷ Left ∷ Rebooting ∷ []

at_its_place : (mode : Mode) → get_or modes (place mode) Idle ≡ mode
at_its_place Idle = refl
at_its_place DownloadSync = refl
at_its_place DownloadBusy = refl
at_its_place DownloadIdle = refl
at_its_place ManifestSync = refl
at_its_place UploadIdle = refl
at_its_place Error = refl
at_its_place Left = refl
at_its_place Rebooting = refl

one_mode_a_place : (m mode : Mode) → place mode ≡ place m → m ≡ mode
one_mode_a_place m mode e = sym (at_its_place m) ∙ ap (λ (k : ℕ). get_or modes k Idle) (sym e) ∙ at_its_place mode

-- a number among some, of which the first is there where b says so
first_or_later : (b : Bool) (k : ℕ) (ks : List ℕ) (x : ℕ) → OneOf (cond b (k ∷ ks) ks) x → (T b × (x ≡ k)) ⊎ OneOf ks x
first_or_later false k ks x o = inr o
first_or_later true k [] x e = inl (tt, e)
first_or_later true k (l ∷ ks) x (inl e) = inl (tt, e)
first_or_later true k (l ∷ ks) x (inr o) = inr o

module _ (request : Request) (answer : Bool) where
  -- the places of those modes, among some, in which the request has this answer
  abbrev among : List Mode → List ℕ
  among [] = []
  among (m ∷ ms) = cond (agree answer (allowed_of request m)) (place m ∷ among ms) (among ms)

  -- the same, of all modes, in the enum's order: an arm with this answer has to name these, in this order
  abbrev places : List ℕ
  places = among modes

  among_answer : (mode : Mode) (ms : List Mode) → OneOf (among ms) (place mode) → answer ≡ allowed_of request mode
  among_answer mode [] o = absurd o
  among_answer mode (m ∷ ms) o =
      ⊎_elim
      (λ h. agree_eq answer (allowed_of request m) h.0 ∙ ap (allowed_of request) (one_mode_a_place m mode h.1))
      (among_answer mode ms)
      (first_or_later (agree answer (allowed_of request m)) (place m) (among ms) (place mode) o)

  -- `asked` is the request as the code has it, and `request` what its arm told of it
  pub places_answer : (asked : Request) (mode : Mode) → asked ≡ request → OneOf places (place mode) → answer ≡ allowed_of asked mode
  places_answer asked mode e o = among_answer mode modes o ∙ ap (λ (r : Request). allowed_of r mode) (sym e)
