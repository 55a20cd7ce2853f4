-- An event and its line: the line gives the event back, wherever it begins a text. Assumes nothing.
use mathlib.Core.Path.{◌≡◌, refl, ap, ap₂, ◌∙◌}
use mathlib.Core.Bool.{true}
use mathlib.Core.List.{List, [], ◌∷◌, ◌++◌, append_assoc}
use Prim.Native.Nat.{ℕ, ◌<◌}
use native.Mathlib.Omega.{arith}
use lib.ListN.{length, take, drop, take-append-drop}
use lib.Seq.{length-take-le}
use Rattle.laws.proofs.Lists.{bytes_take, bytes_drop}
use Rattle.request.proofs.Lengths.{fits_eight}
use Rattle.hexfield.specs.Hex.{hex_of}
use Rattle.hexfield.proofs.Fields.{digits_hex}
use Rattle.hexfield.proofs.Capitals.{capitals_hex}
use Rattle.line.specs.Event.{Event, attach, request, fits, in_bytes, line_of}
use Rattle.laws.specs.Lines.{first_line}
use Rattle.line.specs.Line.{event_of, capital_line, well_spelled}
use Rattle.line.proofs.Spelling.{spells_hex, setup_wide, spelled}
use Rattle.line.proofs.FirstLine.{first-spelled}
use Rattle.line.proofs.CapitalLine.{capital_other, capital_spelled}
use Rattle.line.proofs.Formed.{well_spelled_lem, event_spelled}

-- the line of an event that fits gives the event back
pub line_event : (e : Event) → fits e ≡ true → in_bytes e ≡ true → event_of (line_of e) ≡ e
unfolding fits in_bytes event_of line_of
line_event attach f y = refl
line_event (request q) f y =
    let a = spells_hex (take 8 q) (bytes_take 8 q y) in
    let b = spells_hex (drop 8 q) (bytes_drop 8 q y) in
    event_spelled a b (length-take-le 8 q (fits_eight q f)) ∙ ap request (take-append-drop 8 q)

-- an event's line is its own capital spelling
capital_line_of : (e : Event) → fits e ≡ true → capital_line (line_of e) ≡ line_of e
unfolding fits line_of
capital_line_of attach f = capital_other (65 ∷ 10 ∷ []) (λ e. omega arith)
capital_line_of (request q) f =
    capital_spelled (hex_of (take 8 q)) (hex_of (drop 8 q)) (setup_wide q (fits_eight q f))
    ∙ ap₂ (λ (m : List ℕ) (n : List ℕ). spelled m n []) (capitals_hex (take 8 q)) (capitals_hex (drop 8 q))

pub line_formed : (e : Event) → fits e ≡ true → in_bytes e ≡ true → well_spelled (line_of e) ≡ true
line_formed e f y = well_spelled_lem (line_of e) e (line_event e f y) f (capital_line_of e f)

-- the line of an event is the first line of a text that begins with it
pub line_first : (e : Event) (s : List ℕ) → first_line (line_of e ++ s) ≡ line_of e
unfolding line_of first_line
line_first attach s = refl
line_first (request q) s =
    let a = hex_of (take 8 q) in
    let b = hex_of (drop 8 q) in
    let e : spelled a b [] ++ s ≡ spelled a b s = simp append_assoc in
    ap first_line e ∙ first-spelled a b s (digits_hex (take 8 q)) (digits_hex (drop 8 q))

pub line-some : (e : Event) → 0 < length (line_of e)
unfolding line_of
line-some attach = omega arith
line-some (request q) = omega arith
