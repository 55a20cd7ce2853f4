-- A text and its capital spelling: the same lines but for the case of their digits, the same events, the same first malformed line. Assumes nothing.
use mathlib.Core.Path.{◌≡◌, refl, ap, ap₂, ◌∙◌, sym}
use mathlib.Core.List.{List, [], ◌∷◌, ◌++◌, map}
use Prim.Native.Nat.{ℕ, suc, ◌<◌}
use native.Mathlib.Omega.{arith}
use lib.ListN.{length, drop, length-append}
use lib.Seq.{drop-append_seam}
use borrow.Author.Tests.{eq-eqb, ne_eqb}
use Rattle.laws.proofs.Split.{by_eq}
use Rattle.laws.specs.Lines.{first_line, lines_of}
use Rattle.laws.proofs.Lines.{first_rest, first_some, lines_first, joined, joined_lines}
use Rattle.digit.specs.Digit.{capital_of}
use Rattle.digit.proofs.Values.{capital_below, capital_ends}
use Rattle.hexfield.specs.Hex.{capitals}
use Rattle.hexfield.proofs.Capitals.{capitals-append, capitals-length}
use Rattle.line.specs.Line.{capital_line}
use Rattle.line.proofs.CapitalLine.{capital_capitals, capital_same_length, capital_line_stays, event_capital}
use Rattle.line.proofs.Formed.{formed_capital}
use Rattle.text.specs.Text.{bad_from, first_bad, events_in, events_of, capital_lines, capital_text}

-- lists with the same capitals begin with the same line, but for the case of letters: LF is no letter
none-same : (m : List ℕ) → capitals [] ≡ capitals m → [] ≡ m
unfolding capitals
none-same [] e = refl
none-same (y ∷ m) e = let z = ap length e in absurd (omega arith)

first-none : (s : List ℕ) → first_line s ≡ [] → s ≡ []
first-none [] e = refl
first-none (x ∷ s) e = let h = first_some (x ∷ s) (omega arith) in let z = ap length e in absurd (omega arith)

first_alike : (l m s r : List ℕ) → capitals l ≡ capitals m → (s ≡ [] → r ≡ []) → first_line (l ++ s) ≡ l → first_line (m ++ r) ≡ m
unfolding first_line capitals
first_alike [] m s r e none is = rw (← none-same m e, none (first-none s is))
first_alike (x ∷ l) [] s r e none is = let z = ap length e in absurd (omega arith)
first_alike (x ∷ l) (y ∷ m) s r e none is =
    let h : capital_of x ≡ capital_of y = cc in
    let t : capitals l ≡ capitals m = cc in
    by_eq x 10
    (λ k.
    let c : capital_of y ≡ 10 = sym h ∙ ap capital_of k ∙ capital_below 10 (omega arith) in
    let one : x ∷ [] ≡ x ∷ l = rw (eq-eqb x 10 k) at is in
    let n : [] ≡ l = cc in
    let m-none : m ≡ [] = sym (none-same m (ap capitals n ∙ t)) in
    rw (eq-eqb y 10 (capital_ends y c), m-none))
    (λ n.
    let o : y ≡ 10 → ⊥ = λ k. n (capital_ends x (h ∙ ap capital_of k ∙ capital_below 10 (omega arith))) in
    let more : x ∷ first_line (l ++ s) ≡ x ∷ l = rw (ne_eqb x 10 n) at is in
    let i : first_line (l ++ s) ≡ l = cc in
    rw (ne_eqb y 10 o) (ap (λ (z : List ℕ). y ∷ z) (first_alike l m s r t none i)))

-- the lines of the capital spelling are those of the text, each in capital spelling
lines_some : (t l : List ℕ) (ls : List (List ℕ)) → lines_of t ≡ l ∷ ls → 0 < length t
unfolding lines_of
lines_some [] l ls e = let z = ap length e in absurd (omega arith)
lines_some (x ∷ t) l ls e = omega arith

lines_in_capitals : (ls : List (List ℕ)) (t : List ℕ) → lines_of t ≡ ls → lines_of (capital_lines ls) ≡ map capital_line ls
unfolding capital_lines lines_of
lines_in_capitals [] t e = refl
lines_in_capitals (l ∷ ls) t e =
    let some = lines_some t l ls e in
    let both : first_line t ∷ lines_of (drop (length (first_line t)) t) ≡ l ∷ ls = sym (lines_first t some) ∙ e in
    let is : first_line t ≡ l = cc in
    let rest = drop (length (first_line t)) t in
    let behind : lines_of rest ≡ ls = cc in
    let c = capital_line l in
    let k : 0 < length c = let a = capital_same_length l in let b = ap length is in let f = first_some t some in omega arith in
    let none : rest ≡ [] → capital_lines ls ≡ [] = λ z. ap capital_lines (sym behind ∙ ap lines_of z) in
    let line : first_line (l ++ rest) ≡ l = ap first_line (ap (λ (x : List ℕ). x ++ rest) (sym is) ∙ first_rest t) ∙ is in
    let f : first_line (c ++ capital_lines ls) ≡ c = first_alike l c rest (capital_lines ls) (sym (capital_capitals l)) none line in
    let w : 0 < length (c ++ capital_lines ls) = rw (length-append c (capital_lines ls)) (omega arith) in
    lines_first (c ++ capital_lines ls) w
    ∙ ap₂ ◌∷◌ f
    (ap lines_of (ap (λ (x : List ℕ). drop (length x) (c ++ capital_lines ls)) f ∙ drop-append_seam c (capital_lines ls)) ∙ lines_in_capitals ls rest behind)

pub capital_lines_lem : (t : List ℕ) → lines_of (capital_text t) ≡ map capital_line (lines_of t)
unfolding capital_text
capital_lines_lem t = lines_in_capitals (lines_of t) t refl

-- so what is read off them is the same
bad_in_capitals : (ls : List (List ℕ)) (k : ℕ) → bad_from k (map capital_line ls) ≡ bad_from k ls
unfolding bad_from
bad_in_capitals [] k = refl
bad_in_capitals (l ∷ ls) k = rw (formed_capital l, bad_in_capitals ls (suc k))

pub capital_bad : (t : List ℕ) → first_bad (capital_text t) ≡ first_bad t
unfolding first_bad
capital_bad t = ap (bad_from 1) (capital_lines_lem t) ∙ bad_in_capitals (lines_of t) 1

events_in_capitals : (ls : List (List ℕ)) → events_in (map capital_line ls) ≡ events_in ls
unfolding events_in
events_in_capitals [] = refl
events_in_capitals (l ∷ ls) = ap₂ ◌∷◌ (event_capital l) (events_in_capitals ls)

pub capital_events : (t : List ℕ) → events_of (capital_text t) ≡ events_of t
unfolding events_of
capital_events t = ap events_in (capital_lines_lem t) ∙ events_in_capitals (lines_of t)

-- a capital spelling is its own
lines_stay : (ls : List (List ℕ)) → capital_lines (map capital_line ls) ≡ capital_lines ls
unfolding capital_lines
lines_stay [] = refl
lines_stay (l ∷ ls) = ap₂ ◌++◌ (capital_line_stays l) (lines_stay ls)

pub capital_text_stays : (t : List ℕ) → capital_text (capital_text t) ≡ capital_text t
unfolding capital_text
capital_text_stays t = ap capital_lines (capital_lines_lem t) ∙ lines_stay (lines_of t)

-- nothing but the case of letters changes
in_capitals : (ls : List (List ℕ)) → capitals (capital_lines ls) ≡ capitals (joined ls)
unfolding capital_lines joined
in_capitals [] = refl
in_capitals (l ∷ ls) =
    capitals-append (capital_line l) (capital_lines ls) ∙ ap₂ ◌++◌ (capital_capitals l) (in_capitals ls) ∙ sym (capitals-append l (joined ls))

pub text_in_capitals : (t : List ℕ) → capitals (capital_text t) ≡ capitals t
unfolding capital_text
text_in_capitals t = in_capitals (lines_of t) ∙ ap capitals (joined_lines t)

pub capital_text_length : (t : List ℕ) → length (capital_text t) ≡ length t
capital_text_length t = sym (capitals-length (capital_text t)) ∙ ap length (text_in_capitals t) ∙ capitals-length t
