-- A refusal's number and line tell which refusal it is. Assumes nothing.
use mathlib.Core.Path.{◌≡◌, refl, ap₂, ◌∙◌, sym}
use mathlib.Core.Bool.{cond}
use Prim.Native.Nat.{ℕ, ◌≤◌}
use native.Mathlib.Omega.{arith}
use lib.Dec.{eqb}
use Rattle.refusal.specs.declared.Refusal.{Refusal}
use Rattle.refusal.specs.declared.Refusal.TheVariants.{Memory, Block, Reply, State, Request, Work, Image, Card, Text, Line, Output, Protected, File, Record, Outside, Twice, Unended, Empty}
use Rattle.refusal.specs.Refusal.{number_of, line_named}

-- the refusal of a number and a line
unfoldable pub refusal_at : ℕ → ℕ → Refusal
refusal_at n line =
    cond (eqb n 1) Memory
    (cond (eqb n 2) Block
    (cond (eqb n 3) Reply
    (cond (eqb n 4) State
    (cond (eqb n 5) Request
    (cond (eqb n 6) Work
    (cond (eqb n 7) Image
    (cond (eqb n 8) Card
    (cond (eqb n 9) Text
    (cond (eqb n 10) (Line line)
    (cond (eqb n 11) Output
    (cond (eqb n 12) Protected
    (cond (eqb n 13) File
    (cond (eqb n 20) (Record line)
    (cond (eqb n 21) Outside
    (cond (eqb n 22) Twice
    (cond (eqb n 23) Unended Empty))))))))))))))))

pub refusal_back : (r : Refusal) → refusal_at (number_of r) (line_named r) ≡ r
unfolding refusal_at
refusal_back Memory = refl
refusal_back Block = refl
refusal_back Reply = refl
refusal_back State = refl
refusal_back Request = refl
refusal_back Work = refl
refusal_back Image = refl
refusal_back Card = refl
refusal_back Text = refl
refusal_back (Line line) = refl
refusal_back Output = refl
refusal_back Protected = refl
refusal_back File = refl
refusal_back (Record line) = refl
refusal_back Outside = refl
refusal_back Twice = refl
refusal_back Unended = refl
refusal_back Empty = refl

pub refusal_injective : (r s : Refusal) → number_of r ≡ number_of s → line_named r ≡ line_named s → r ≡ s
refusal_injective r s n l = sym (refusal_back r) ∙ ap₂ refusal_at n l ∙ refusal_back s

-- no refusal has the number 0
pub number-some : (r : Refusal) → 1 ≤ number_of r
number-some Memory = omega arith
number-some Block = omega arith
number-some Reply = omega arith
number-some State = omega arith
number-some Request = omega arith
number-some Work = omega arith
number-some Image = omega arith
number-some Card = omega arith
number-some Text = omega arith
number-some (Line line) = omega arith
number-some Output = omega arith
number-some Protected = omega arith
number-some File = omega arith
number-some (Record line) = omega arith
number-some Outside = omega arith
number-some Twice = omega arith
number-some Unended = omega arith
number-some Empty = omega arith
