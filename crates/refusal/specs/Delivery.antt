-- What a call with an output answers, and what the lent buffer holds then. Document 01, "Refusal numbers". Assumes nothing.
use Rattle.std.specs.Prelude.{Bool, List, [], ◌∷◌, ◌++◌, ℕ, ltb, length, ⊤, Result, Ok, Err}
use Rattle.laws.specs.Bytes.{put}
use Rattle.refusal.specs.declared.Refusal.{Refusal}
use Rattle.refusal.specs.declared.Refusal.TheVariants.{Output}
use Rattle.refusal.specs.Refusal.{number_of, line_named}
use Rattle.refusal.specs.Order.{first_of}

-- an answer in numbers: 0 and how many bytes; or the refusal's number and the line that it names
abbrev pub in_numbers : Result ℕ Refusal → List ℕ
in_numbers (Ok n) = 0 ∷ n ∷ []
in_numbers (Err r) = number_of r ∷ line_named r ∷ []

-- an answer in numbers, and the lent buffer after the call
pub record Delivery : Type 0 where
  pub answer : List ℕ
  pub buffer : List ℕ

-- what a function returned, and left in the buffer
abbrev pub delivery : Result ℕ Refusal → List ℕ → Delivery
delivery r out = record { answer = in_numbers r; buffer = out }

-- what a call answers that has n bytes to give
abbrev pub counted : Result ⊤ Refusal → ℕ → Result ℕ Refusal
counted (Ok _) n = Ok n
counted (Err r) n = Err r

-- a call that has the bytes xs to give: "A refusal leaves state and every buffer unchanged. An output buffer keeps its bytes past the output"
abbrev pub answered : Result ⊤ Refusal → List ℕ → List ℕ → Delivery
answered (Ok _) xs out = delivery (Ok (length xs)) (put 0 xs out)
answered (Err r) xs out = delivery (Err r) out

-- a call's refusals and, behind them, row 11: "output buffer too short", "11 comes last"
abbrev pub with_output : List (Refusal × Bool) → List ℕ → List ℕ → List (Refusal × Bool)
with_output rs xs out = rs ++ ((Output, ltb (length out) (length xs)) ∷ [])

-- a call with these refusals and the output xs
unfoldable pub delivered : List (Refusal × Bool) → List ℕ → List ℕ → Delivery
delivered rs xs out = answered (first_of (with_output rs xs out)) xs out
