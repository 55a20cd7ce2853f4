-- What a step leaves, and its answers by numbers. Document 01, "Events" and "Refusal numbers". Assumes nothing.
use Rattle.std.specs.Prelude.{List, [], ◌∷◌, ℕ}
use Rattle.refusal.specs.Refusal.{number_of, line_named}
use Rattle.device.specs.declared.Device.{Device}
use Rattle.loader.specs.declared.Answer.{Answer}
use Rattle.loader.specs.declared.Answer.TheVariants.{Accepted, Reply, Stall, Silent, Refused}
use Rattle.loader.specs.declared.Stepped.{Stepped}

-- the first number of a Reply
abbrev pub reply_told : ℕ
reply_told = 1

-- the first number of a Stall
abbrev pub stall_told : ℕ
stall_told = 2

-- the first number of Silent
abbrev pub silent_told : ℕ
silent_told = 3

-- "Accepted, a Reply of some bytes, or a Stall", "Silent": a number for each, then its values; a refusal's are its own number and its line
abbrev pub told : Answer → List ℕ
told Accepted = 0 ∷ []
told (Reply count) = reply_told ∷ count ∷ []
told Stall = stall_told ∷ []
told Silent = silent_told ∷ []
told (Refused refusal) = 4 ∷ number_of refusal ∷ line_named refusal ∷ []

-- the answer, the next state, and the three buffers
pub record Outcome : Type 0 where
  pub answer : List ℕ
  pub device : Device
  pub memory : List ℕ
  pub block : List ℕ
  pub reply : List ℕ

-- the same, from an answer and not yet its numbers
abbrev pub outcome : Answer → Device → List ℕ → List ℕ → List ℕ → Outcome
outcome a d m b y = record { answer = told a; device = d; memory = m; block = b; reply = y }

-- what a function returned, and left in the buffers
abbrev pub left : Stepped → List ℕ → List ℕ → List ℕ → Outcome
left r m b y = outcome r.answer r.device m b y
