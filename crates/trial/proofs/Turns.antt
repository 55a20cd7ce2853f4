-- Laws of a life: its start, a turn, both its ends, and the whole. Assumes nothing.
use mathlib.Core.Path.{◌≡◌, refl, ap, ◌∙◌}
use mathlib.Core.List.{List}
use Prim.Native.Nat.{ℕ, zero, suc, ◌+◌, ◌-◌, ◌≤◌, ◌<◌}
use native.Mathlib.Omega.{arith}
use native.Mathlib.Numerals.{add-one}
use lib.ListN.{length, get_or}
use borrow.Author.Tests.{lt-ltb, le-ltb}
use Rattle.board.specs.Layout.{logger, memory_bytes}
use Rattle.request.specs.Request.{transfer_bytes}
use Rattle.trial.specs.declared.Scene.{Scene}
use Rattle.trial.specs.Trial.{unplayed, Life, life, turn_of, lives_of, surveyed, equipped, zeros, last_of, trial_of}

-- so many events, from their first on
pub lives_start : (p : List ℕ) (place events : ℕ) (s : Scene) (byte : ℕ) (m b y : List ℕ) → s ≡ unplayed byte → byte ≡ get_or m place 0 → lives_of p place (events - 0) 0 (life s m b y) ≡ lives_of p place events 0 (life (unplayed (get_or m place 0)) m b y)
lives_start p place events s byte m b y e h =
    let k : events - 0 ≡ events = omega arith in
    rw (k, e, h) refl

pub lives_turn : (p : List ℕ) (place events count : ℕ) (s : Scene) (m b y : List ℕ) (l : Life) → count < events → s.at < length p → l ≡ turn_of p place (count + 1) (life s m b y) → lives_of p place (events - (count + 1)) (count + 1) l ≡ lives_of p place (events - count) count (life s m b y)
unfolding lives_of
lives_turn p place events count s m b y l more inside e =
    let k : events - count ≡ suc (events - (count + 1)) = omega arith in
    rw (e, k, lt-ltb s.at (length p) inside, add-one count) refl

-- the job is over, or all of them happened
pub lives_over : (p : List ℕ) (place n count : ℕ) (s : Scene) (m b y : List ℕ) → length p ≤ s.at → lives_of p place n count (life s m b y) ≡ life s m b y
unfolding lives_of
lives_over p place zero count s m b y h = refl
lives_over p place (suc n) count s m b y h = rw (le-ltb s.at (length p) h) refl

pub lives_end : (p : List ℕ) (place events count : ℕ) (l : Life) → events ≤ count → lives_of p place (events - count) count l ≡ l
unfolding lives_of
lives_end p place events count l h =
    let k : events - count ≡ 0 = omega arith in
    rw k refl

-- the whole, from what its parts came to
pub trial_is : (p : List ℕ) (events : ℕ) (card : List ℕ) (old place : ℕ) (m m' b y : List ℕ) (s r : Scene) → m ≡ equipped old card (zeros (memory_bytes logger)) → life s m' b y ≡ lives_of p place events 0 (life (unplayed (get_or m place 0)) m (zeros transfer_bytes) (zeros transfer_bytes)) → r ≡ surveyed s m' card → r ≡ trial_of p events card old place
unfolding trial_of
trial_is p events card old place m m' b y s r he hl hr =
    hr ∙ ap (last_of card) hl ∙ ap (λ (n : List ℕ). last_of card (lives_of p place events 0 (life (unplayed (get_or n place 0)) n (zeros transfer_bytes) (zeros transfer_bytes)))) he
