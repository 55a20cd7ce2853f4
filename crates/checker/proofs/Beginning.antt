-- The start of the work area. Assumes nothing.
use mathlib.Core.Path.{◌≡◌, ◌∙◌}
use mathlib.Core.List.{List}
use Prim.Native.Nat.{ℕ, ◌+◌, ◌-◌}
use native.Mathlib.Omega.{arith}
use lib.ListN.{length}
use Rattle.laws.specs.Bytes.{put}
use Rattle.board.specs.declared.Board.{Board}
use Rattle.board.specs.Layout.{options_from, option_bytes}
use Rattle.marks.specs.Work.{Work, valued, knowing, forgotten}
use Rattle.marks.proofs.Known.{learnt_is}
use Rattle.judgement.specs.Judgement.{begun}

-- all forgotten, the card laid and learnt
pub begin_is : (board : Board) (options : ℕ) (card : List ℕ) (w w₁ w₂ w₃ : Work) → options ≡ options_from board → length card ≡ option_bytes → w₁ ≡ forgotten board w → w₂ ≡ valued (put options card w₁.values) w₁ → w₃ ≡ knowing options (options + option_bytes - options) w₂ → w₃ ≡ begun board card w
unfolding begun
begin_is board options card w w₁ w₂ w₃ o l e₁ e₂ e₃ =
    let k : length card ≡ options + option_bytes - options = omega arith in
    learnt_is options (options + option_bytes - options) card w₁ w₂ w₃ k e₂ e₃ ∙ rw (o, e₁)
