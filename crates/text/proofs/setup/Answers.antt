-- `text::setup` meets its contract. Assumes nothing.
use Rattle.std.proofs.Common.{List, ℕ, [], get_or, ap, ◌∙◌}
use Rattle.hexfield.specs.Hex.{bytes_of}
use Rattle.hexfield.proofs.Fields.{digits_take, digits_drop}
use Rattle.text.proofs.Halves.{two_halves, setup_halves}
use Rattle.text.proofs.setup.Goals as goal

pub four-requires : goal.four-requires
four-requires c = rw (two_halves _ _ c.as_chunks.ensures.front c.requires.0) (digits_take 8 _ c.requires.1)

pub four-requires-2 : goal.four-requires-2
four-requires-2 c = rw (two_halves _ _ c.as_chunks.ensures.front c.requires.0) (digits_take 8 _ (digits_drop 8 _ c.requires.1))

pub returns : goal.returns
returns c =
    let h = two_halves c.args.field.now _ c.as_chunks.ensures.front c.requires.0 in
    c.of.ensures
    ∙ setup_halves _ _ _ (c.four.ensures ∙ ap (λ (l : List (List ℕ)). bytes_of (get_or l 0 [])) h) (c.four-2.ensures ∙ ap (λ (l : List (List ℕ)). bytes_of (get_or l 1 [])) h)
