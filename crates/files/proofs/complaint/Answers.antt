-- `files::complaint` meets its contract. Assumes nothing.
use Rattle.std.proofs.Common.{ℕ, [], ◌∷◌, ◌∙◌, ap}
use Rattle.append.specs.Said.{said_of}
use Rattle.append.proofs.Said.{said_behind}
use Rattle.sentence.specs.Sentence.{sentence_of}
use Rattle.files.specs.Unreadable.{place_template, cause_template, unreadable_of}
use Rattle.files.proofs.complaint.Goals as goal

pub returns : goal.returns
unfolding unreadable_of
returns c =
    let f = c.args.file in
    let o = c.fill-begun.new.out in
    let p = c.fill-found.new.out in
    let found = c.fill-found.ensures ∙ ap (λ (n : ℕ). said_of (sentence_of place_template (n ∷ []) f.name.now) o c.fill-begun.result) c.place-place.ensures in
    let told = c.fill.ensures ∙ ap (λ (n : ℕ). said_of (sentence_of cause_template (n ∷ []) f.all.now) p c.fill-found.result) c.cause-cause.ensures in
    said_behind _ _ _ p _ c.fill-found.result _ (said_behind _ _ _ o _ c.fill-begun.result _ c.fill-begun.ensures found) told
