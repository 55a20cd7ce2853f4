-- What reading an image comes to: no rule of the paper. Assumes nothing.
use Rattle.std.specs.Prelude.{◌≡◌, false, List, ℕ, ◌≤◌, length, Result, Ok, Err}
use Rattle.images.specs.declared.Unlaid.{Unlaid}
use Rattle.images.specs.declared.Unlaid.TheVariants.{File, Text}

-- no more bytes count than there is room for; a file that is not opened leaves the image alone
abbrev pub Laid : Result ℕ Unlaid → List ℕ → List ℕ → Type 0
Laid (Ok count) before after = count ≤ length after
Laid (Err (File unread)) before after = unread.is_opened ≡ false → after ≡ before
Laid (Err (Text why)) before after = Unit {0}
