-- What reading a file comes to: no rule of the paper. Assumes nothing.
use Rattle.std.specs.Prelude.{◌≡◌, false, List, ℕ, ◌≤◌, length, Result, Ok, Err}
use Rattle.files.specs.declared.Unread.{Unread}

-- no more bytes count than there is room for; a file that is not opened leaves the buffer alone
abbrev pub Came : Result ℕ Unread → List ℕ → List ℕ → Type 0
Came (Ok count) before after = count ≤ length after
Came (Err unread) before after = unread.is_opened ≡ false → after ≡ before
