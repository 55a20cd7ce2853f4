-- The sentence about a file that cannot be read: for people, and no rule of the paper. Assumes nothing.
use Rattle.std.specs.Prelude.{Bool, cond, List, [], ◌∷◌, ◌++◌, ℕ}
use Rattle.laws.specs.Ascii.{ascii}
use Rattle.sentence.specs.Sentence.{sentence_of}
use Rattle.files.specs.declared.Fault.{Fault}
use Rattle.files.specs.declared.Fault.TheVariants.{Missing, Barred, Folder, Other}

-- what is said: what the file is
abbrev pub what_template : List ℕ
what_template = ascii "The $ ("

-- where it was looked for, by its name in the folder or by a number: the argument that names it, or 0
abbrev pub place_template : List ℕ
place_template = ascii "[$ in this folder|the first argument|the second argument|the third argument|a later argument]"

-- why it cannot be read, by a number, and what to do, with all that can be named
abbrev pub cause_template : List ℕ
cause_template = ascii ") cannot be read: [there is no such file. Put it there, or name $.|there is no such file. Correct the path.|you have no permission. Have the file made readable for you.|it is a folder. Name the file itself.|the system cannot read it. See that the path names a file that can be read.]"

-- a missing file is told apart by whether an argument names it
abbrev pub cause_of : Fault → Bool → ℕ
cause_of Missing named = cond named 1 0
cause_of Barred named = 2
cause_of Folder named = 3
cause_of Other named = 4

-- the sentence, with what the file is, its name in the folder, and all that can be named
unfoldable pub unreadable_of : Fault → Bool → ℕ → List ℕ → List ℕ → List ℕ → List ℕ
unreadable_of fault named n what name all =
    sentence_of what_template [] what
    ++ sentence_of place_template (cond named n 0 ∷ []) name
    ++ sentence_of cause_template (cause_of fault named ∷ []) all
