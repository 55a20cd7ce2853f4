-- Refusals. Document 01, "Refusal numbers"; document 02, CR 1, from 20 on. Assumes nothing.
use Rattle.std.specs.Prelude.{ℕ}
use Rattle.refusal.specs.declared.Refusal.{Refusal}
use Rattle.refusal.specs.declared.Refusal.TheVariants.{Memory, Block, Reply, State, Request, Work, Image, Card, Text, Line, Output, Protected, File, Record, Outside, Twice, Unended, Empty}

-- "Refusal numbers", column "No."; CR 1: "bad record 20 with its line; a data byte outside flash 21; a byte given twice 22; no end record, or any text after it, 23, then no data 24"
abbrev pub number_of : Refusal → ℕ
number_of Memory = 1
number_of Block = 2
number_of Reply = 3
number_of State = 4
number_of Request = 5
number_of Work = 6
number_of Image = 7
number_of Card = 8
number_of Text = 9
number_of (Line k) = 10
number_of Output = 11
number_of Protected = 12
number_of File = 13
number_of (Record k) = 20
number_of Outside = 21
number_of Twice = 22
number_of Unended = 23
number_of Empty = 24

-- "Refusal numbers", row 10: the first malformed line's number is given; CR 1: 20 "with its line"; no other names a line
abbrev pub line_named : Refusal → ℕ
line_named Memory = 0
line_named Block = 0
line_named Reply = 0
line_named State = 0
line_named Request = 0
line_named Work = 0
line_named Image = 0
line_named Card = 0
line_named Text = 0
line_named (Line k) = k
line_named Output = 0
line_named Protected = 0
line_named File = 0
line_named (Record k) = k
line_named Outside = 0
line_named Twice = 0
line_named Unended = 0
line_named Empty = 0
