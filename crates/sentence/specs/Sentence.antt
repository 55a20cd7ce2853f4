-- What a template says with its gaps filled: for the words of programs, and no rule of the paper. Assumes nothing.
use Rattle.std.specs.Prelude.{cond, ◌||◌, List, [], ◌∷◌, ◌++◌, ℕ, ◌+◌, ◌%◌, eqb, ltb, drop, get_or}
use Rattle.hexfield.specs.Hex.{hex_of}
use Rattle.decimal.specs.Decimal.{decimal_of}
use Rattle.sentence.specs.Address.{address_of}

-- "#": a number in decimal
abbrev pub number : ℕ
number = 35

-- "@": a number as an address
abbrev pub address : ℕ
address = 64

-- "%": a number as a byte in two digits
abbrev pub byte : ℕ
byte = 37

-- "$": a text
abbrev pub text : ℕ
text = 36

-- "[": parts begin, of which a number picks one
abbrev pub opens : ℕ
opens = 91

-- "|": the next part, or the next text
abbrev pub bar : ℕ
bar = 124

-- "]": the parts end
abbrev pub closes : ℕ
closes = 93

-- of texts with a bar between them, the first
unfoldable pub first_text : List ℕ → List ℕ
first_text [] = []
first_text (x ∷ xs) = cond (eqb x bar) [] (x ∷ first_text xs)

-- and the others
unfoldable pub other_texts : List ℕ → List ℕ
other_texts [] = []
other_texts (x ∷ xs) = cond (eqb x bar) xs (other_texts xs)

-- what a byte of a template comes to, with the next number and the next text
unfoldable pub spelled_of : ℕ → ℕ → List ℕ → List ℕ
spelled_of b n t =
    cond (eqb b number) (decimal_of n)
    (cond (eqb b address) (address_of (n % 0x1_0000_0000))
    (cond (eqb b byte) (hex_of (n % 0x100 ∷ []))
    (cond (eqb b text) t
    (cond (eqb b opens || (eqb b bar || eqb b closes)) [] (b ∷ [])))))

-- how many numbers it takes
abbrev pub takes_of : ℕ → ℕ
takes_of b = cond (eqb b number || (eqb b address || (eqb b byte || eqb b opens))) 1 0

-- the texts that are left behind it
abbrev pub left_texts : ℕ → List ℕ → List ℕ
left_texts b ts = cond (eqb b text) (other_texts ts) ts

-- which part stands behind it: a bar begins the next one; outside of parts it is 0
abbrev pub part_of : ℕ → ℕ → ℕ
part_of b part = cond (eqb b bar) (part + 1) (cond (eqb b opens || eqb b closes) 0 part)

-- how many bars stand in front of the next closing bracket
unfoldable pub bars_of : List ℕ → ℕ
bars_of [] = 0
bars_of (x ∷ xs) = cond (eqb x closes) 0 (cond (eqb x bar) 1 0 + bars_of xs)

-- which part is picked behind it, with t behind it: the one that the number says, or the last; outside of parts it is 0
abbrev pub picked_of : ℕ → ℕ → ℕ → List ℕ → ℕ
picked_of b picked n t = cond (eqb b opens) (cond (ltb n (bars_of t)) n (bars_of t)) (cond (eqb b closes) 0 picked)

-- a template, in this part where that one is picked, with the numbers and the texts that it has not taken: what is not picked says nothing
unfoldable pub filled_of : List ℕ → ℕ → ℕ → List ℕ → List ℕ → List ℕ
filled_of [] part picked ns ts = []
filled_of (b ∷ t) part picked ns ts =
    cond (eqb part picked) (spelled_of b (get_or ns 0 0) (first_text ts)) []
    ++ filled_of t (part_of b part) (picked_of b picked (get_or ns 0 0) t) (drop (takes_of b) ns) (left_texts b ts)

-- a whole template
unfoldable pub sentence_of : List ℕ → List ℕ → List ℕ → List ℕ
sentence_of t ns ts = filled_of t 0 0 ns ts
