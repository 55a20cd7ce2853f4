-- One hexadecimal digit. Document 01, "Job text"; document 02, CR 1 and CR 2. Assumes nothing.
use Rattle.std.specs.Prelude.{cond, ◌&&◌, ℕ, ◌+◌, ◌-◌, ◌*◌, ◌%◌, leb, ltb}

-- "take both cases": the capital of a small letter that is a digit; any other byte stays
unfoldable pub capital_of : ℕ → ℕ
capital_of d = cond (leb 97 d && leb d 102) (d - 32) d

-- the value of a digit in either case, and 16 for any other byte: nothing but this says which bytes are digits
unfoldable pub value_of : ℕ → ℕ
value_of d = cond (leb 48 d && leb d 57) (d - 48) (cond (leb 65 (capital_of d) && leb (capital_of d) 70) (capital_of d - 55) 16)

-- "Upper case only", which "holds for the writer": the digit of the low half of a byte
unfoldable pub digit_of : ℕ → ℕ
digit_of x = cond (ltb (x % 16) 10) (x % 16 + 48) (x % 16 + 55)

-- the byte that two digits spell
unfoldable pub byte_of : ℕ → ℕ → ℕ
byte_of high low = value_of high * 16 + value_of low
