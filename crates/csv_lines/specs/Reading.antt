-- How a line is read: its fields, a field as a number, a line as three numbers (document 01, 'Lines that programs read
-- and write', and Paper 1). A line is the list of its bytes; its end is no part of it.
use Rattle.std.specs.Prelude.{ℕ, zero, suc, ◌+◌, ◌-◌, ◌*◌, ◌^◌, Bool, true, cond, ◌&&◌, List, [], ◌∷◌, Option, None, Some, Result, Ok, Err, ◌≡◌, leb, ltb, eqb, length, get_or, take, drop}
use Rattle.std.specs.Borrow.{Bor}
use Rattle.csv_lines.specs.declared.BadLine.{BadLine}
use Rattle.csv_lines.specs.declared.BadLine.TheVariants.{TooLong, NotThree}

-- ---- bytes, and the limit

abbrev pub comma_byte : ℕ
comma_byte = 44

abbrev pub quote_byte : ℕ
quote_byte = 34

-- the digits 0 and 9; the others stand between them
abbrev pub zero_byte : ℕ
zero_byte = 48

abbrev pub nine_byte : ℕ
nine_byte = 57

-- the ends of lines
abbrev pub cr_byte : ℕ
cr_byte = 13

abbrev pub lf_byte : ℕ
lf_byte = 10

-- Paper 1 'refuses a line over 64 bytes'
abbrev pub max_line : ℕ
max_line = 64

-- ---- fields: 'Fields are joined by commas'. A number holds no comma, so a comma inside quotes is treated as any
-- other: a line that has one is not three numbers either way.

-- the place of the first byte b, or the length where there is none
unfoldable pub index_of : ℕ → List ℕ → ℕ
index_of b [] = 0
index_of b (x ∷ s) = cond (eqb x b) 0 (suc (index_of b s))

-- how many bytes are b
unfoldable pub count_of : ℕ → List ℕ → ℕ
count_of b [] = 0
count_of b (x ∷ s) = cond (eqb x b) 1 0 + count_of b s

-- what stands after the first comma; nothing where there is none
abbrev pub after_comma : List ℕ → List ℕ
after_comma s = drop (suc (index_of comma_byte s)) s

-- what stands from field k on, counted from 0; nothing where there is no such field
unfoldable pub from_field : List ℕ → ℕ → List ℕ
from_field s zero = s
from_field s (suc k) = from_field (after_comma s) k

-- the text of field k, quotes and all: up to the next comma
abbrev pub raw_field : List ℕ → ℕ → List ℕ
raw_field s k = take (index_of comma_byte (from_field s k)) (from_field s k)

-- 'bare or inside one pair of double quotes': a text of two bytes or more that begins and ends with a quote
unfoldable pub quoted : List ℕ → Bool
quoted s = leb 2 (length s) && eqb (get_or s 0 0) quote_byte && eqb (get_or s (length s - 1) 0) quote_byte

-- the text with that pair left off
unfoldable pub unquoted : List ℕ → List ℕ
unquoted s = cond (quoted s) (take (length s - 2) (drop 1 s)) s

-- the bytes left off at its start
abbrev pub quote_bytes : List ℕ → ℕ
quote_bytes s = cond (quoted s) 1 0

-- Paper 1: 'A field is handed back as that part of the caller's own line, quotes left off': its bytes
unfoldable pub field_of : List ℕ → ℕ → List ℕ
field_of s k = unquoted (raw_field s k)

-- and its place in the line: after all that stands before field k, and after its opening quote
unfoldable pub field_start : List ℕ → ℕ → ℕ
field_start s k = length s - length (from_field s k) + quote_bytes (raw_field s k)

-- r is the part of s that begins at place i and holds these bytes: what is promised of a part of the caller's own line
pub record IsPart (s r : Bor (List ℕ)) (bytes : List ℕ) (i : ℕ) : Type 0 where
  pub now : r.now ≡ bytes
  pub block : r.ref_ptr.0 ≡ s.ref_ptr.0
  pub start : r.ref_ptr.1 ≡ s.ref_ptr.1 + i

-- ---- numbers

abbrev pub is_digit : ℕ → Bool
is_digit x = leb zero_byte x && leb x nine_byte

unfoldable pub all_digits : List ℕ → Bool
all_digits [] = true
all_digits (x ∷ s) = is_digit x && all_digits s

-- the number that the digits s make, written after digits that make a
unfoldable pub value_from : ℕ → List ℕ → ℕ
value_from a [] = a
value_from a (x ∷ s) = value_from (a * 10 + (x - zero_byte)) s

-- 'one or more decimal digits making a number of 32 bits, leading zeros allowed'
unfoldable pub num_of : List ℕ → Option ℕ
num_of s = cond (ltb 0 (length s) && all_digits s && ltb (value_from 0 s) (2 ^ 32)) (Some (value_from 0 s)) None

-- ---- lines

-- three numbers of a line, or why they are not there
abbrev pub Line : Type 0
Line = Result (ℕ × ℕ × ℕ) BadLine

-- three fields, each a number
abbrev pub three_of : Option ℕ → Option ℕ → Option ℕ → Line
three_of (Some x) (Some y) (Some z) = Ok (x, y, z)
three_of (Some x) (Some y) None = Err NotThree
three_of (Some x) None c = Err NotThree
three_of None b c = Err NotThree

-- Paper 1 'refuses a line over 64 bytes .., then one that is not three such fields': three fields have two commas
unfoldable pub line_of : List ℕ → Line
line_of s =
    cond (ltb max_line (length s)) (Err TooLong)
    (cond (eqb (count_of comma_byte s) 2) (three_of (num_of (field_of s 0)) (num_of (field_of s 1)) (num_of (field_of s 2))) (Err NotThree))
