-- How a line is written (document 01, 'Lines that programs read and write', and Paper 1). A line is the list of its
-- bytes, with its end.
use Rattle.std.specs.Prelude.{ℕ, zero, suc, ◌+◌, ◌*◌, ◌/◌, ◌%◌, cond, List, [], ◌∷◌, ◌++◌, ltb}
use Rattle.csv_lines.specs.Reading.{comma_byte, lf_byte, zero_byte}
use Rattle.csv_lines.specs.declared.Output.{Output}

-- the most digits of a number of 64 bits
abbrev pub number_bytes : ℕ
number_bytes = 20

-- the most bytes of a field: a comma and 10 digits of a number of 32 bits
abbrev pub field_bytes : ℕ
field_bytes = 11

-- how many fields an output line has after its number
abbrev pub output_size : ℕ
output_size = 6

-- the most bytes of a written line: its number, its fields and its LF
abbrev pub line_bytes : ℕ
line_bytes = number_bytes + output_size * field_bytes + 1

-- the last decimal digit of n
abbrev pub digit_of : ℕ → ℕ
digit_of n = zero_byte + n % 10

-- the decimal digits of n, the last k of them where it has more
unfoldable pub digits : ℕ → ℕ → List ℕ
digits zero n = []
digits (suc k) n = cond (ltb n 10) (digit_of n ∷ []) (digits k (n / 10) ++ digit_of n ∷ [])

-- 'Written fields are decimal without needless zeros': of a number of 64 bits, which has at most number_bytes digits
unfoldable pub decimal : ℕ → List ℕ
decimal n = digits number_bytes n

-- 'Fields are joined by commas'
unfoldable pub joined : List ℕ → List ℕ
joined [] = []
joined (n ∷ []) = decimal n
joined (n ∷ m ∷ ns) = decimal n ++ comma_byte ∷ joined (m ∷ ns)

-- a field as it stands after another, and as many as there are: what a line's number is followed by (joined_fields)
abbrev pub field_text : ℕ → List ℕ
field_text n = comma_byte ∷ decimal n

unfoldable pub fields_text : List ℕ → List ℕ
fields_text [] = []
fields_text (n ∷ ns) = field_text n ++ fields_text ns

-- 'a written line ends in LF unless a request says otherwise'
abbrev pub ended : List ℕ → List ℕ
ended ns = joined ns ++ lf_byte ∷ []

-- 'Each output line has line number, refusal or 0, outcome, ts, console, value', and the tag's life 'as a seventh
-- field' (document 02, Paper 7)
abbrev pub output_fields : Output → List ℕ
output_fields o = o.number ∷ o.fields

unfoldable pub line_text : Output → List ℕ
line_text o = ended (output_fields o)
