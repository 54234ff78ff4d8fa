-- A line read as a row of the newer edition (document 02, Paper 13): 'console, kind (0 read, 1 write), begin, end, ts, tag
-- console', the life, 'value'. 'Fields are as in document 01'.
use Rattle.std.specs.Prelude.{ℕ, ◌+◌, cond, List, eqb, ltb, Result, Ok, Err, ok_or}
use Rattle.parts.specs.Limits.{max_life}
use Rattle.csv_lines.specs.Reading.{comma_byte, count_of, field_of, num_of}
use Rattle.shift.specs.declared.Row.{Row}
use Rattle.rows.specs.declared.BadRow.{BadRow}
use Rattle.rows.specs.declared.BadRow.TheVariants.{Fields, NotANumber, Kind, Life}

infixr 15 ◌then◌
-- what comes next, unless this went wrong
abbrev pub ◌then◌ : {A B E : Type 0} → Result A E → (A → Result B E) → Result B E
Ok x then next = next x
Err e then next = Err e

-- field k as a number
unfoldable pub number_at : List ℕ → ℕ → Result ℕ BadRow
number_at line k = ok_or (num_of (field_of line k)) (NotANumber (k + 1))

abbrev pub numbers_of : List ℕ → Result Row BadRow
numbers_of line =
    number_at line 0 then λ console.
    number_at line 1 then λ kind.
    number_at line 2 then λ begin.
    number_at line 3 then λ end.
    number_at line 4 then λ ts.
    number_at line 5 then λ tag_console.
    number_at line 6 then λ life.
    number_at line 7 then λ value.
    Ok (record { console = console; write = kind; begin = begin; end = end; ts = ts; tag_console = tag_console; life = life; value = value })

-- 'kind at most 1, life at most 1,000'
abbrev pub within_limits : Row → Result Row BadRow
within_limits r = cond (ltb 1 r.write) (Err Kind) (cond (ltb max_life r.life) (Err Life) (Ok r))

-- how many fields a line has: one more than commas
abbrev pub field_count : List ℕ → ℕ
field_count line = count_of comma_byte line + 1

unfoldable pub row_of : List ℕ → Result Row BadRow
row_of line = cond (eqb (field_count line) 8) (numbers_of line then within_limits) (Err (Fields (field_count line)))
