-- What an input comes to: its rows are read one after the other, and then all of them are checked.
use Rattle.std.specs.Prelude.{ℕ, ◌+◌, ◌-◌, Bool, not, cond, ◌&&◌, List, [], ◌∷◌, eqb, leb, ltb, length, take, count_by, position, Option, None, Some, Result, Ok, Err, slice_get, option_map}
use Rattle.decisions.specs.declared.refusals.Refusal.{Refusal}
use Rattle.csv_lines.specs.Reading.{lf_byte, count_of}
use Rattle.csv_lines.specs.Splitting.{lines_of}
use Rattle.shift.specs.declared.Row.{Row}
use Rattle.shift.specs.declared.Finding.{Finding}
use Rattle.shift.specs.Faults.{is_sound, max_records}
use Rattle.shift.specs.Findings.{record_of, found_in}
use Rattle.rows.specs.declared.BadRow.{BadRow}
use Rattle.rows.specs.declared.Numbered.{Numbered}
use Rattle.rows.specs.declared.Rows.{Rows}
use Rattle.rows.specs.declared.WhyUnsound.{WhyUnsound}
use Rattle.rows.specs.declared.WhyUnsound.TheVariants.{End, WriteOfNoTs, Tag}
use Rattle.rows.specs.declared.Report.{Report}
use Rattle.rows.specs.declared.Report.TheVariants.{InOrder, AtFault, NotARow, TooMany, NotSound, TooLong}
use Rattle.rows.specs.Rows.{◌then◌, row_of}

-- ---- the rows of an input

abbrev pub no_row : ℕ → Result Row BadRow → Result Row Report
no_row i (Ok r) = Ok r
no_row i (Err why) = Err (NotARow (record { number = i + 1; why = why }))

-- the rows of these lines, of which the first stands in place i: the first line that is none ends it, and so does one too many
unfoldable pub rows_from : ℕ → List (List ℕ) → Result (List Row) Report
rows_from i [] = Ok []
rows_from i (line ∷ lines) =
    cond (eqb i max_records) (Err TooMany)
    (no_row i (row_of line) then λ r. rows_from (i + 1) lines then λ rs. Ok (r ∷ rs))

-- rows at the start of an array
abbrev pub listed : Result Rows Report → Result (List Row) Report
listed (Ok x) = Ok (take x.count x.rows)
listed (Err x) = Err x

-- ---- the check of them

abbrev pub none_row : Row
none_row = record { console = 0; write = 0; begin = 0; end = 0; ts = 0; tag_console = 0; life = 0; value = 0 }

-- the row in place i with its number, from 1; where there is no row, number 0
abbrev pub with_number : ℕ → Option Row → Numbered
with_number i (Some r) = record { number = i + 1; row = r }
with_number i None = record { number = 0; row = none_row }

abbrev pub numbered : List Row → ℕ → Numbered
numbered rows i = with_number i (slice_get rows i)

abbrev pub is_write : Row → Bool
is_write r = not (eqb r.write 0)

-- why a record is not sound: if its end is, and it is no write with ts 0, then its tag is not
abbrev pub why_unsound : Row → WhyUnsound
why_unsound r = cond (not (eqb r.end 0) && leb r.end r.begin) End (cond (is_write r && eqb r.ts 0) WriteOfNoTs Tag)

-- the first row whose record is not sound; rows_from has seen to there being no more rows than are checked
abbrev pub first_unsound : List Row → Option ℕ
first_unsound rows = position (λ r. not (is_sound (record_of r))) rows

abbrev pub unsound_at : List Row → Option ℕ → Report
unsound_at rows None = TooMany
unsound_at rows (Some i) = NotSound (record { this = numbered rows i; why = why_unsound (numbered rows i).row })

abbrev pub report : List Row → Result (Option Finding) Refusal → Report
report rows (Err r) = unsound_at rows (first_unsound rows)
report rows (Ok None) = InOrder (length rows - count_by is_write rows) (count_by is_write rows)
report rows (Ok (Some f)) =
    AtFault (record { this = numbered rows f.fault.place; rule = f.fault.rule; other = option_map (numbered rows) f.other })

abbrev pub audited : Result (List Row) Report → Report
audited (Err x) = x
audited (Ok rows) = report rows (found_in rows)

abbrev pub audit : List ℕ → Report
audit input = audited (rows_from 0 (lines_of input))

-- an input that goes on after these bytes, more than are held: it is too long, unless they have more than 256 lines already
abbrev pub audit_start : List ℕ → Report
audit_start bytes = cond (ltb max_records (count_of lf_byte bytes)) TooMany TooLong

-- ---- the status with which the program ends: 'in order, at fault, not checkable'

abbrev pub status : Report → ℕ
status (InOrder reads writes) = 0
status (AtFault x) = 1
status (NotARow x) = 2
status TooMany = 2
status (NotSound x) = 2
status TooLong = 2
