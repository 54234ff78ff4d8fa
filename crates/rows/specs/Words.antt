-- What an input comes to, in words.
use Rattle.std.specs.Prelude.{ℕ, Bool, cond, not, ◌&&◌, List, ◌++◌, eqb, ltb, Option, None, Some, codes, decimal}
use Rattle.shift.specs.declared.Row.{Row}
use Rattle.shift.specs.declared.Rule.{Rule}
use Rattle.shift.specs.declared.Rule.TheVariants.{SharedTag, NoSuchWrite, TagTooLow}
use Rattle.rows.specs.declared.BadRow.{BadRow}
use Rattle.rows.specs.declared.BadRow.TheVariants.{Fields, NotANumber, Kind, Life}
use Rattle.rows.specs.declared.Fault.{Fault}
use Rattle.rows.specs.declared.Numbered.{Numbered}
use Rattle.rows.specs.declared.NoRow.{NoRow}
use Rattle.rows.specs.declared.Unsound.{Unsound}
use Rattle.rows.specs.declared.WhyUnsound.{WhyUnsound}
use Rattle.rows.specs.declared.WhyUnsound.TheVariants.{End, WriteOfNoTs, Tag}
use Rattle.rows.specs.declared.Report.{Report}
use Rattle.rows.specs.declared.Report.TheVariants.{InOrder, AtFault, NotARow, TooMany, NotSound, TooLong}

infixr 30 ◌&◌
-- a text and the one after it
abbrev pub ◌&◌ : List ℕ → List ℕ → List ℕ
s & t = s ++ t

-- a row as it is written: its numbers without needless zeros
abbrev pub row_text : Row → List ℕ
row_text r =
    decimal r.console & codes "," & decimal r.write & codes "," & decimal r.begin & codes "," & decimal r.end & codes ","
    & decimal r.ts & codes "," & decimal r.tag_console & codes "," & decimal r.life & codes "," & decimal r.value

abbrev pub numbered_text : Numbered → List ℕ
numbered_text x = codes "row " & decimal x.number & codes " (" & row_text x.row & codes ")"

abbrev pub bad_row_text : BadRow → List ℕ
bad_row_text (Fields n) = codes "fields: " & decimal n & codes ", and a row has 8"
bad_row_text (NotANumber k) = codes "field " & decimal k & codes " is not a number of 32 bits"
bad_row_text Kind = codes "its kind is neither 0 nor 1"
bad_row_text Life = codes "its life is above 1000"

abbrev pub why_text : WhyUnsound → List ℕ
why_text End = codes "its end is not after its begin"
why_text WriteOfNoTs = codes "it is a write with ts 0"
why_text Tag = codes "its tag is that of no board of 8 consoles"

abbrev pub unsound_text : Unsound → List ℕ
unsound_text x = numbered_text x.this & codes " cannot be checked (18): " & why_text x.why

abbrev pub no_row_text : NoRow → List ℕ
no_row_text x = codes "line " & decimal x.number & codes " is not a row: " & bad_row_text x.why

-- ---- a row at fault

-- this row ended before the other began
abbrev pub ends_first : Row → Row → Bool
ends_first x y = not (eqb x.end 0) && ltb x.end y.begin

abbrev pub against : Rule → Numbered → Option Numbered → List ℕ
against SharedTag x (Some y) = codes " is at fault by rule 1: " & numbered_text y & codes " is a write of the same tag"
against NoSuchWrite x (Some y) = codes " is at fault by rule 2: it read another value than " & numbered_text y & codes " wrote"
against NoSuchWrite x None = codes " is at fault by rule 2: no row wrote what it read"
against TagTooLow x (Some y) =
    cond (ends_first x.row y.row)
    (codes " is at fault by rule 3: it ended before " & numbered_text y & codes " began, whose tag is too low")
    (codes " is at fault by rule 3: " & numbered_text y & codes " ended before it began, and its tag is too low")
-- a pair rule has its other row
against SharedTag x None = codes " is at fault"
against TagTooLow x None = codes " is at fault"

abbrev pub fault_text : Fault → List ℕ
fault_text x = numbered_text x.this & against x.rule x.this x.other

-- ---- an input

abbrev pub report_text : Report → List ℕ
report_text (InOrder reads writes) = codes "in order; reads: " & decimal reads & codes ", writes: " & decimal writes
report_text (AtFault x) = fault_text x
report_text (NotARow x) = no_row_text x
report_text TooMany = codes "there are more than 256 rows (17)"
report_text (NotSound x) = unsound_text x
report_text TooLong = codes "the input has 65536 bytes or more"
