-- Records of shifts by way of example, by computation: what is said of an input, and with which status the program ends.
use Prim.Native.Nat.{ℕ}
use Prim.Native.String.{String}
use mathlib.Core.List.{List, [], ◌∷◌, ◌++◌, map}
use mathlib.Core.Path.{◌≡◌, refl}
use Rattle.std.specs.Prelude.{replicate}
use Rattle.std.specs.List.{concat}
use Rattle.csv_lines.specs.Quoted.{bytes}
use Rattle.csv_lines.specs.Reading.{index_of, count_of, from_field, quoted, unquoted, field_of, all_digits, value_from, num_of}
use Rattle.csv_lines.specs.Splitting.{chop, lines_after}
use Rattle.parts.specs.Tags.{greater}
use Rattle.well_formed.specs.Clauses.{is_zero, tag_ok}
use Rattle.shift.specs.Faults.{share_tag, is_source, no_such_write, out_of_order, rule_of, rule_at, first_from, is_sound, checked}
use Rattle.shift.specs.Findings.{has_its_tag, other_of, finding, record_of, found_in}
use Rattle.rows.specs.Rows.{number_at, row_of}
use Rattle.rows.specs.Audit.{rows_from, audit, audit_start, status}
use Rattle.rows.specs.Words.{report_text}
use Rattle.std.specs.Fmt.{digits}

pub record Example : Type 0 where
  pub input : String
  pub says : String
  pub ends_with : ℕ

pub record Said : Type 0 where
  pub text : List ℕ
  pub ends_with : ℕ

infix 20 ◌says◌
abbrev pub ◌says◌ : String → String → ℕ → Example
(i says t) n = record { input = i; says = t; ends_with = n }

unfoldable pub examples : List Example
examples =
    -- nothing; P2's write and P3's read, after another read, in a file of both ends of line, quotes and zeros
    ("" says "in order; reads: 0, writes: 0") 0
    ∷ ("0,0,1,9,0,0,0,0\n1,1,10,18,1,1,0,7\r\n\"0\",00,19,27,1,\"01\",0,7" says "in order; reads: 2, writes: 1") 0
    -- which number is which: the ts before the tag's console, that before the life; the own console is not judged
    ∷ ("1,1,1,2,1,2,1000,7\n1,1,3,4,2,1,0,8\n9,0,5,6,2,1,0,8\n" says "in order; reads: 1, writes: 2") 0
    ∷ ("1,1,1,2,1,1,9,7\n1,1,3,4,1,2,0,8\n" says "in order; reads: 0, writes: 2") 0
    -- each rule, whichever row stands first
    ∷ ("1,1,1,0,1,1,0,7\n2,1,2,0,1,1,0,8\n" says "row 2 (2,1,2,0,1,1,0,8) is at fault by rule 1: row 1 (1,1,1,0,1,1,0,7) is a write of the same tag") 1
    ∷ ("0,0,1,2,1,1,0,8\n1,1,1,0,1,1,0,7\n" says "row 1 (0,0,1,2,1,1,0,8) is at fault by rule 2: it read another value than row 2 (1,1,1,0,1,1,0,7) wrote") 1
    ∷ ("1,1,1,0,1,1,0,7\n0,0,1,2,2,1,0,7\n" says "row 2 (0,0,1,2,2,1,0,7) is at fault by rule 2: no row wrote what it read") 1
    ∷ ("1,1,1,2,1,1,0,7\n0,0,3,4,0,0,0,0\n" says "row 2 (0,0,3,4,0,0,0,0) is at fault by rule 3: row 1 (1,1,1,2,1,1,0,7) ended before it began, and its tag is too low") 1
    ∷ ("0,0,3,4,0,0,0,0\n1,1,1,2,1,1,0,7\n" says "row 2 (1,1,1,2,1,1,0,7) is at fault by rule 3: it ended before row 1 (0,0,3,4,0,0,0,0) began, whose tag is too low") 1
    ∷ ("1,1,1,2,1,1,0,7\n0,0,3,0,0,0,0,0\n" says "row 2 (0,0,3,0,0,0,0,0) is at fault by rule 3: row 1 (1,1,1,2,1,1,0,7) ended before it began, and its tag is too low") 1
    ∷ ("0,0,3,0,0,0,0,0\n1,1,1,2,1,1,0,7\n" says "row 2 (1,1,1,2,1,1,0,7) is at fault by rule 3: it ended before row 1 (0,0,3,0,0,0,0,0) began, whose tag is too low") 1
    -- lines that are no rows: the first is told, before any other trouble
    ∷ ("0,0,3,3,0,0,0,0\n\n0,0,3,4,0,0,0\n" says "line 2 is not a row: fields: 1, and a row has 8") 2
    ∷ ("0,0,3,4,0,0,0\n" says "line 1 is not a row: fields: 7, and a row has 8") 2
    ∷ ("0,0,3,4,0,0,0,0,0\n" says "line 1 is not a row: fields: 9, and a row has 8") 2
    ∷ ("0,2,3,4,0,0,1001,x\n" says "line 1 is not a row: field 8 is not a number of 32 bits") 2
    ∷ ("x,0,3,4,0,0,0,0\n" says "line 1 is not a row: field 1 is not a number of 32 bits") 2
    ∷ ("0,0,3,4294967296,0,0,0,0\n" says "line 1 is not a row: field 4 is not a number of 32 bits") 2
    ∷ ("0,0,3,4,0,0,0,0\r" says "line 1 is not a row: field 8 is not a number of 32 bits") 2
    ∷ ("0,2,3,4,0,0,1001,0\n" says "line 1 is not a row: its kind is neither 0 nor 1") 2
    ∷ ("0,0,3,4,1,1,1001,0\n" says "line 1 is not a row: its life is above 1000") 2
    -- records that are not sound
    ∷ ("0,0,3,4,0,0,0,0\n0,0,3,3,0,0,0,0\n0,1,1,0,0,0,0,0" says "row 2 (0,0,3,3,0,0,0,0) cannot be checked (18): its end is not after its begin") 2
    ∷ ("0,1,3,3,0,8,0,0\n" says "row 1 (0,1,3,3,0,8,0,0) cannot be checked (18): its end is not after its begin") 2
    ∷ ("0,1,3,0,0,8,0,0\n" says "row 1 (0,1,3,0,0,8,0,0) cannot be checked (18): it is a write with ts 0") 2
    ∷ ("0,1,3,0,1,65536,0,4294967295\n" says "row 1 (0,1,3,0,1,65536,0,4294967295) cannot be checked (18): its tag is that of no board of 8 consoles") 2
    ∷ []

pub said : List ℕ → Said
unfolding index_of count_of from_field quoted unquoted field_of all_digits value_from num_of chop lines_after
    greater is_zero tag_ok share_tag is_source no_such_write out_of_order rule_of rule_at first_from is_sound checked
    has_its_tag other_of finding record_of found_in number_at row_of rows_from digits
said input = record { text = report_text (audit input); ends_with = status (audit input) }

pub examples_said : map (λ x. said (bytes x.input)) examples ≡ map (λ x. record { text = bytes x.says; ends_with = x.ends_with }) examples
unfolding bytes said examples
examples_said = refl

-- ---- many rows: 256 are checked, and one more is too many, whatever it is, but not before a line that is no row

abbrev of_rows : ℕ → String → List ℕ
of_rows n last = concat (replicate n (bytes "0,0,1,2,0,0,0,0\n")) ++ bytes last

abbrev too_many : Said
too_many = record { text = bytes "there are more than 256 rows (17)"; ends_with = 2 }

pub many_said : said (of_rows 256 "") ∷ said (of_rows 257 "") ∷ said (of_rows 256 "x") ∷ said (bytes "x\n" ++ of_rows 257 "") ∷ []
    ≡ record { text = bytes "in order; reads: 256, writes: 0"; ends_with = 0 } ∷ too_many ∷ too_many
    ∷ record { text = bytes "line 1 is not a row: fields: 1, and a row has 8"; ends_with = 2 } ∷ []
unfolding bytes said
many_said = refl

-- of an input that is not held whole

pub start_said : List ℕ → Said
unfolding count_of
start_said part = record { text = report_text (audit_start part); ends_with = status (audit_start part) }

pub starts_said : start_said (replicate 256 10) ∷ start_said (replicate 257 10) ∷ start_said (of_rows 300 "") ∷ start_said (replicate 600 48) ∷ []
    ≡ record { text = bytes "the input has 65536 bytes or more"; ends_with = 2 } ∷ too_many ∷ too_many
    ∷ record { text = bytes "the input has 65536 bytes or more"; ends_with = 2 } ∷ []
unfolding bytes start_said
starts_said = refl
