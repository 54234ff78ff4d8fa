-- Records with what the check must find (document 02, Paper 10), sentence by sentence. proofs/CheckRunsHold.antt proves
-- that the definitions give it.
use Rattle.std.specs.Prelude.{ℕ, List, [], ◌∷◌, ◌++◌, map, replicate, Option, Some, None, Result, Ok, Err}
use Rattle.parts.specs.declared.Tag.{Tag}
use Rattle.parts.specs.declared.Kind.{Kind}
use Rattle.parts.specs.declared.Kind.TheVariants.{Read, Write}
use Rattle.parts.specs.Tags.{zero_tag}
use Rattle.decisions.specs.declared.refusals.Refusal.{Refusal}
use Rattle.decisions.specs.declared.refusals.Refusal.TheVariants.{TooManyRecords, UnsoundRecord}
use Rattle.shift.specs.declared.Record.{Record}
use Rattle.shift.specs.declared.Row.{Row}
use Rattle.shift.specs.declared.Rule.{Rule}
use Rattle.shift.specs.declared.Rule.TheVariants.{SharedTag, NoSuchWrite, TagTooLow}
use Rattle.shift.specs.declared.Finding.{Finding}
use Rattle.shift.specs.Faults.{rule_number, checked}
use Rattle.shift.specs.Findings.{told}

-- a list of records, and what the check finds of it, with the other record
pub record CheckRun : Type 0 where
  pub records : List Record
  pub must : Result (Option Finding) Refusal

abbrev pub finds : CheckRun → Result (Option Finding) Refusal
finds r = told r.records (checked r.records)

abbrev pub must_find : CheckRun → Result (Option Finding) Refusal
must_find r = r.must

-- ---- the words of the runs

abbrev tag : ℕ → ℕ → Tag
tag ts c = record { ts = ts; console = c; life = 0 }

abbrev tag_of_life : ℕ → ℕ → ℕ → Tag
tag_of_life ts c life = record { ts = ts; console = c; life = life }

-- from this place to that one, of this tag and value
abbrev operation : ℕ → Kind → ℕ → ℕ → Tag → ℕ → Record
operation c k begin end t v =
    record { console = record { 0 = c }; kind = k; begin = begin; end = end; tag = t; value = v }

abbrev write : ℕ → ℕ → Tag → ℕ → Record
write = operation 1 Write

abbrev read : ℕ → ℕ → Tag → ℕ → Record
read = operation 0 Read

-- a read of what nobody wrote
abbrev first_read : ℕ → ℕ → Record
first_read begin end = read begin end zero_tag 0

abbrev passes : List Record → CheckRun
passes l = record { records = l; must = Ok None }

-- the record in this place is at fault by the rule, against that other one
abbrev fails : ℕ → Rule → Option ℕ → List Record → CheckRun
fails i r j l = record { records = l; must = Ok (Some (record { fault = record { place = i; rule = r }; other = j })) }

abbrev refused : Refusal → List Record → CheckRun
refused r l = record { records = l; must = Err r }

-- ---- the runs

-- nothing; the write of P2 and the read of P3, after another; a write that is not finished, and a read of it
in_order : List CheckRun
in_order =
    passes []
    ∷ passes (first_read 1 9 ∷ write 10 18 (tag 1 1) 7 ∷ read 19 27 (tag 1 1) 7 ∷ [])
    ∷ passes (write 1 0 (tag 1 1) 7 ∷ read 6 10 (tag 1 1) 7 ∷ write 12 13 (tag 2 1) 8 ∷ [])
    ∷ []

-- 'no two writes share a tag': of one value too, finished or not, of one console or of two; not one that differs in
-- ts, console or life alone; nor a write and a read, nor two reads
shared : List CheckRun
shared =
    fails 1 SharedTag (Some 0) (write 1 0 (tag 1 1) 7 ∷ write 2 0 (tag 1 1) 8 ∷ [])
    ∷ fails 1 SharedTag (Some 0) (write 1 9 (tag 1 1) 7 ∷ write 2 8 (tag 1 1) 7 ∷ [])
    ∷ fails 1 SharedTag (Some 0) (operation 0 Write 1 9 (tag 1 1) 7 ∷ operation 1 Write 2 8 (tag 1 1) 8 ∷ [])
    ∷ fails 3 SharedTag (Some 1) (write 1 0 (tag 1 1) 7 ∷ write 2 0 (tag 2 1) 7 ∷ first_read 1 2 ∷ write 3 0 (tag 2 1) 8 ∷ [])
    ∷ passes (write 1 0 (tag 1 1) 7 ∷ write 2 0 (tag 2 1) 7 ∷ write 3 0 (tag 1 2) 7 ∷ write 4 0 (tag_of_life 1 1 1) 7 ∷ [])
    ∷ passes (write 1 0 (tag 1 1) 7 ∷ read 2 0 (tag 1 1) 7 ∷ read 3 0 (tag 1 1) 7 ∷ [])
    ∷ fails 1 SharedTag (Some 0) (write 2 0 (tag 1 1) 7 ∷ write 1 0 (tag 1 1) 8 ∷ [])
    ∷ fails 1 SharedTag (Some 0) (write 1 0 (tag 1 1) 0 ∷ write 1 0 (tag 1 1) 0 ∷ [])
    ∷ fails 1 SharedTag (Some 0) (write 1 0 (tag 1 1) 7 ∷ write 2 3 (tag 1 1) 7 ∷ [])
    ∷ fails 1 SharedTag (Some 0) (write 1 0 (tag 1 2) 7 ∷ write 2 0 (tag 1 2) 8 ∷ [])
    ∷ fails 2 SharedTag (Some 1) (read 1 2 (tag 1 1) 7 ∷ write 1 0 (tag 1 1) 7 ∷ write 2 0 (tag 1 1) 8 ∷ [])
    ∷ []

-- 'each read's tag and value are those of a listed write, or tag zero with value 0': a write anywhere in the list, and
-- finished or not; its ts, console, life and value; not those of a read, nor of a write but for its value
written : List CheckRun
written =
    passes (read 5 6 (tag 1 1) 7 ∷ write 1 2 (tag 1 1) 7 ∷ [])
    ∷ fails 0 NoSuchWrite None (read 5 6 (tag 1 1) 7 ∷ [])
    ∷ fails 1 NoSuchWrite (Some 0) (write 1 2 (tag 1 1) 7 ∷ read 5 6 (tag 1 1) 8 ∷ [])
    ∷ fails 0 NoSuchWrite (Some 2) (read 5 6 (tag 1 1) 8 ∷ read 5 6 (tag 1 1) 8 ∷ write 1 2 (tag 1 1) 7 ∷ [])
    ∷ fails 1 NoSuchWrite None (write 1 2 (tag 1 1) 7 ∷ read 5 6 (tag 2 1) 7 ∷ [])
    ∷ fails 1 NoSuchWrite None (write 1 2 (tag 1 1) 7 ∷ read 5 6 (tag 1 2) 7 ∷ [])
    ∷ fails 1 NoSuchWrite None (write 1 2 (tag 1 1) 7 ∷ read 5 6 (tag_of_life 1 1 1) 7 ∷ [])
    ∷ fails 0 NoSuchWrite None (read 5 0 (tag 1 1) 7 ∷ read 5 0 (tag 1 1) 7 ∷ [])
    ∷ fails 0 NoSuchWrite None (read 5 6 zero_tag 7 ∷ [])
    ∷ fails 0 NoSuchWrite None (read 5 6 (tag 1 0) 0 ∷ [])
    ∷ passes (write 1 0 (tag 1 1) 7 ∷ operation 1 Read 2 0 (tag 1 1) 7 ∷ [])
    ∷ passes (write 1 2 (tag 1 1) 0 ∷ read 3 4 (tag 1 1) 0 ∷ [])
    ∷ fails 1 NoSuchWrite (Some 0) (write 1 0 (tag 1 1) 7 ∷ read 2 0 (tag 1 1) 8 ∷ [])
    ∷ fails 1 NoSuchWrite (Some 0) (write 1 2 (tag 1 1) 7 ∷ read 5 0 (tag 1 1) 0 ∷ [])
    ∷ fails 0 NoSuchWrite None (read 5 6 (tag 1 1) 7 ∷ read 1 2 (tag 1 1) 7 ∷ [])
    ∷ fails 0 NoSuchWrite (Some 1) (read 1 2 (tag 1 1) 8 ∷ write 1 0 (tag 1 1) 7 ∷ write 1 0 (tag 2 1) 8 ∷ [])
    ∷ fails 0 NoSuchWrite (Some 1) (read 1 2 (tag 1 1) 9 ∷ write 1 0 (tag 1 1) 7 ∷ write 1 0 (tag 1 1) 8 ∷ [])
    ∷ fails 2 SharedTag (Some 0) (write 1 2 (tag 1 1) 7 ∷ read 3 4 (tag 1 1) 8 ∷ write 1 0 (tag 1 1) 8 ∷ [])
    ∷ fails 2 SharedTag (Some 0) (write 1 2 (tag 1 1) 8 ∷ read 3 4 (tag 1 1) 8 ∷ write 1 0 (tag 1 1) 7 ∷ [])
    ∷ fails 0 NoSuchWrite None (read 1 0 zero_tag 7 ∷ [])
    ∷ fails 1 NoSuchWrite None (first_read 1 2 ∷ read 1 2 zero_tag 7 ∷ [])
    ∷ fails 1 NoSuchWrite None (write 1 0 (tag 1 1) 7 ∷ read 1 2 zero_tag 7 ∷ [])
    ∷ []

-- 'whenever one operation's end comes before another's begin': an end at the begin is not before it, and an end of 0 is
-- before nothing; of one console or of two, and whichever stands first in the list
before : List CheckRun
before =
    fails 1 TagTooLow (Some 0) (write 1 5 (tag 1 1) 7 ∷ first_read 6 7 ∷ [])
    ∷ passes (write 1 5 (tag 1 1) 7 ∷ first_read 5 7 ∷ [])
    ∷ passes (write 1 0 (tag 1 1) 7 ∷ first_read 6 7 ∷ [])
    ∷ passes (write 0 0 (tag 1 1) 7 ∷ first_read 1 7 ∷ [])
    ∷ fails 1 TagTooLow (Some 0) (write 1 5 (tag 1 1) 7 ∷ operation 1 Read 6 7 zero_tag 0 ∷ [])
    ∷ fails 1 TagTooLow (Some 0) (first_read 6 7 ∷ write 1 5 (tag 1 1) 7 ∷ [])
    ∷ passes (first_read 5 7 ∷ write 1 5 (tag 1 1) 7 ∷ [])
    ∷ fails 1 TagTooLow (Some 0) (write 0 1 (tag 1 1) 7 ∷ first_read 2 3 ∷ [])
    ∷ passes (write 1 5 (tag 2 1) 7 ∷ write 5 0 (tag 1 1) 8 ∷ [])
    ∷ passes (write 1 0 (tag 1 1) 7 ∷ read 2 0 (tag 1 1) 7 ∷ first_read 3 4 ∷ [])
    ∷ fails 1 TagTooLow (Some 0) (first_read 3 0 ∷ write 1 2 (tag 1 1) 7 ∷ [])
    ∷ []

-- 'the later has no lower tag': by ts, console or life; one that is not finished too
no_lower : List CheckRun
no_lower =
    passes (write 1 2 (tag 1 1) 7 ∷ read 3 4 (tag 1 1) 7 ∷ read 5 6 (tag 1 1) 7 ∷ [])
    ∷ passes (first_read 1 2 ∷ write 3 4 (tag 1 1) 7 ∷ read 5 6 (tag 1 1) 7 ∷ [])
    ∷ fails 2 TagTooLow (Some 1) (write 1 0 (tag 1 2) 8 ∷ write 1 2 (tag 2 1) 7 ∷ read 3 4 (tag 1 2) 8 ∷ [])
    ∷ fails 2 TagTooLow (Some 1) (write 1 0 (tag 1 1) 8 ∷ write 1 2 (tag 1 2) 7 ∷ read 3 4 (tag 1 1) 8 ∷ [])
    ∷ fails 2 TagTooLow (Some 1) (write 1 0 (tag 1 1) 8 ∷ write 1 2 (tag_of_life 1 1 1) 7 ∷ read 3 4 (tag 1 1) 8 ∷ [])
    ∷ fails 1 TagTooLow (Some 0) (write 1 2 (tag 1 1) 7 ∷ first_read 3 0 ∷ [])
    ∷ fails 3 TagTooLow (Some 2) (write 1 0 (tag 1 1) 7 ∷ write 1 0 (tag 2 1) 8 ∷ read 2 3 (tag 2 1) 8 ∷ read 4 5 (tag 1 1) 7 ∷ [])
    ∷ fails 2 TagTooLow (Some 1) (write 1 0 (tag 1 1) 7 ∷ read 2 3 (tag 1 1) 7 ∷ operation 1 Read 4 5 zero_tag 0 ∷ [])
    ∷ fails 2 TagTooLow (Some 0) (write 1 2 (tag 2 1) 8 ∷ write 1 3 (tag 1 1) 7 ∷ read 4 5 (tag 1 1) 7 ∷ [])
    ∷ fails 2 TagTooLow (Some 1) (write 1 2 (tag 1 1) 7 ∷ write 1 3 (tag 2 1) 8 ∷ read 4 5 (tag 1 1) 7 ∷ [])
    ∷ []

-- 'and a higher one if it wrote': by ts, console or life; one that is not finished too; after a read of its own tag not
higher : List CheckRun
higher =
    passes (write 1 2 (tag 1 2) 7 ∷ write 3 4 (tag 2 1) 8 ∷ [])
    ∷ passes (write 1 2 (tag 1 1) 7 ∷ write 3 4 (tag 1 2) 8 ∷ [])
    ∷ passes (write 1 2 (tag 1 1) 7 ∷ write 3 4 (tag_of_life 1 1 1) 8 ∷ [])
    ∷ fails 1 TagTooLow (Some 0) (write 1 2 (tag 2 1) 7 ∷ write 3 4 (tag 1 2) 8 ∷ [])
    ∷ fails 1 TagTooLow (Some 0) (write 1 2 (tag 2 1) 7 ∷ write 3 0 (tag 1 2) 8 ∷ [])
    ∷ fails 1 TagTooLow (Some 0) (read 1 2 (tag 1 1) 7 ∷ write 3 4 (tag 1 1) 7 ∷ [])
    ∷ fails 1 TagTooLow (Some 0) (write 3 0 (tag 1 1) 7 ∷ read 1 2 (tag 1 1) 7 ∷ [])
    ∷ passes (write 1 2 (tag 1 1) 7 ∷ write 3 4 (tag 2 1) 7 ∷ [])
    ∷ passes (write 1 2 (tag_of_life 1 1 1000) 7 ∷ write 3 4 (tag 1 2) 8 ∷ [])
    ∷ passes (write 1 2 (tag 1 7) 7 ∷ write 3 4 (tag 2 0) 8 ∷ [])
    ∷ fails 1 TagTooLow (Some 0) (write 1 2 (tag 2 1) 7 ∷ operation 0 Write 3 4 (tag 1 0) 8 ∷ [])
    ∷ fails 1 TagTooLow (Some 0) (read 1 2 (tag 1 1) 8 ∷ write 3 4 (tag 1 1) 7 ∷ write 1 0 (tag 1 1) 8 ∷ [])
    ∷ []

-- three reads, a record, three reads and another record
abbrev between : Record → Record → List Record
between x y = replicate 3 (first_read 1 2) ++ x ∷ replicate 3 (first_read 1 2) ++ y ∷ []

-- 'the earliest record at fault', in the list and not in time, by whichever rule; 'some record before it': near or far,
-- and people are told the first
earliest : List CheckRun
earliest =
    fails 1 SharedTag (Some 0) (write 8 0 (tag 1 1) 7 ∷ write 9 0 (tag 1 1) 8 ∷ read 1 2 zero_tag 7 ∷ [])
    ∷ fails 1 TagTooLow (Some 0) (write 1 2 (tag 1 1) 7 ∷ first_read 3 4 ∷ read 1 2 zero_tag 7 ∷ write 1 0 (tag 1 1) 8 ∷ [])
    ∷ fails 3 TagTooLow (Some 0) (write 1 2 (tag 1 1) 7 ∷ write 1 0 (tag 2 1) 8 ∷ read 1 0 (tag 2 1) 8 ∷ first_read 3 4 ∷ [])
    ∷ fails 3 TagTooLow (Some 1) (write 1 0 (tag 1 1) 7 ∷ write 1 2 (tag 2 1) 8 ∷ write 3 4 (tag 3 1) 9 ∷ first_read 5 6 ∷ [])
    ∷ fails 2 TagTooLow (Some 0) (write 2 4 (tag 2 1) 7 ∷ write 1 3 (tag 1 1) 8 ∷ first_read 5 6 ∷ [])
    ∷ fails 2 TagTooLow (Some 0) (read 1 2 (tag 1 1) 7 ∷ write 1 3 (tag 1 1) 7 ∷ first_read 4 5 ∷ [])
    ∷ fails 7 SharedTag (Some 3) (between (write 1 0 (tag 1 1) 7) (write 2 0 (tag 1 1) 8))
    ∷ fails 7 TagTooLow (Some 3) (between (write 1 5 (tag 1 1) 7) (first_read 6 7))
    ∷ fails 255 NoSuchWrite None (replicate 255 (first_read 1 2) ++ read 1 2 zero_tag 7 ∷ [])
    ∷ []

-- 'the first rule, in the order just given'
first_rule : List CheckRun
first_rule =
    fails 1 SharedTag (Some 0) (write 1 2 (tag 1 1) 7 ∷ write 3 4 (tag 1 1) 8 ∷ [])
    ∷ fails 2 SharedTag (Some 1) (write 1 2 (tag 3 1) 7 ∷ write 1 0 (tag 1 1) 7 ∷ write 3 4 (tag 1 1) 8 ∷ [])
    ∷ fails 1 NoSuchWrite None (write 1 2 (tag 2 1) 7 ∷ read 3 4 (tag 1 1) 7 ∷ [])
    ∷ fails 2 SharedTag (Some 0) (write 1 0 (tag 1 1) 7 ∷ write 1 2 (tag 3 1) 7 ∷ write 3 4 (tag 1 1) 8 ∷ [])
    ∷ []

-- 'more than 256 records with 17', whatever they are
many : List CheckRun
many =
    passes (replicate 256 (first_read 1 2))
    ∷ refused TooManyRecords (replicate 257 (first_read 1 2))
    ∷ refused TooManyRecords (replicate 257 (read 1 2 zero_tag 7))
    ∷ refused TooManyRecords (replicate 257 (first_read 2 2))
    ∷ refused TooManyRecords (replicate 257 (operation 8 Write 1 0 (tag 1 1) 7))
    ∷ []

-- 'then a record whose end is not 0 and not after its begin'
ends : List CheckRun
ends =
    refused UnsoundRecord (first_read 2 2 ∷ [])
    ∷ refused UnsoundRecord (first_read 2 1 ∷ [])
    ∷ passes (first_read 2 0 ∷ first_read 2 3 ∷ first_read 0 1 ∷ first_read 0 0 ∷ [])
    ∷ refused UnsoundRecord (write 2 2 (tag 1 1) 7 ∷ [])
    ∷ refused UnsoundRecord (first_read 2 2 ∷ first_read 1 2 ∷ [])
    ∷ passes (operation 1 Write 4294967294 4294967295 (tag 1 1) 4294967295 ∷ [])
    ∷ []

-- 'or whose tag, value aside, is not well formed for 8 consoles': its own console is not judged
tags : List CheckRun
tags =
    passes (write 1 2 (tag_of_life 4000000000 7 1000) 7 ∷ [])
    ∷ refused UnsoundRecord (write 1 2 (tag 4000000001 7) 7 ∷ [])
    ∷ refused UnsoundRecord (write 1 2 (tag 1 8) 7 ∷ [])
    ∷ refused UnsoundRecord (write 1 2 (tag_of_life 1 7 1001) 7 ∷ [])
    ∷ refused UnsoundRecord (read 1 2 (tag 0 1) 0 ∷ [])
    ∷ refused UnsoundRecord (read 1 2 (tag_of_life 0 0 1) 0 ∷ [])
    ∷ passes (operation 8 Read 1 2 zero_tag 0 ∷ operation 4294967295 Write 1 2 (tag 1 1) 7 ∷ [])
    ∷ refused UnsoundRecord (write 1 0 (tag 1 8) 7 ∷ [])
    ∷ refused UnsoundRecord (read 1 2 (tag 4000000001 1) 7 ∷ [])
    ∷ refused UnsoundRecord (read 1 2 (tag 1 8) 7 ∷ [])
    ∷ refused UnsoundRecord (read 1 2 (tag_of_life 1 1 1001) 7 ∷ [])
    ∷ passes (operation 8 Write 1 0 (tag 1 1) 7 ∷ operation 8 Read 2 0 (tag 1 1) 7 ∷ [])
    ∷ []

-- 'or a write with ts 0'; before any rule, and wherever it stands
no_ts : List CheckRun
no_ts =
    refused UnsoundRecord (write 1 2 zero_tag 0 ∷ [])
    ∷ refused UnsoundRecord (write 1 0 zero_tag 7 ∷ [])
    ∷ refused UnsoundRecord (read 1 2 zero_tag 7 ∷ write 1 2 (tag 1 1) 7 ∷ write 3 4 (tag 1 1) 7 ∷ first_read 2 2 ∷ [])
    ∷ []

unfoldable pub check_runs : List CheckRun
unfolding in_order shared written before no_lower higher earliest first_rule many ends tags no_ts
check_runs =
    in_order ++ shared ++ written ++ before ++ no_lower ++ higher ++ earliest ++ first_rule ++ many ++ ends ++ tags ++ no_ts

-- ---- rows, and the numbers of the rules

-- a row of numbers that all differ, but for what these are
abbrev row : ℕ → ℕ → ℕ → Row
row write tag_console life =
    record { console = 9; write = write; begin = 2; end = 3; ts = 4; tag_console = tag_console; life = life; value = 7 }

abbrev of_row : Kind → ℕ → ℕ → Record
of_row k tag_console life = operation 9 k 2 3 (tag_of_life 4 tag_console life) 7

-- 0 read and any other number wrote; what 16 bits do not hold stays out of range
unfoldable pub rows_run : List Row
rows_run =
    row 0 5 6 ∷ row 1 5 6 ∷ row 2 5 6 ∷ row 256 5 6 ∷ row 4294967295 5 6
    ∷ row 0 65535 65535 ∷ row 0 65536 6 ∷ row 0 5 65536 ∷ row 0 4294967295 4294967295
    ∷ []

unfoldable pub records_run : List Record
records_run =
    of_row Read 5 6 ∷ of_row Write 5 6 ∷ of_row Write 5 6 ∷ of_row Write 5 6 ∷ of_row Write 5 6
    ∷ of_row Read 65535 65535 ∷ of_row Read 65535 6 ∷ of_row Read 5 65535 ∷ of_row Read 65535 65535
    ∷ []

unfoldable pub rules_run : List ℕ
rules_run = map rule_number (SharedTag ∷ NoSuchWrite ∷ TagTooLow ∷ [])
