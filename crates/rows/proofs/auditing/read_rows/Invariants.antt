-- The rows so far, before those of what is left.
use Rattle.std.proofs.Common.{◌≡◌}
use Rattle.std.specs.Prelude.{length, take}
use Rattle.csv_lines.specs.Splitting.{lines_of}
use Rattle.shift.specs.Faults.{max_records}
use Rattle.rows.specs.Audit.{rows_from}
use Rattle.rows.proofs.RowsLaws.{prepend}
use Rattle.rows.proofs.auditing.read_rows.Given as goal

abbrev pub invariant-loop-count : goal.invariant-loop-count
invariant-loop-count l =
    (length l.rows ≡ max_records)
    × (rows_from 0 (lines_of l.input) ≡ prepend (take l.count l.rows) (rows_from l.count (lines_of l.rest)))
