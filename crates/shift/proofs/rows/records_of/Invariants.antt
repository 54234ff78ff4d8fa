-- The records of the rows so far.
use Rattle.std.proofs.Common.{◌≡◌, length, map, take}
use Rattle.shift.specs.Faults.{max_records}
use Rattle.shift.specs.Findings.{record_of}
use Rattle.shift.proofs.rows.records_of.Given as goal

abbrev pub invariant-loop-i : goal.invariant-loop-i
invariant-loop-i l = (length l.records ≡ max_records) × (take l.i l.records ≡ map record_of (take l.i l.rows))
