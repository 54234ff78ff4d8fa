-- What the records from this place on come to is what the whole list comes to.
use Rattle.std.proofs.Common.{◌≡◌, ◌-◌}
use Rattle.std.specs.Prelude.{length}
use Rattle.shift.specs.Faults.{first_fault, first_from}
use Rattle.shift.proofs.checking.first_fault.Given as goal

abbrev pub invariant-loop-place : goal.invariant-loop-place
invariant-loop-place l = first_fault l.records ≡ first_from l.records l.place (length l.records - l.place)
