-- Invariant: the digits so far made `sum`, of 32 bits, and the whole text reads as the rest after it.
use Rattle.std.proofs.Common.{◌≡◌, ◌^◌, ◌<◌, drop}
use Rattle.csv_lines.proofs.ReadingLaws.{read_from}
use Rattle.csv_lines.proofs.numbers.number.Given as goal

abbrev pub invariant-loop-x : goal.invariant-loop-x
invariant-loop-x l = (l.sum < 2 ^ 32) × (read_from 0 l.s ≡ read_from l.sum (drop l.x-index l.s))
