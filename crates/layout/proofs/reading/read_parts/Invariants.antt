-- The parts before k are read.
use Rattle.std.proofs.Common.{◌≡◌, ◌≤◌, map, length, take}
use Rattle.layout.proofs.reading.read_parts.Given as goal

abbrev pub invariant-loop-k : goal.invariant-loop-k
invariant-loop-k g l = (l.k ≤ g.row.K) × (length l.parts ≡ g.row.K) × (take l.k l.parts ≡ map g.T.InWords.from (take l.k l.each))
