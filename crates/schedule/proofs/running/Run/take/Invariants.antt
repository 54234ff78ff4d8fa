-- What the rest comes to from here is what all the bytes come to from the start.
use Rattle.std.proofs.Common.{length}
use Rattle.schedule.specs.declared.running.Run.{Run}
use Rattle.schedule.specs.Running.{HasRoom, Took}
use Rattle.schedule.proofs.running.Run.take.Given as goal

abbrev pub invariant-loop-i : goal.invariant-loop-i
invariant-loop-i l =
    record {
      room : HasRoom l.self (length l.rest);
      goes_on : (q : Run) → Took l.self q l.rest → Took l.initial.self q l.initial.rest;
    }

abbrev pub decreases-loop-i : goal.decreases-loop-i
decreases-loop-i l = length l.rest
