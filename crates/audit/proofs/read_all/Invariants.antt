-- No more bytes are held than there is room for.
use Rattle.std.proofs.Common.{◌≤◌}
use Rattle.audit.specs.Held.{max_bytes}
use Rattle.audit.proofs.read_all.Given as goal

abbrev pub invariant-loop : goal.invariant-loop
invariant-loop g l = l.held ≤ max_bytes
