-- The search from this place on finds what the whole search finds.
use Rattle.std.proofs.Common.{◌≡◌}
use Rattle.std.specs.Prelude.{drop, position}
use Rattle.std.specs.List.{position_from}
use Rattle.shift.specs.Faults.{out_of_order}
use Rattle.shift.proofs.searching.first_out_of_order.Given as goal

abbrev pub invariant-loop-i : goal.invariant-loop-i
invariant-loop-i l = position (λ x. out_of_order x l.y) l.records ≡ position_from (λ x. out_of_order x l.y) l.i (drop l.i l.records)
