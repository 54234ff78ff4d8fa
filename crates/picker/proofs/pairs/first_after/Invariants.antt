-- The tries that are left, from the pair at which the search stands, find what the whole search finds.
use Rattle.std.proofs.Common.{◌≡◌, ◌*◌, ◌-◌}
use Rattle.picker.specs.Picking.{first_of, can_go}
use Rattle.picker.proofs.PairsLaws.{Within}
use Rattle.picker.proofs.pairs.first_after.Given as goal

abbrev pub invariant-loop : goal.invariant-loop
invariant-loop l =
    Within l.n l.m l.p
    × (first_of l.n l.m (can_go l.b) (l.n * l.m) l.fn.last ≡ first_of l.n l.m (can_go l.b) (l.n * l.m - l.counter) l.p)
