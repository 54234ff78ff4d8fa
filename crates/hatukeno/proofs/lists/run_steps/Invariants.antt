-- The first i steps have been put to the board, and their answers are written.
use Rattle.std.proofs.Common.{◌≡◌}
use Rattle.hatukeno.specs.declared.Midway.{Midway}
use Rattle.hatukeno.specs.Lists.{midway, answers}
use Rattle.hatukeno.proofs.lists.run_steps.Given as goal

abbrev pub invariant-loop-i : goal.invariant-loop-i
invariant-loop-i l =
    (◌≡◌ {A = Midway} (record { board = l.checked.board; moved = l.moved }) (midway l.q l.initial.checked.board l.i))
    × (l.s ≡ answers l.q l.initial.checked.board l.initial.s l.i)
