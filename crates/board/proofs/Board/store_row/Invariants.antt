-- The cells of the nodes below k hold the frame.
use Rattle.std.proofs.Common.{◌≡◌, ℕ}
use Rattle.parts.specs.declared.Frame.{Frame}
use Rattle.parts.specs.Parts.{set_row}
use Rattle.board.specs.declared.Board.{Board}
use Rattle.board.proofs.Board.store_row.Given as goal

-- the board with f in console c's cells of the nodes below k
abbrev pub row_to : Board → ℕ → ℕ → Frame → Board
row_to b c k f = record { setup = b.setup; nodes = b.nodes; consoles = b.consoles; cells = set_row b.cells c k f }

abbrev pub invariant-loop-k : goal.invariant-loop-k
invariant-loop-k l = l.self ≡ row_to l.initial.self l.c.0 l.k l.frame
