-- 'A board is well formed if' (document 01, 'The board'): its setup and each of its parts is. The clauses are in
-- well_formed/Clauses.
use Rattle.std.specs.Prelude.{Bool, ◌&&◌}
use Rattle.well_formed.specs.Clauses.{setup_ok, nodes_ok, consoles_ok, cells_ok}
use Rattle.board.specs.declared.Board.{Board}

unfoldable pub well_formed : Board → Bool
well_formed b =
    setup_ok b.setup
    && nodes_ok b.setup b.nodes
    && consoles_ok b.setup b.consoles
    && cells_ok b.setup b.cells
