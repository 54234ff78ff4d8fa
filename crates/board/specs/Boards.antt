-- A board's parts, a board with one part changed, and the fresh board. No step writes a board's record but through these.
use Rattle.std.specs.Prelude.{ℕ, set, replicate}
use Rattle.parts.specs.declared.Frame.{Frame}
use Rattle.parts.specs.declared.Frame.TheVariants.{Nothing}
use Rattle.parts.specs.declared.Node.{Node}
use Rattle.parts.specs.declared.Console.{Console}
use Rattle.parts.specs.declared.Release.TheVariants.{One}
use Rattle.parts.specs.declared.Setup.{Setup}
use Rattle.parts.specs.Limits.{max_nodes, max_consoles, max_cells}
use Rattle.parts.specs.Parts.{fresh_node, idle_console, cell_of, node_in, console_in, frame_in, set_frame, set_row}
use Rattle.board.specs.declared.Board.{Board}

-- ---- the parts of a board

unfoldable pub node_at : Board → ℕ → Node
node_at b k = node_in b.nodes k

unfoldable pub console_at : Board → ℕ → Console
console_at b c = console_in b.consoles c

-- the frame in the cell of console c and node k
unfoldable pub frame_at : Board → ℕ → ℕ → Frame
frame_at b c k = frame_in b.cells c k

-- ---- a board with one part changed

unfoldable pub with_node : Board → ℕ → Node → Board
with_node b k x = record { setup = b.setup; nodes = set b.nodes k x; consoles = b.consoles; cells = b.cells }

unfoldable pub with_console : Board → ℕ → Console → Board
with_console b c x = record { setup = b.setup; nodes = b.nodes; consoles = set b.consoles c x; cells = b.cells }

unfoldable pub with_frame : Board → ℕ → ℕ → Frame → Board
with_frame b c k f = record { setup = b.setup; nodes = b.nodes; consoles = b.consoles; cells = set_frame b.cells c k f }

-- 'all n cells' of console c become f
unfoldable pub with_row : Board → ℕ → Frame → Board
with_row b c f = record { setup = b.setup; nodes = b.nodes; consoles = b.consoles; cells = set_row b.cells c b.setup.n f }

-- ---- the fresh board: 'All nodes are up with tag (0, 0) and value 0, all consoles idle, all cells empty'

unfoldable pub fresh_board : Setup → Board
fresh_board σ =
    record {
      setup = σ;
      nodes = replicate max_nodes fresh_node;
      consoles = replicate max_consoles idle_console;
      cells = replicate max_cells (cell_of Nothing);
    }

-- the board of no nodes and no consoles, which is not well formed: what stands for no board is read as this one
abbrev pub no_board : Board
no_board = fresh_board (record { n = 0; m = 0; release = One })
