-- The seven kinds of step that a run is made of, with any numbers: document 01's five ('What demand 3 speaks of'), node
-- up (document 02, Paper 2) and restart (Paper 7).
use Rattle.std.specs.Prelude.{ℕ}
use Rattle.board.specs.declared.Board.{Board}
use Rattle.board.specs.declared.Answer.{Answer}
use Rattle.board.specs.Steps as steps
use Rattle.board.specs.Deliver as deliveries

-- a step and its numbers, 'in the order in which the step names them'
pub data Step : Type 0 where
  BeginRead : ℕ → Step
  BeginWrite : ℕ → ℕ → Step
  Deliver : ℕ → ℕ → Step
  NodeDown : ℕ → Step
  ConsoleDown : ℕ → Step
  NodeUp : ℕ → Step
  Restart : ℕ → Step

-- what the step answers on a board
unfoldable pub step : Board → Step → Answer
step b (BeginRead c) = steps.begin_read b c
step b (BeginWrite c v) = steps.begin_write b c v
step b (Deliver c k) = deliveries.deliver b c k
step b (NodeDown k) = steps.node_down b k
step b (ConsoleDown c) = steps.console_down b c
step b (NodeUp k) = steps.node_up b k
step b (Restart c) = steps.restart b c
