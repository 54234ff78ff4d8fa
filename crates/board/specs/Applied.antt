-- What is decided of console c and node k (decisions/Steps and Deliver), done on the board. A step of a console alone
-- names no node, and one of a node alone no console: 0 stands for the number, and what is decided of such a step does
-- not touch the other part.
use Rattle.std.specs.Prelude.{ℕ, Ok, Err}
use Rattle.decisions.specs.declared.Part.{Part}
use Rattle.decisions.specs.declared.Part.TheVariants.{Neither, ConsoleTo, NodeTo}
use Rattle.decisions.specs.declared.Sent.{Sent}
use Rattle.decisions.specs.declared.Sent.TheVariants.{Keep, One, Row}
use Rattle.decisions.specs.Steps.{Decision}
use Rattle.board.specs.declared.Board.{Board}
use Rattle.board.specs.declared.Answer.{Answer}
use Rattle.board.specs.Boards.{with_node, with_console, with_frame, with_row}
use Rattle.board.specs.Answers.{answer_with, refuse}

-- a frame goes into the cell of console c and node k, or into 'all n cells' of console c, or the cells stay
unfoldable pub with_sent : Board → ℕ → ℕ → Sent → Board
with_sent b c k Keep = b
with_sent b c k (One f) = with_frame b c k f
with_sent b c k (Row f) = with_row b c f

-- console c or node k changes, or neither
unfoldable pub with_part : Board → ℕ → ℕ → Part → Board
with_part b c k Neither = b
with_part b c k (ConsoleTo x) = with_console b c x
with_part b c k (NodeTo y) = with_node b k y

-- what was decided of console c and node k, done on the board; refused, 'the board comes back unchanged'
unfoldable pub applied : Board → ℕ → ℕ → Decision → Answer
applied b c k (Err r) = refuse b r
applied b c k (Ok d) = answer_with d.compared d.outcome (with_part (with_sent b c k d.sent) c k d.part)
