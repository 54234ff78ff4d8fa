-- Deliver (document 01, 'The steps'): what it comes to is decided in decisions/Deliver, by one console, one node and
-- one frame.
use Rattle.std.specs.Prelude.{ℕ, Bool}
use Rattle.parts.specs.Outcomes.{accepted}
use Rattle.decisions.specs.Steps.{Decision}
use Rattle.decisions.specs.Deliver.{delivered}
use Rattle.board.specs.declared.Board.{Board}
use Rattle.board.specs.declared.Answer.{Answer}
use Rattle.board.specs.Boards.{node_at, console_at, frame_at}
use Rattle.board.specs.WellFormed.{well_formed}
use Rattle.board.specs.Applied.{applied}

-- 'Deliver (console, node) takes the frame in that cell'; what it comes to
abbrev pub delivery : Board → ℕ → ℕ → Decision
delivery b c k = delivered (well_formed b) b.setup c k (console_at b c) (node_at b k) (frame_at b c k)

unfoldable pub deliver : Board → ℕ → ℕ → Answer
deliver b c k = applied b c k (delivery b c k)

-- 'a deliver of that console and node as the next step would be accepted': the progress rule's words, and what a frame
-- that 'can be delivered without refusal' is to the picker (document 02, Paper 9)
unfoldable pub deliverable : Board → ℕ → ℕ → Bool
deliverable b c k = accepted (deliver b c k).outcome
