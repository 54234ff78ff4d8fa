-- The preview of a delivery (document 02, Paper 8). It is no step: it changes no board and joins no run.
use Rattle.std.specs.Prelude.{ℕ, Bool, not, cond, eqb, List, length, filter}
use Rattle.parts.specs.declared.Cell.{Cell}
use Rattle.parts.specs.Parts.{is_nothing}
use Rattle.decisions.specs.Refusals.{refusal_number}
use Rattle.board.specs.declared.Board.{Board}
use Rattle.board.specs.declared.Answer.{Answer}
use Rattle.board.specs.declared.Preview.{Preview}
use Rattle.board.specs.Deliver.{deliver}

-- a cell 'holds nothing or one frame'
abbrev pub has_frame : Cell → Bool
has_frame x = not (is_nothing x.frame)

-- 'counting there the cells that hold a frame': all of them, whoever the frame is for and whether or not anyone still
-- waits for it
unfoldable pub frames_in : List Cell → ℕ
frames_in xs = length (filter has_frame xs)

-- 'gives outcome, refusal, tag and value, and the number of frames in flight after it', on the board that was handed
-- back, which after a refusal is the board as it was; '0 under refusal 1'
unfoldable pub preview_of : Answer → Preview
preview_of a =
    record {
      outcome = a.outcome;
      refusal = a.refusal;
      in_flight = cond (eqb (refusal_number a.refusal) 1) 0 (frames_in a.board.cells);
    }

-- 'takes the board and a pair'; 'It must equal delivering on a copy and counting there'
abbrev pub preview : Board → ℕ → ℕ → Preview
preview b c k = preview_of (deliver b c k)
