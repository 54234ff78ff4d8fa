-- Schedules (document 02, Paper 1; the life: Paper 7): what a program that reads an input of lines writes.
use Rattle.std.specs.Prelude.{ℕ, ◌+◌, ◌-◌, ◌^◌, min, cond, List, [], ◌∷◌, ◌++◌, Ok, Err}
use Rattle.decisions.specs.Refusals.{refusal_number}
use Rattle.decisions.specs.declared.refusals.Refusal.TheVariants.{NotThreeFields, LineTooLong}
use Rattle.board.specs.declared.Answer.{Answer}
use Rattle.board.specs.declared.Board.{Board}
use Rattle.board.specs.Answers.{refuse}
use Rattle.board.specs.Boards.{fresh_board}
use Rattle.board.specs.Steps.{smallest}
use Rattle.csv_lines.specs.declared.BadLine.TheVariants.{TooLong, NotThree}
use Rattle.csv_lines.specs.Reading.{Line, line_of}
use Rattle.parts.specs.Outcomes.{accepted, outcome_number, outcome_tag, outcome_value}
use Rattle.csv_lines.specs.Splitting.{lines_of}
use Rattle.csv_lines.specs.declared.Output.{Output}
use Rattle.csv_lines.specs.Writing.{line_text}
use Rattle.verbs.specs.Verbs.{step_of}

-- 'It refuses a line over 64 bytes with 13, then one that is not three such fields with 11, then an unknown verb with 12
-- [step_of], all before document 01's questions'
unfoldable pub answer_of : Line → Board → Answer
answer_of (Err TooLong) b = refuse b LineTooLong
answer_of (Err NotThree) b = refuse b NotThreeFields
answer_of (Ok (v, x, y)) b = step_of v x y b

-- the answer to a line
abbrev pub answer_to : List ℕ → Board → Answer
answer_to line b = answer_of (line_of line) b

-- 'A refused line changes nothing': not even a refused fresh, whose answer holds another board
unfoldable pub board_after : Board → Answer → Board
board_after b a = cond (accepted a.outcome) a.board b

-- 'Each output line has line number, refusal or 0, outcome, ts, console, value; the last three are 0 unless finished',
-- and 'the tag's life as a seventh field': of any other outcome the tag is (0, 0), in life 0, and the value 0
unfoldable pub line_output : ℕ → Answer → Output
line_output n a =
    record {
      number = n;
      fields =
          refusal_number a.refusal
          ∷ outcome_number a.outcome
          ∷ (outcome_tag a.outcome).ts
          ∷ (outcome_tag a.outcome).console
          ∷ outcome_value a.outcome
          ∷ (outcome_tag a.outcome).life
          ∷ [];
    }

-- what a line comes to: the board after it, and its output line
pub record Effect : Type 0 where
  pub board : Board
  pub text : List ℕ

-- the line with number n, put to the board b
unfoldable pub effect_of : Board → ℕ → List ℕ → Effect
effect_of b n line = record { board = board_after b (answer_to line b); text = line_text (line_output n (answer_to line b)) }

-- 'Lines are numbered from 1', in 64 bits: the last number that there is stays
abbrev pub first_number : ℕ
first_number = 1

unfoldable pub next_number : ℕ → ℕ
next_number n = min (n + 1) (2 ^ 64 - 1)

-- the output for lines from number n on, put to the board b one after the other: 'the run goes on'
unfoldable pub output_of : Board → ℕ → List (List ℕ) → List ℕ
output_of b n [] = []
output_of b n (l ∷ ls) = (effect_of b n l).text ++ output_of (effect_of b n l).board (next_number n) ls

-- the output for an input. 'Before a verb 0 the board has one node and one console'
unfoldable pub schedule_text : List ℕ → List ℕ
schedule_text input = output_of (fresh_board smallest) first_number (lines_of input)
