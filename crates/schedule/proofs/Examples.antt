-- Schedules by way of example, by computation, so that the definitions themselves are tried.
use Prim.Native.String.{String}
use mathlib.Core.List.{List, [], ◌∷◌, map}
use mathlib.Core.Path.{◌≡◌, refl}
use Rattle.csv_lines.specs.Quoted.{bytes}
use Rattle.csv_lines.specs.Reading.{index_of, count_of, from_field, quoted, unquoted, field_of, all_digits, value_from, num_of, line_of}
use Rattle.csv_lines.specs.Writing.{digits, decimal, joined, line_text}
use Rattle.csv_lines.specs.Splitting.{chop, lines_after}
use Rattle.board.proofs.Opened.{opened_step}
use Rattle.verbs.specs.Verbs.{step_of}
use Rattle.schedule.specs.Schedule.{answer_of, board_after, line_output, effect_of, next_number, output_of, schedule_text}

pub record Example : Type 0 where
  pub input : String
  pub must : String

infix 20 ◌prints◌
abbrev pub ◌prints◌ : String → String → Example
i prints o = record { input = i; must = o }

unfoldable pub examples : List Example
examples =
    -- 'input 0,1,1 and then 3,0,0 prints 1,0,1,0,0,0 and 2,8,0,0,0,0', with a life after each
    ("0,1,1\n3,0,0\n" prints "1,0,1,0,0,0,0\n2,8,0,0,0,0,0\n")
    -- a write by one node, with the end of the input for the last LF, and a verb in quotes
    ∷ ("\"2\",0,7\n3,0,0\n3,0,0\r\n3,0,0\n3,0,0" prints "1,0,1,0,0,0,0\n2,0,2,0,0,0,0\n3,0,4,0,0,0,0\n4,0,2,0,0,0,0\n5,0,5,1,0,7,0\n")
    -- nothing, an empty line, and a CR that no LF follows
    ∷ ("" prints "")
    ∷ ("\n" prints "1,11,0,0,0,0,0\n")
    ∷ ("0,1,1\r" prints "1,11,0,0,0,0,0\n")
    -- a refused fresh leaves the board of two nodes; an unknown verb is refused before question 4, and a line that is not three fields
    -- before that
    ∷ ("0,2,1\n0,6,1\n4,1,0\n8,9,9\n7,9\n" prints "1,0,1,0,0,0,0\n2,2,0,0,0,0,0\n3,0,1,0,0,0,0\n4,12,0,0,0,0,0\n5,11,0,0,0,0,0\n")
    -- of 64 bytes a line is read; of 65 it is too long, and that comes before what it says
    ∷ ("0,1,000000000000000000000000000000000000000000000000000000000001\n0,1,0000000000000000000000000000000000000000000000000000000000001\n" prints "1,0,1,0,0,0,0\n2,13,0,0,0,0,0\n")
    -- an ask waits for a node that is down, and is handed over once it has come back; a second node up and one of no node are refused
    ∷ ("1,0,0\n4,0,0\n3,0,0\n6,0,9\n6,0,9\n6,1,0\n3,0,0\n" prints "1,0,1,0,0,0,0\n2,0,1,0,0,0,0\n3,9,0,0,0,0,0\n4,0,1,0,0,0,0\n5,14,0,0,0,0,0\n6,5,0,0,0,0,0\n7,0,2,0,0,0,0\n")
    -- a write has turned when its console goes down: the put is discarded, though the node is down
    ∷ ("2,0,7\n3,0,0\n3,0,0\n5,0,0\n4,0,0\n3,0,0\n3,0,0\n" prints "1,0,1,0,0,0,0\n2,0,2,0,0,0,0\n3,0,4,0,0,0,0\n4,0,1,0,0,0,0\n5,0,1,0,0,0,0\n6,0,6,0,0,0,0\n7,8,0,0,0,0,0\n")
    -- a write is lost with its console, which restarts twice and writes again, in its third life; a restart of a
    -- console that is up is refused
    ∷ ("2,0,5\n5,0,0\n7,0,0\n7,0,9\n5,0,0\n7,0,9\n2,0,7\n3,0,0\n3,0,0\n3,0,0\n3,0,0\n7,1,0\n"
    prints "1,0,1,0,0,0,0\n2,0,1,0,0,0,0\n3,0,1,0,0,0,0\n4,15,0,0,0,0,0\n5,0,1,0,0,0,0\n6,0,1,0,0,0,0\n7,0,1,0,0,0,0\n8,0,2,0,0,0,0\n9,0,4,0,0,0,0\n10,0,2,0,0,0,0\n11,0,5,1,0,7,2\n12,4,0,0,0,0,0\n")
    ∷ []

pub schedules_printed : map (λ x. schedule_text (bytes x.input)) examples ≡ map (λ x. bytes x.must) examples
unfolding bytes index_of count_of from_field quoted unquoted field_of all_digits value_from num_of line_of
    digits decimal joined line_text chop lines_after
    opened_step step_of answer_of board_after line_output effect_of next_number output_of schedule_text examples
schedules_printed = refl
