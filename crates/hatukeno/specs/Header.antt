-- What bindings/c/board.h says of the words of an answer, of a preview, of a turn, of a step in a list and of a verdict. Words that
-- changed places in definition and code would meet every contract; these lists hold them to the header.
use Rattle.std.specs.Prelude.{ℕ, Bool, true, false, List, [], ◌∷◌, ◌≡◌, map, replicate, None, Some, Ok, Err}
use Rattle.parts.specs.declared.Tag.{Tag}
use Rattle.parts.specs.declared.Outcome.TheVariants.{Refused, Done, Handed, Finished}
use Rattle.std.specs.declared.cmp.Ordering.TheVariants.{Less, Equal, Greater}
use Rattle.decisions.specs.declared.refusals.Refusal.TheVariants.{NodeIsDown, NotWellFormed, TooManyRecords, UnsoundRecord}
use Rattle.board.specs.declared.Board.{Board}
use Rattle.board.specs.Answers.{answer, answer_with, refuse}
use Rattle.board.specs.Boards.{no_board}
use Rattle.board.specs.Deliver.{deliver}
use Rattle.board.specs.Steps.{begin_write}
use Rattle.picker.specs.declared.Next.TheVariants.{Nothing, Tile, Frame}
use Rattle.picker.specs.declared.Picker.{Picker}
use Rattle.picker.specs.Picking.{pair, unused}
use Rattle.shift.specs.declared.Rule.TheVariants.{SharedTag, NoSuchWrite, TagTooLow}
use Rattle.hatukeno.specs.declared.Verdict.{Verdict}
use Rattle.hatukeno.specs.Shifts.{verdict_of}
use Rattle.hatukeno.specs.Calls.{answer_fields}
use Rattle.hatukeno.specs.Previews.{preview_fields}
use Rattle.hatukeno.specs.Lists.{step_at}
use Rattle.hatukeno.specs.Turns.{picker_in, turn_fields, says_yes}

-- numbers that all differ
abbrev tag : Tag
tag = record { ts = 21; console = 6; life = 8 }

abbrev picker : Picker
picker = record { place = 1; last = pair 5 2 }

-- what the definitions give
unfoldable pub as_written : List (List ℕ)
as_written =
    answer_fields (refuse no_board NodeIsDown)
    ∷ answer_fields (answer Done no_board)
    ∷ answer_fields (answer Handed no_board)
    ∷ answer_fields (answer (Finished tag 42) no_board)
    ∷ answer_fields (answer_with (Some Less) (Finished tag 42) no_board)
    ∷ answer_fields (answer_with (Some Equal) (Finished tag 42) no_board)
    ∷ answer_fields (answer_with (Some Greater) (Finished tag 42) no_board)
    ∷ preview_fields (record { outcome = Finished tag 42; refusal = None; in_flight = 40 })
    ∷ preview_fields (record { outcome = Refused; refusal = Some NodeIsDown; in_flight = 40 })
    ∷ turn_fields (record { next = Nothing; refusal = None; picker = picker })
    ∷ turn_fields (record { next = Tile; refusal = None; picker = picker })
    ∷ turn_fields (record { next = Frame (pair 7 4); refusal = None; picker = picker })
    ∷ turn_fields (record { next = Nothing; refusal = Some NotWellFormed; picker = picker })
    ∷ turn_fields (record { next = Nothing; refusal = None; picker = picker_in (3 ∷ 6 ∷ 2 ∷ 9 ∷ 9 ∷ 9 ∷ 9 ∷ []) })
    ∷ turn_fields (record { next = Nothing; refusal = None; picker = unused })
    ∷ []

-- by which numbers a tile waits
unfoldable pub waiting : List Bool
waiting = map says_yes (0 ∷ 1 ∷ 2 ∷ 256 ∷ 4294967295 ∷ [])

unfoldable pub waiting_in_the_header : List Bool
waiting_in_the_header = false ∷ replicate 4 true

-- what the header says
unfoldable pub in_the_header : List (List ℕ)
in_the_header =
    (0 ∷ 9 ∷ 0 ∷ 0 ∷ 0 ∷ 0 ∷ 0 ∷ [])
    ∷ (1 ∷ 0 ∷ 0 ∷ 0 ∷ 0 ∷ 0 ∷ 0 ∷ [])
    ∷ (2 ∷ 0 ∷ 0 ∷ 0 ∷ 0 ∷ 0 ∷ 0 ∷ [])
    ∷ (5 ∷ 0 ∷ 21 ∷ 6 ∷ 42 ∷ 0 ∷ 8 ∷ [])
    ∷ (5 ∷ 0 ∷ 21 ∷ 6 ∷ 42 ∷ 1 ∷ 8 ∷ [])
    ∷ (5 ∷ 0 ∷ 21 ∷ 6 ∷ 42 ∷ 2 ∷ 8 ∷ [])
    ∷ (5 ∷ 0 ∷ 21 ∷ 6 ∷ 42 ∷ 3 ∷ 8 ∷ [])
    ∷ (5 ∷ 0 ∷ 21 ∷ 6 ∷ 42 ∷ 40 ∷ 8 ∷ [])
    ∷ (0 ∷ 9 ∷ 0 ∷ 0 ∷ 0 ∷ 40 ∷ 0 ∷ [])
    ∷ (1 ∷ 5 ∷ 2 ∷ 0 ∷ 0 ∷ 0 ∷ 0 ∷ [])
    ∷ (1 ∷ 5 ∷ 2 ∷ 1 ∷ 0 ∷ 0 ∷ 0 ∷ [])
    ∷ (1 ∷ 5 ∷ 2 ∷ 2 ∷ 0 ∷ 7 ∷ 4 ∷ [])
    ∷ (1 ∷ 5 ∷ 2 ∷ 0 ∷ 1 ∷ 0 ∷ 0 ∷ [])
    ∷ (3 ∷ 6 ∷ 2 ∷ 0 ∷ 0 ∷ 0 ∷ 0 ∷ [])
    ∷ (0 ∷ 4294967295 ∷ 4294967295 ∷ 0 ∷ 0 ∷ 0 ∷ 0 ∷ [])
    ∷ []

-- 'its number and its two numbers': console 1 begins a write of 7, and its frame is delivered to node 0
abbrev pub two_steps : List ℕ
two_steps = 2 ∷ 1 ∷ 7 ∷ 3 ∷ 1 ∷ 0 ∷ []

abbrev pub TwoSteps : Type 0
TwoSteps = (b : Board) → (step_at two_steps 0 b ≡ begin_write b 1 7) × (step_at two_steps 1 b ≡ deliver b 1 0)

-- refusal, rule, record and other record of a verdict
abbrev pub verdicts : List Verdict
verdicts =
    map verdict_of
    (Ok None
    ∷ Err TooManyRecords
    ∷ Err UnsoundRecord
    ∷ Ok (Some (record { fault = record { place = 5; rule = SharedTag }; other = Some 4 }))
    ∷ Ok (Some (record { fault = record { place = 5; rule = NoSuchWrite }; other = Some 0 }))
    ∷ Ok (Some (record { fault = record { place = 5; rule = NoSuchWrite }; other = None }))
    ∷ Ok (Some (record { fault = record { place = 5; rule = TagTooLow }; other = Some 4 }))
    ∷ [])

abbrev verdict : ℕ → ℕ → ℕ → ℕ → Verdict
verdict refusal rule place other = record { refusal = refusal; rule = rule; place = place; other = other }

unfoldable pub verdicts_in_the_header : List Verdict
verdicts_in_the_header =
    verdict 0 0 0 18446744073709551615
    ∷ verdict 17 0 0 18446744073709551615
    ∷ verdict 18 0 0 18446744073709551615
    ∷ verdict 0 1 5 4
    ∷ verdict 0 2 5 0
    ∷ verdict 0 2 5 18446744073709551615
    ∷ verdict 0 3 5 4
    ∷ []
