-- What a step answers.
use Rattle.std.specs.Prelude.{Option, None, Some}
use Rattle.std.specs.declared.cmp.Ordering.{Ordering}
use Rattle.board.specs.declared.Board.{Board}
use Rattle.parts.specs.declared.Outcome.{Outcome}
use Rattle.parts.specs.declared.Outcome.TheVariants.{Refused}
use Rattle.decisions.specs.declared.refusals.Refusal.{Refusal}
use Rattle.board.specs.declared.Answer.{Answer}

-- an accepted step, and how the reply that it took in compared (document 02, Paper 3)
abbrev pub answer_with : Option Ordering → Outcome → Board → Answer
answer_with how o b = record { outcome = o; refusal = None; compared = how; board = b }

-- an accepted step 'that takes no reply in, says none'
abbrev pub answer : Outcome → Board → Answer
answer o b = answer_with None o b

-- 'The first no gives the refusal with that number; the board comes back unchanged, with no outcome, tag and value 0'; 'a
-- refused delivery .. says none'
abbrev pub refuse : Board → Refusal → Answer
refuse b r = record { outcome = Refused; refusal = Some r; compared = None; board = b }
