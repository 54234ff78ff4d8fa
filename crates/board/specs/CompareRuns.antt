-- Runs of Paper 3 (document 02): what every step must say of the reply, and how the mark of its console must stand after it.
-- proofs/PRunsHold.antt proves that the definitions give all of it.
use Rattle.std.specs.Prelude.{ℕ, Bool, true, false, List, [], ◌∷◌, ◌++◌, Option, None, Some}
use Rattle.std.specs.declared.cmp.Ordering.{Ordering}
use Rattle.std.specs.declared.cmp.Ordering.TheVariants.{Less, Equal, Greater}
use Rattle.parts.specs.declared.Console.{Console}
use Rattle.parts.specs.declared.Frame.TheVariants.{Reply}
use Rattle.parts.specs.declared.Release.TheVariants.{One}
use Rattle.parts.specs.declared.Kind.TheVariants.{Read, Write}
use Rattle.parts.specs.declared.State.{State}
use Rattle.parts.specs.declared.State.TheVariants.{Idle, Asking, Telling, Down}
use Rattle.parts.specs.Tags.{zero_tag}
use Rattle.parts.specs.Outcomes.{outcome_number}
use Rattle.decisions.specs.Refusals.{refusal_number}
use Rattle.board.specs.declared.Answer.{Answer}
use Rattle.board.specs.declared.Board.{Board}
use Rattle.board.specs.Boards.{console_at, with_console, with_frame, fresh_board}
use Rattle.board.specs.Steps.{setup_of}
use Rattle.board.specs.Runs.{Step, BeginRead, BeginWrite, Deliver, NodeDown, ConsoleDown, NodeUp, Restart, step}
use Rattle.board.specs.PRuns.{p9_board}

-- a step, the numbers of its outcome and its refusal, how the reply compared, and the mark of its console after it
pub record Told : Type 0 where
  pub did : Step
  pub outcome : ℕ
  pub refusal : ℕ
  pub compared : Option Ordering
  pub alike : Bool

pub record CompareRun : Type 0 where
  pub start : Board
  pub lines : List Told

-- ---- what the definitions give

-- the console that a step names; 0 if it names none
abbrev console_of : Step → ℕ
console_of (BeginRead c) = c
console_of (BeginWrite c v) = c
console_of (Deliver c k) = c
console_of (NodeDown k) = 0
console_of (ConsoleDown c) = c
console_of (NodeUp k) = 0
console_of (Restart c) = c

abbrev told : Step → Answer → Told
told s a =
    record {
      did = s;
      outcome = outcome_number a.outcome;
      refusal = refusal_number a.refusal;
      compared = a.compared;
      alike = (console_at a.board (console_of s)).alike;
    }

-- the same steps, with what they say one after the other
unfoldable pub all_told : Board → List Told → List Told
all_told b [] = []
all_told b (l ∷ ls) = told l.did (step b l.did) ∷ all_told (step b l.did).board ls

abbrev pub says : CompareRun → List Told
says r = all_told r.start r.lines

abbrev pub must_say : CompareRun → List Told
must_say r = r.lines

-- ---- the words of the runs; on says whether the mark is

abbrev does : Step → ℕ → ℕ → Option Ordering → Bool → Told
does s o r how on = record { did = s; outcome = o; refusal = r; compared = how; alike = on }

abbrev pub done : Step → Told
done s = does s 1 0 None false

abbrev pub handed : ℕ → ℕ → Bool → Told
handed c k on = does (Deliver c k) 2 0 None on

abbrev pub heard : ℕ → ℕ → Option Ordering → Bool → Told
heard c k how on = does (Deliver c k) 3 0 how on

abbrev pub turned : ℕ → ℕ → Option Ordering → Told
turned c k how = does (Deliver c k) 4 0 how false

abbrev pub finished : ℕ → ℕ → Option Ordering → Told
finished c k how = does (Deliver c k) 5 0 how false

abbrev discarded : ℕ → ℕ → Bool → Told
discarded c k on = does (Deliver c k) 6 0 None on

abbrev refused : ℕ → ℕ → ℕ → Bool → Told
refused c k r on = does (Deliver c k) 0 r None on

-- ---- the runs, on five nodes and two consoles

abbrev on_five : List Told → CompareRun
on_five ls = record { start = fresh_board (setup_of 5 2 One); lines = ls }

-- a read on a board where nothing was written: every reply is the same as (0, 0). Once told, an ack says none
agreed : List Told
agreed =
    done (BeginRead 0)
    ∷ handed 0 0 false
    ∷ heard 0 0 (Some Equal) true
    ∷ handed 0 1 true
    ∷ heard 0 1 (Some Equal) true
    ∷ handed 0 2 true
    ∷ turned 0 2 (Some Equal)
    ∷ handed 0 0 false
    ∷ heard 0 0 None false
    ∷ handed 0 1 false
    ∷ heard 0 1 None false
    ∷ handed 0 2 false
    ∷ finished 0 2 None
    ∷ []

-- console 1 writes: nodes 0, 1 and 2 hold (1, 1), and nodes 3 and 4 still (0, 0)
unfoldable pub written : List Told
written =
    done (BeginWrite 1 7)
    ∷ handed 1 0 false
    ∷ heard 1 0 (Some Equal) true
    ∷ handed 1 1 true
    ∷ heard 1 1 (Some Equal) true
    ∷ handed 1 2 true
    ∷ turned 1 2 (Some Equal)
    ∷ handed 1 0 false
    ∷ heard 1 0 None false
    ∷ handed 1 1 false
    ∷ heard 1 1 None false
    ∷ handed 1 2 false
    ∷ finished 1 2 None
    ∷ []

-- the first answer sets the mark, whatever its tag: it is compared with (0, 0). A lower tag clears it
unfoldable pub lower : List Told
unfolding written
lower =
    written
    ++ (done (BeginRead 0)
    ∷ handed 0 0 false
    ∷ heard 0 0 (Some Greater) true
    ∷ handed 0 3 true
    ∷ heard 0 3 (Some Less) false
    ∷ handed 0 1 false
    ∷ turned 0 1 (Some Equal)
    ∷ [])

-- a higher tag clears it
unfoldable pub higher : List Told
unfolding written
higher =
    written
    ++ (done (BeginRead 0)
    ∷ handed 0 3 false
    ∷ heard 0 3 (Some Equal) true
    ∷ handed 0 2 true
    ∷ heard 0 2 (Some Greater) false
    ∷ handed 0 4 false
    ∷ turned 0 4 (Some Less)
    ∷ [])

-- a console goes down while its mark is on: it is off then, and the reply that comes after is thrown away
lost : List Told
lost =
    done (BeginRead 0)
    ∷ handed 0 0 false
    ∷ handed 0 1 false
    ∷ heard 0 0 (Some Equal) true
    ∷ done (ConsoleDown 0)
    ∷ discarded 0 1 false
    ∷ []

-- P9's boards: a delivery that question 10 refuses says none, though its reply is higher; one timestamp lower it turns
too_high : List Told
too_high = refused 0 0 10 false ∷ []

highest : List Told
highest = turned 0 0 (Some Greater) ∷ []

-- a console in state s with the answered set a
abbrev console : State → ℕ → Bool → Console
console s a on = record { state = s; wanted = 0; answered = a; best = zero_tag; value = 0; alike = on; life = 0 }

-- the reply of a node that has answered, which no run leads to: it is thrown away, and the mark stays on
again : CompareRun
again =
    record {
      start = with_frame (with_console (fresh_board (setup_of 5 2 One)) 0 (console (Asking Read) 4 true)) 0 2 (Reply zero_tag 0);
      lines = discarded 0 2 true ∷ [];
    }

-- a board on which console c is x and all cells are empty: question 4 or 8 refuses the delivery, or question 1 if the mark may
-- not stand so
abbrev marked : ℕ → Console → ℕ → CompareRun
marked c x r = record { start = with_console (fresh_board (setup_of 5 2 One)) c x; lines = refused c 0 r x.alike ∷ [] }

-- each clause on the mark, broken and kept; two answers, with which it may be on or off; and a console beyond m
marks : List CompareRun
marks =
    marked 0 (console (Telling Read) 0 true) 1
    ∷ marked 0 (console (Telling Read) 0 false) 8
    ∷ marked 0 (console (Telling Write) 1 true) 1
    ∷ marked 0 (console (Telling Write) 1 false) 8
    ∷ marked 0 (console Idle 0 true) 1
    ∷ marked 0 (console Idle 0 false) 8
    ∷ marked 0 (console Down 0 true) 1
    ∷ marked 0 (console Down 0 false) 8
    ∷ marked 0 (console (Asking Read) 0 true) 1
    ∷ marked 0 (console (Asking Read) 0 false) 8
    ∷ marked 0 (console (Asking Read) 4 false) 1
    ∷ marked 0 (console (Asking Read) 4 true) 8
    ∷ marked 0 (console (Asking Write) 5 true) 8
    ∷ marked 0 (console (Asking Write) 5 false) 8
    ∷ marked 2 (console Idle 0 true) 1
    ∷ marked 2 (console Idle 0 false) 4
    ∷ []

unfoldable pub compare_runs : List CompareRun
unfolding agreed written lower higher lost too_high highest again marks
compare_runs =
    on_five agreed
    ∷ on_five lower
    ∷ on_five higher
    ∷ on_five lost
    ∷ record { start = p9_board 4000000000; lines = too_high }
    ∷ record { start = p9_board 3999999999; lines = highest }
    ∷ again
    ∷ marks
