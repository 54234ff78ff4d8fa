-- Runs of Paper 7 (document 02): consoles that restart, tags that differ in the life alone, and restart's questions in
-- their order; and decisions, for what no board can tell. proofs/PRunsHold.antt proves that the definitions give all of
-- it.
use Rattle.std.specs.Prelude.{ℕ, true, false, List, [], ◌∷◌, ◌++◌, replicate, None, Some, Err}
use Rattle.std.specs.declared.cmp.Ordering.TheVariants.{Less, Greater}
use Rattle.parts.specs.declared.Tag.{Tag}
use Rattle.parts.specs.declared.Frame.TheVariants.{Nothing, Ask, Reply, Put, Ack}
use Rattle.parts.specs.declared.Cell.{Cell}
use Rattle.parts.specs.declared.Node.{Node}
use Rattle.parts.specs.declared.Kind.TheVariants.{Read, Write}
use Rattle.parts.specs.declared.State.TheVariants.{Asking, Telling}
use Rattle.parts.specs.declared.Console.{Console}
use Rattle.parts.specs.declared.Outcome.TheVariants.{Done}
use Rattle.parts.specs.declared.Release.TheVariants.{One, Two}
use Rattle.parts.specs.Tags.{zero_tag}
use Rattle.parts.specs.Parts.{fresh_node, idle_console, cell_of}
use Rattle.decisions.specs.declared.Part.TheVariants.{ConsoleTo}
use Rattle.decisions.specs.declared.Sent.TheVariants.{Row}
use Rattle.decisions.specs.declared.refusals.Refusal.TheVariants.{NoSuchConsole}
use Rattle.decisions.specs.Steps as decisions
use Rattle.decisions.specs.Steps.{accept}
use Rattle.board.specs.declared.Board.{Board}
use Rattle.board.specs.Steps.{setup_of}
use Rattle.board.specs.Runs.{Restart}
use Rattle.board.specs.PRuns.{Look, Take, NodeOf, CellOf, Whole, Holds, Frames, Is, Line, ◌gives◌, PRun, tag, refused, done, handed, heard, turned, finished, read, write, deliver, on_three, p2_steps, asks_two, run, blank}
use Rattle.board.specs.CompareRuns as compare
use Rattle.board.specs.CompareRuns.{CompareRun}
use Rattle.board.specs.DeadRuns.{console_down}
use Rattle.board.specs.OrderRuns.{holding, console, down_console, row, all_of, nodes, fresh_nodes, board, board_of1, p2_nodes, Decided, ◌must_be◌, damaged_board}

abbrev pub restart : ℕ → Look
restart c = Take (Restart c)

-- a tag that a console chose in its life l
abbrev pub life_tag : ℕ → ℕ → ℕ → Tag
life_tag t c l = record { ts = t; console = c; life = l }

-- the console in its life l
abbrev pub in_life : ℕ → Console → Console
in_life l x = record { state = x.state; wanted = x.wanted; answered = x.answered; best = x.best; value = x.value; alike = x.alike; life = l }

abbrev idle_in : ℕ → Console
idle_in l = in_life l idle_console

abbrev down_in : ℕ → Console
down_in l = in_life l down_console

-- a node that is up and holds the tag with value 7
abbrev held : Tag → Node
held t = record { up = true; tag = t; value = 7 }

-- ---- two writes of one console never share a tag

-- console 0 writes 5 and has told node 0 alone when it goes down; restarted, it hears of nothing at nodes 1 and 2, and
-- writes 6 under the same timestamp: 'A write uses the current life'
abbrev two_lives : List Line
two_lives =
    (write 0 5 gives done ∷ [])
    ++ asks_two 0
    ++ (deliver 0 0 gives handed
    ∷ NodeOf 0 gives Holds (tag 1 0) 5
    ∷ console_down 0 gives done
    ∷ restart 0 gives done
    ∷ write 0 6 gives done
    ∷ deliver 0 1 gives handed
    ∷ CellOf 0 1 gives Frames (Reply (tag 0 0) 0)
    ∷ deliver 0 1 gives heard
    ∷ deliver 0 2 gives handed
    ∷ CellOf 0 2 gives Frames (Reply (tag 0 0) 0)
    ∷ deliver 0 2 gives turned
    ∷ CellOf 0 1 gives Frames (Put (life_tag 1 0 1) 6)
    ∷ deliver 0 1 gives handed
    ∷ deliver 0 1 gives heard
    ∷ deliver 0 2 gives handed
    ∷ deliver 0 2 gives finished (life_tag 1 0 1) 6
    ∷ NodeOf 0 gives Holds (tag 1 0) 5
    ∷ NodeOf 1 gives Holds (life_tag 1 0 1) 6
    ∷ [])

-- console 1 reads by nodes k and l, in either order: it finds the second write
abbrev reads_second : ℕ → ℕ → List Line
reads_second k l =
    on_three
    (two_lives
    ++ (read 1 gives done
    ∷ deliver 1 0 gives handed
    ∷ deliver 1 1 gives handed
    ∷ deliver 1 k gives heard
    ∷ deliver 1 l gives turned
    ∷ deliver 1 0 gives handed
    ∷ NodeOf 0 gives Holds (life_tag 1 0 1) 6
    ∷ deliver 1 0 gives heard
    ∷ deliver 1 1 gives handed
    ∷ deliver 1 1 gives finished (life_tag 1 0 1) 6
    ∷ []))

-- the life is 'compared after ts and console': (1, 0) in life 1,000 is greater than in life 999, (2, 0) in life 0
-- greater than (1, 0) in life 1,000, and (1, 1) in life 0 greater than (1, 0) in life 1,000; an equal tag is not
-- greater
abbrev puts_board : Board
puts_board =
    board (nodes (held (life_tag 1 0 999)) (held (life_tag 1 0 1000)) (held (life_tag 1 1 1)))
    idle_console
    (row (Put (life_tag 1 0 1000) 9) (Put (tag 1 1) 9) (Put (life_tag 1 1 1) 9))
    idle_console
    (row (Put (tag 2 0) 9) Nothing (Put (life_tag 1 0 1000) 9))

puts : List Line
puts =
    deliver 0 0 gives handed
    ∷ NodeOf 0 gives Holds (life_tag 1 0 1000) 9
    ∷ deliver 1 0 gives handed
    ∷ NodeOf 0 gives Holds (tag 2 0) 9
    ∷ deliver 0 1 gives handed
    ∷ NodeOf 1 gives Holds (tag 1 1) 9
    ∷ deliver 0 2 gives handed
    ∷ NodeOf 2 gives Holds (life_tag 1 1 1) 7
    ∷ deliver 1 2 gives handed
    ∷ NodeOf 2 gives Holds (life_tag 1 1 1) 7
    ∷ []

-- ---- what a restart leaves on the whole board

-- 'makes a down console idle with its life one higher and empties its cells': its own, whatever they hold, and no
-- others; the nodes stay
abbrev crashed : Console → List Cell → Board
crashed x xs =
    board (nodes (holding 1 1 7) (record { up = false; tag = zero_tag; value = 0 }) fresh_node) (console (Asking Read) 0 1 (tag 1 1) 7 true) (row Nothing Ask (Reply zero_tag 0)) x xs

empties : List Line
empties =
    restart 1 gives done
    ∷ Whole gives Is (crashed (idle_in 4) (all_of Nothing))
    ∷ deliver 1 0 gives refused 8
    ∷ deliver 1 1 gives refused 8
    ∷ deliver 1 2 gives refused 8
    ∷ []

-- twice in a row: it is up by then. Down and restarted again it is in life 2; 'a board's console keeps its current
-- life' when it goes down, and a read in life 2 keeps the tag that it finds
again : List Line
again =
    on_three
    (p2_steps
    ++ (console_down 1 gives done
    ∷ restart 1 gives done
    ∷ restart 1 gives refused 15
    ∷ Whole gives Is (board_of1 p2_nodes (idle_in 1) (all_of Nothing))
    ∷ console_down 1 gives done
    ∷ Whole gives Is (board_of1 p2_nodes (down_in 1) (all_of Nothing))
    ∷ restart 1 gives done
    ∷ read 1 gives done
    ∷ Whole gives Is (board_of1 p2_nodes (in_life 2 (console (Asking Read) 0 0 zero_tag 0 false)) (all_of Ask))
    ∷ deliver 1 0 gives handed
    ∷ deliver 1 0 gives heard
    ∷ deliver 1 2 gives handed
    ∷ deliver 1 2 gives turned
    ∷ Whole gives Is (board_of1 p2_nodes (in_life 2 (console (Telling Read) 0 0 (tag 1 1) 7 false)) (all_of (Put (tag 1 1) 7)))
    ∷ deliver 1 0 gives handed
    ∷ deliver 1 0 gives heard
    ∷ deliver 1 2 gives handed
    ∷ deliver 1 2 gives finished (tag 1 1) 7
    ∷ Whole gives Is (board_of1 p2_nodes (idle_in 2) (row Nothing (Put (tag 1 1) 7) Nothing))
    ∷ []))

-- ---- restart's questions: 'It refuses, after question 4, a console that is up with 15, then a life already at 1,000 with 16'

-- idle, asking and telling consoles are up
ups : List Line
ups =
    on_three
    (restart 2 gives refused 4
    ∷ restart 8 gives refused 4
    ∷ restart 1 gives refused 15
    ∷ write 1 7 gives done
    ∷ restart 1 gives refused 15
    ∷ deliver 1 0 gives handed
    ∷ deliver 1 0 gives heard
    ∷ deliver 1 2 gives handed
    ∷ deliver 1 2 gives turned
    ∷ restart 1 gives refused 15
    ∷ Whole gives Is (board_of1 fresh_nodes (console (Telling Write) 7 0 (tag 1 1) 7 false) (all_of (Put (tag 1 1) 7)))
    ∷ [])

-- the last life is 1,000: console 0 has it and is idle, then down; console 1 is down in life 999 and comes back in its
-- last, in which it writes
abbrev last_board : Console → Console → Board
last_board x y = board fresh_nodes x (all_of Nothing) y (all_of Nothing)

lasts : List Line
lasts =
    restart 0 gives refused 15
    ∷ console_down 0 gives done
    ∷ restart 0 gives refused 16
    ∷ restart 1 gives done
    ∷ Whole gives Is (last_board (down_in 1000) (idle_in 1000))
    ∷ write 1 7 gives done
    ∷ deliver 1 0 gives handed
    ∷ deliver 1 0 gives heard
    ∷ deliver 1 1 gives handed
    ∷ deliver 1 1 gives turned
    ∷ CellOf 1 2 gives Frames (Put (life_tag 1 1 1000) 7)
    ∷ console_down 1 gives done
    ∷ restart 1 gives refused 16
    ∷ CellOf 1 2 gives Frames (Put (life_tag 1 1 1000) 7)
    ∷ []

-- 1 before all others
damaged : List Line
damaged = restart 2 gives refused 1 ∷ restart 0 gives refused 1 ∷ restart 1 gives refused 1 ∷ Whole gives Is damaged_board ∷ []

-- under release 2 on three nodes, which hold (1, 0) in lives 0, 1 and 1: console 0 is x, and its replies are in their
-- cells
abbrev asked_board : Console → Board
asked_board x =
    record {
      setup = setup_of 3 2 Two;
      nodes = nodes (held (tag 1 0)) (held (life_tag 1 0 1)) (held (life_tag 1 0 1));
      consoles = x ∷ replicate 7 idle_console;
      cells = row (Reply (tag 1 0) 7) (Reply (life_tag 1 0 1) 7) (Reply (life_tag 1 0 1) 7) ++ replicate 35 (cell_of Nothing);
    }

abbrev asking : Console
asking = in_life 5 (console (Asking Read) 0 0 zero_tag 0 false)

-- a read that finishes early keeps its console's life
early : List Line
early =
    deliver 0 1 gives heard
    ∷ deliver 0 2 gives finished (life_tag 1 0 1) 7
    ∷ read 0 gives done
    ∷ console_down 0 gives done
    ∷ restart 0 gives done
    ∷ write 0 9 gives done
    ∷ deliver 0 0 gives handed
    ∷ deliver 0 0 gives heard
    ∷ deliver 0 1 gives handed
    ∷ deliver 0 1 gives turned
    ∷ CellOf 0 2 gives Frames (Put (life_tag 2 0 6) 9)
    ∷ []

-- a write that hears of a life above its console's uses its console's all the same
lower_life : List Line
lower_life =
    write 1 8 gives done
    ∷ deliver 1 1 gives handed
    ∷ deliver 1 1 gives heard
    ∷ deliver 1 2 gives handed
    ∷ deliver 1 2 gives turned
    ∷ CellOf 1 0 gives Frames (Put (tag 2 1) 8)
    ∷ []

-- what no board can tell: 4 before 15 and 16, of a console beyond m that is up, or down in its last life; and that a
-- restart says no comparison
unfoldable pub restart_decisions : List Decided
restart_decisions =
    decisions.restarts true (setup_of 3 2 One) 2 idle_console must_be Err NoSuchConsole
    ∷ decisions.restarts true (setup_of 3 2 One) 2 (down_in 1000) must_be Err NoSuchConsole
    ∷ decisions.restarts true (setup_of 3 2 One) 1 (down_in 999) must_be accept None Done (ConsoleTo (idle_in 1000)) (Row Nothing)
    ∷ []

unfoldable pub restart_runs : List PRun
unfolding puts empties again ups lasts damaged early lower_life
restart_runs =
    run 1 blank (reads_second 0 1)
    ∷ run 2 blank (reads_second 1 0)
    ∷ run 3 puts_board puts
    ∷ run 4 (crashed (down_in 3) (row Ack (Put (life_tag 2 1 3) 8) (Reply (tag 1 1) 7))) empties
    ∷ run 5 (crashed (down_in 3) (all_of Ask)) empties
    ∷ run 6 blank again
    ∷ run 7 blank ups
    ∷ run 8 (last_board (idle_in 1000) (down_in 999)) lasts
    ∷ run 9 damaged_board damaged
    ∷ run 10 (asked_board asking) early
    ∷ run 11 (asked_board asking) lower_life
    ∷ []

-- ---- under release 2

-- of two replies whose tags differ in the life alone one is higher: the mark goes off, and a read turns
unfoldable pub restart_replies : List CompareRun
restart_replies =
    record { start = asked_board asking; lines = compare.heard 0 0 (Some Greater) true ∷ compare.turned 0 1 (Some Greater) ∷ [] }
    ∷ record { start = asked_board asking; lines = compare.heard 0 1 (Some Greater) true ∷ compare.turned 0 0 (Some Less) ∷ [] }
    ∷ []
