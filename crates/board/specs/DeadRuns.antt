-- Runs of Paper 6 (document 02): what every delivery of a down console must answer, and what must be left on the board.
-- proofs/PRunsHold.antt proves that the definitions give all of it.
use Rattle.std.specs.Prelude.{ℕ, false, List, [], ◌∷◌, ◌++◌, take}
use Rattle.parts.specs.declared.Frame.TheVariants.{Nothing, Put, Ack}
use Rattle.parts.specs.declared.Release.TheVariants.{One}
use Rattle.parts.specs.declared.State.TheVariants.{Down}
use Rattle.parts.specs.Parts.{fresh_node, idle_console}
use Rattle.decisions.specs.Changes.{rests, with_up}
use Rattle.board.specs.declared.Board.{Board}
use Rattle.board.specs.Boards.{with_node, with_console, fresh_board}
use Rattle.board.specs.Steps.{setup_of}
use Rattle.board.specs.Runs.{ConsoleDown}
use Rattle.board.specs.PRuns.{Look, Take, NodeOf, CellOf, Whole, Holds, Frames, Is, Line, ◌gives◌, PRun, tag, refused, done, handed, discarded, read, deliver, node_down, on_three, p2_steps, run, blank}

abbrev pub console_down : ℕ → Look
console_down c = Take (ConsoleDown c)

-- P2 up to where its put has reached node 0, and then its console goes down
abbrev burns_out : List Line
burns_out = take 6 p2_steps ++ (console_down 1 gives done ∷ [])

-- 'An assignment landed an hour after its console had burned out': now no node takes what is left of it, and each put goes when it is
-- delivered. The ack of node 0 is discarded as before
late : List Line
late =
    on_three
    (burns_out
    ++ (deliver 1 1 gives discarded
    ∷ NodeOf 1 gives Holds (tag 0 0) 0
    ∷ CellOf 1 0 gives Frames Ack
    ∷ CellOf 1 1 gives Frames Nothing
    ∷ CellOf 1 2 gives Frames (Put (tag 1 1) 7)
    ∷ deliver 1 1 gives refused 8
    ∷ deliver 1 2 gives discarded
    ∷ NodeOf 2 gives Holds (tag 0 0) 0
    ∷ deliver 1 0 gives discarded
    ∷ NodeOf 0 gives Holds (tag 1 1) 7
    ∷ []))

-- 'It is decided .. before question 9, whose node may be down too'
put_to_down : List Line
put_to_down =
    on_three
    (burns_out
    ++ (node_down 1 gives done
    ∷ deliver 1 1 gives discarded
    ∷ NodeOf 1 gives Holds (tag 0 0) 0
    ∷ CellOf 1 1 gives Frames Nothing
    ∷ CellOf 1 2 gives Frames (Put (tag 1 1) 7)
    ∷ []))

-- a fresh board but for console 0 and node 2, which are down
abbrev two_down : Board
two_down = with_node (with_console (fresh_board (setup_of 3 2 One)) 0 (rests Down idle_console)) 2 (with_up false fresh_node)

-- the same of asks: only those of a console that is up wait for node 2. Node 0's reply is discarded as before
asks_gone : List Line
asks_gone =
    on_three
    (read 0 gives done
    ∷ deliver 0 0 gives handed
    ∷ node_down 2 gives done
    ∷ deliver 0 2 gives refused 9
    ∷ console_down 0 gives done
    ∷ deliver 0 2 gives discarded
    ∷ deliver 0 1 gives discarded
    ∷ deliver 0 0 gives discarded
    ∷ Whole gives Is two_down
    ∷ deliver 0 2 gives refused 8
    ∷ [])

-- what a finished operation has left is handed on while its console is idle (document 01's extra), and withdrawn once it is down
left_over : List Line
left_over = on_three (p2_steps ++ (deliver 1 1 gives handed ∷ NodeOf 1 gives Holds (tag 1 1) 7 ∷ []))

left_over_down : List Line
left_over_down = on_three (p2_steps ++ (console_down 1 gives done ∷ deliver 1 1 gives discarded ∷ NodeOf 1 gives Holds (tag 0 0) 0 ∷ []))

unfoldable pub dead_runs : List PRun
unfolding late put_to_down asks_gone left_over left_over_down
dead_runs = run 1 blank late ∷ run 2 blank put_to_down ∷ run 3 blank asks_gone ∷ run 4 blank left_over ∷ run 5 blank left_over_down ∷ []
