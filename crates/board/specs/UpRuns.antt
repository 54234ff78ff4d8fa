-- Runs of node up (document 02, Paper 2), with what every step must answer. proofs/PRunsHold.antt proves that the definitions
-- give all of it.
use Rattle.std.specs.Prelude.{ℕ, List, [], ◌∷◌, ◌++◌}
use Rattle.parts.specs.declared.Frame.TheVariants.{Put}
use Rattle.parts.specs.declared.Release.TheVariants.{One}
use Rattle.board.specs.Boards.{fresh_board}
use Rattle.board.specs.Steps.{setup_of}
use Rattle.board.specs.Runs.{NodeUp}
use Rattle.board.specs.PRuns.{Look, Take, NodeOf, CellOf, Whole, Holds, Frames, Is, Line, ◌gives◌, PRun, tag, refused, done, handed, deliver, node_down, on_three, p2_steps, run, blank, p9_board}

abbrev pub node_up : ℕ → Look
node_up k = Take (NodeUp k)

-- 'the node resumes with the tag and value it held'
keeps : List Line
keeps =
    on_three
    (p2_steps
    ++ (node_down 0 gives done
    ∷ node_up 0 gives done
    ∷ NodeOf 0 gives Holds (tag 1 1) 7
    ∷ []))

-- 'frames waiting for it can be delivered again': P2's put to node 1
waits : List Line
waits =
    on_three
    (p2_steps
    ++ (node_down 1 gives done
    ∷ deliver 1 1 gives refused 9
    ∷ node_up 1 gives done
    ∷ NodeOf 1 gives Holds (tag 0 0) 0
    ∷ CellOf 1 1 gives Frames (Put (tag 1 1) 7)
    ∷ deliver 1 1 gives handed
    ∷ NodeOf 1 gives Holds (tag 1 1) 7
    ∷ []))

-- 'It refuses, after question 5, a node that is already up with 14'; after a down and an up the board is as it was
twice : List Line
twice =
    on_three
    (node_up 3 gives refused 5
    ∷ node_up 0 gives refused 14
    ∷ node_down 0 gives done
    ∷ node_down 0 gives refused 9
    ∷ node_up 0 gives done
    ∷ node_up 0 gives refused 14
    ∷ Whole gives Is (fresh_board (setup_of 3 2 One))
    ∷ [])

-- question 1 comes first: a timestamp is too high
damaged : List Line
damaged = node_up 0 gives refused 1 ∷ node_up 1 gives refused 1 ∷ Whole gives Is (p9_board 4000000001) ∷ []

unfoldable pub up_runs : List PRun
unfolding keeps waits twice damaged
up_runs = run 1 blank keeps ∷ run 2 blank waits ∷ run 3 blank twice ∷ run 4 (p9_board 4000000001) damaged ∷ []
