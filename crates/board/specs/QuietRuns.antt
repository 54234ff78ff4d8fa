-- Runs of Paper 4 (document 02), under release 2 and one beside it under release 1: what every step must answer, and what must be
-- left on the board. proofs/PRunsHold.antt proves that the definitions give all of it.
use Rattle.std.specs.Prelude.{true, false, List, [], ◌∷◌, ◌++◌, None, Some}
use Rattle.std.specs.declared.cmp.Ordering.TheVariants.{Equal, Greater}
use Rattle.parts.specs.declared.Frame.TheVariants.{Nothing, Ask, Reply, Put}
use Rattle.parts.specs.declared.Release.TheVariants.{One, Two}
use Rattle.board.specs.Boards.{with_frame, fresh_board}
use Rattle.board.specs.Steps.{setup_of}
use Rattle.board.specs.Runs.{BeginRead, BeginWrite}
use Rattle.board.specs.PRuns.{Make, NodeOf, CellOf, Whole, Seen, Holds, Frames, Is, Line, ◌gives◌, PRun, tag, refused, done, handed, heard, turned, finished, discarded, read, deliver, p2_steps, p3_steps, run, blank}
use Rattle.board.specs.CompareRuns as compare
use Rattle.board.specs.CompareRuns.{CompareRun, Told, lower, higher}

-- ---- making

-- 'A board is made under one release'; a refused making hands back the smallest board at release 1, whatever was asked
made : List Line
made =
    Make (setup_of 5 8 Two) gives done
    ∷ Whole gives Is (fresh_board (setup_of 5 8 Two))
    ∷ Make (setup_of 0 0 Two) gives refused 2
    ∷ Whole gives Is (fresh_board (setup_of 1 1 One))
    ∷ Make (setup_of 6 1 Two) gives refused 2
    ∷ Whole gives Is (fresh_board (setup_of 1 1 One))
    ∷ Make (setup_of 5 9 Two) gives refused 3
    ∷ Whole gives Is (fresh_board (setup_of 1 1 One))
    ∷ Make (setup_of 3 2 One) gives done
    ∷ Whole gives Is (fresh_board (setup_of 3 2 One))
    ∷ []

-- ---- reads whose replies agree

-- on three nodes and two consoles, under release 2
abbrev on_three_two : List Line → List Line
on_three_two ls = Make (setup_of 3 2 Two) gives done ∷ ls

-- a read by nodes 0 and 2 of a board where nothing was written, and what its second reply answers
abbrev reads_two : Seen → List Line
reads_two last =
    read 0 gives done
    ∷ deliver 0 0 gives handed
    ∷ deliver 0 0 gives heard
    ∷ deliver 0 2 gives handed
    ∷ deliver 0 2 gives last
    ∷ []

-- it finishes the read: the ask to node 1 is left, and all else of the board is as it was
quiet : List Line
quiet = on_three_two (reads_two (finished (tag 0 0) 0) ++ (Whole gives Is (with_frame (fresh_board (setup_of 3 2 Two)) 0 1 Ask) ∷ []))

-- under release 1 it turns the read, and the ask to node 1 becomes a put
under_one : List Line
under_one = Make (setup_of 3 2 One) gives done ∷ reads_two turned ++ (CellOf 0 1 gives Frames (Put (tag 0 0) 0) ∷ [])

-- after P2, nodes 0 and 2 reply (1, 1): the read returns it, and node 1 is not told. Its reply is left, and thrown away in the end
agreed : List Line
agreed =
    on_three_two
    (p2_steps
    ++ (read 0 gives done
    ∷ deliver 0 1 gives handed
    ∷ deliver 0 0 gives handed
    ∷ deliver 0 0 gives heard
    ∷ deliver 0 2 gives handed
    ∷ deliver 0 2 gives finished (tag 1 1) 7
    ∷ NodeOf 1 gives Holds (tag 0 0) 0
    ∷ CellOf 0 0 gives Frames Nothing
    ∷ CellOf 0 1 gives Frames (Reply (tag 0 0) 0)
    ∷ CellOf 0 2 gives Frames Nothing
    ∷ deliver 0 1 gives discarded
    ∷ read 0 gives done
    ∷ []))

-- P3, whose replies differ, is the same under release 2; so is P2, a write, whose replies are alike
differing : List Line
differing = on_three_two (p2_steps ++ p3_steps)

-- P5 under release 2: the first reply finishes the read
single : List Line
single =
    Make (setup_of 1 1 Two) gives done
    ∷ read 0 gives done
    ∷ deliver 0 0 gives handed
    ∷ deliver 0 0 gives finished (tag 0 0) 0
    ∷ Whole gives Is (fresh_board (setup_of 1 1 Two))
    ∷ []

unfoldable pub quiet_runs : List PRun
unfolding made quiet under_one agreed differing single
quiet_runs = run 1 blank made ∷ run 2 blank quiet ∷ run 3 blank under_one ∷ run 4 blank agreed ∷ run 5 blank differing ∷ run 6 blank single ∷ []

-- ---- what they say of the replies, and how the mark stands

-- a reply that finishes says how it compared, as every reply that is taken in; on five nodes the second is one short
three_alike : List Told
three_alike =
    compare.done (BeginRead 0)
    ∷ compare.handed 0 0 false
    ∷ compare.heard 0 0 (Some Equal) true
    ∷ compare.handed 0 1 true
    ∷ compare.heard 0 1 (Some Equal) true
    ∷ compare.handed 0 2 true
    ∷ compare.finished 0 2 (Some Equal)
    ∷ []

-- on one node the only reply of a read after a write is higher than (0, 0)
after_write : List Told
after_write =
    compare.done (BeginWrite 0 7)
    ∷ compare.handed 0 0 false
    ∷ compare.turned 0 0 (Some Equal)
    ∷ compare.handed 0 0 false
    ∷ compare.finished 0 0 None
    ∷ compare.done (BeginRead 0)
    ∷ compare.handed 0 0 false
    ∷ compare.finished 0 0 (Some Greater)
    ∷ []

-- Paper 3's runs whose replies differ are the same under release 2
unfoldable pub quiet_replies : List CompareRun
unfolding three_alike after_write
quiet_replies =
    record { start = fresh_board (setup_of 5 2 Two); lines = three_alike }
    ∷ record { start = fresh_board (setup_of 1 1 Two); lines = after_write }
    ∷ record { start = fresh_board (setup_of 5 2 Two); lines = lower }
    ∷ record { start = fresh_board (setup_of 5 2 Two); lines = higher }
    ∷ []
