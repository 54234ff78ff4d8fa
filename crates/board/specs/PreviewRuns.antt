-- Runs of Paper 8 (document 02): previews on the way of runs, with all that each must give. proofs/PRunsHold.antt proves
-- that the definitions give it.
use Rattle.std.specs.Prelude.{ℕ, List, [], ◌∷◌, ◌++◌, map}
use Rattle.board.specs.declared.Board.{Board}
use Rattle.board.specs.declared.Preview.{Preview}
use Rattle.parts.specs.declared.Tag.{Tag}
use Rattle.parts.specs.declared.Release.TheVariants.{One, Two}
use Rattle.parts.specs.Tags.{zero_tag}
use Rattle.board.specs.Boards.{fresh_board}
use Rattle.board.specs.Steps.{setup_of}
use Rattle.board.specs.Runs.{Step, BeginRead, BeginWrite, Deliver, NodeDown, ConsoleDown, NodeUp, Restart, step}
use Rattle.board.specs.Preview.{preview}
use Rattle.board.specs.PRuns.{Seen, said_of, tag, refused, handed, heard, turned, finished, discarded, p9_board}

-- what a preview shows: what the delivery would answer, and the frames in flight after it
pub record Shown : Type 0 where
  pub said : Seen
  pub in_flight : ℕ

-- steps that are taken, then a preview of console and node, and what it must show
pub record Ahead : Type 0 where
  pub first : List Step
  pub console : ℕ
  pub node : ℕ
  pub must : Shown

pub record PreviewRun : Type 0 where
  pub start : Board
  pub lines : List Ahead

-- ---- what the definitions give

abbrev shown : Preview → Shown
shown p = record { said = said_of p.outcome p.refusal; in_flight = p.in_flight }

unfoldable pub after : Board → List Step → Board
after b [] = b
after b (s ∷ ss) = after (step b s).board ss

unfoldable pub all_shown : Board → List Ahead → List Shown
all_shown b [] = []
all_shown b (l ∷ ls) = shown (preview (after b l.first) l.console l.node) ∷ all_shown (after b l.first) ls

abbrev pub foresees : PreviewRun → List Shown
foresees r = all_shown r.start r.lines

abbrev pub must_foresee : PreviewRun → List Shown
must_foresee r = map (λ (l : Ahead). l.must) r.lines

-- ---- the words of the runs

-- after the steps a preview of console c and node k gives this answer, and so many frames in flight
abbrev ahead : List Step → ℕ → ℕ → Seen → ℕ → Ahead
ahead ss c k s i = record { first = ss; console = c; node = k; must = record { said = s; in_flight = i } }

abbrev delivers : ℕ → List ℕ → List Step
delivers c ks = map (Deliver c) ks

abbrev begins_all : List ℕ → List Step
begins_all cs = map BeginRead cs

-- ---- the runs

-- P2 beside a read of console 0, whose three asks stay in flight: every frame counts, of each console, to nodes and to
-- consoles. 'after it': a frame that is handed on is still one, one that is heard is gone, a turn fills the row. A
-- refused delivery leaves the frames that there are; '0 under refusal 1', and under no other
writes_beside : List Ahead
writes_beside =
    ahead [] 0 0 (refused 8) 0
    ∷ ahead (BeginRead 0 ∷ []) 0 0 handed 3
    ∷ ahead [] 1 0 (refused 8) 3
    ∷ ahead [] 2 0 (refused 4) 3
    ∷ ahead [] 0 3 (refused 5) 3
    ∷ ahead (BeginWrite 1 7 ∷ []) 1 0 handed 6
    ∷ ahead (delivers 1 (0 ∷ [])) 1 0 heard 5
    ∷ ahead (delivers 1 (0 ∷ [])) 1 0 (refused 8) 5
    ∷ ahead (delivers 1 (2 ∷ [])) 1 2 turned 6
    ∷ ahead (delivers 1 (2 ∷ [])) 1 0 handed 6
    ∷ ahead (NodeDown 1 ∷ []) 1 1 (refused 9) 6
    ∷ ahead (delivers 1 (0 ∷ [])) 1 0 heard 5
    ∷ ahead (delivers 1 (0 ∷ 2 ∷ [])) 1 2 (finished (tag 1 1) 7) 4
    -- the put that the write has left counts, whether or not its node is up and its console too
    ∷ ahead (delivers 1 (2 ∷ [])) 1 1 (refused 9) 4
    ∷ ahead [] 0 0 handed 4
    ∷ ahead (NodeUp 1 ∷ []) 1 1 handed 4
    ∷ ahead (ConsoleDown 1 ∷ []) 0 0 handed 4
    ∷ ahead [] 1 1 discarded 3
    ∷ ahead (delivers 1 (1 ∷ [])) 1 1 (refused 8) 3
    ∷ []

-- a read that finishes early leaves its other frames, and an ask that comes late is answered by a reply that no one
-- waits for
quiet_read : List Ahead
quiet_read =
    ahead (BeginRead 0 ∷ delivers 0 (0 ∷ 0 ∷ 2 ∷ [])) 0 2 (finished zero_tag 0) 1
    ∷ ahead (delivers 0 (2 ∷ [])) 0 1 handed 1
    ∷ ahead (delivers 0 (1 ∷ [])) 0 1 discarded 0
    ∷ ahead (delivers 0 (1 ∷ [])) 0 1 (refused 8) 0
    ∷ []

-- all forty cells
full : List Ahead
full =
    ahead (begins_all (0 ∷ 1 ∷ 2 ∷ 3 ∷ 4 ∷ 5 ∷ 6 ∷ 7 ∷ [])) 7 4 handed 40
    ∷ ahead (delivers 7 (0 ∷ 0 ∷ 1 ∷ 1 ∷ 2 ∷ [])) 7 2 turned 40
    ∷ ahead [] 8 5 (refused 4) 38
    ∷ []

-- a reply sits in the one cell
ts_used_up : List Ahead
ts_used_up = ahead [] 0 0 (refused 10) 1 ∷ []

last_ts : List Ahead
last_ts = ahead [] 0 0 turned 1 ∷ []

-- of console 1's second life
again : Tag
again = record { ts = 1; console = 1; life = 1 }

-- on two nodes under release 2: the tag is all of the tag, with its life, and the value all of the value; an answer of a
-- node that is down is heard
second_life : List Ahead
second_life =
    ahead (ConsoleDown 1 ∷ Restart 1 ∷ BeginWrite 1 70000 ∷ delivers 1 (0 ∷ 0 ∷ 1 ∷ [])) 1 1 turned 2
    ∷ ahead (delivers 1 (1 ∷ 0 ∷ []) ++ (NodeDown 0 ∷ [])) 1 0 heard 1
    ∷ ahead (delivers 1 (0 ∷ 1 ∷ [])) 1 1 (finished again 70000) 0
    ∷ ahead (delivers 1 (1 ∷ []) ++ (NodeUp 0 ∷ BeginRead 2 ∷ delivers 2 (0 ∷ 0 ∷ 1 ∷ []))) 2 1 (finished again 70000) 0
    ∷ []

-- the row of one node
one_node : List Ahead
one_node =
    ahead (BeginWrite 7 7 ∷ delivers 7 (0 ∷ [])) 7 0 turned 1
    ∷ ahead (delivers 7 (0 ∷ 0 ∷ [])) 7 0 (finished (tag 1 7) 7) 0
    ∷ []

-- under release 2 a read whose replies differ turns, over the frames that its row still has
late_read : List Ahead
late_read =
    ahead (BeginWrite 2 7 ∷ delivers 2 (0 ∷ 0 ∷ 1 ∷ 1 ∷ 3 ∷ 3 ∷ 0 ∷ 0 ∷ 1 ∷ 1 ∷ 3 ∷ 3 ∷ []) ++ (BeginRead 0 ∷ delivers 0 (2 ∷ []))) 0 2 heard 4
    ∷ ahead (delivers 0 (2 ∷ 3 ∷ 3 ∷ 0 ∷ [])) 0 0 turned 5
    ∷ ahead (delivers 0 (0 ∷ [])) 0 0 handed 5
    ∷ ahead (delivers 0 (0 ∷ [])) 0 0 heard 4
    ∷ ahead (delivers 0 (0 ∷ 1 ∷ 1 ∷ 2 ∷ 3 ∷ []) ++ (NodeDown 3 ∷ [])) 0 3 (finished (tag 1 2) 7) 2
    ∷ ahead (delivers 0 (3 ∷ [])) 0 2 discarded 1
    ∷ []

-- the frames of a down console, to and from nodes that are down
both_down : List Ahead
both_down =
    ahead (BeginRead 0 ∷ delivers 0 (0 ∷ []) ++ (ConsoleDown 0 ∷ NodeDown 0 ∷ NodeDown 1 ∷ [])) 0 0 discarded 2
    ∷ ahead [] 0 1 discarded 2
    ∷ ahead [] 1 1 (refused 8) 3
    ∷ []

-- its reply is not counted
damaged : List Ahead
damaged = ahead [] 0 0 (refused 1) 0 ∷ ahead [] 1 1 (refused 1) 0 ∷ []

abbrev foresight : Board → List Ahead → PreviewRun
foresight b ls = record { start = b; lines = ls }

unfoldable pub preview_runs : List PreviewRun
unfolding writes_beside quiet_read full ts_used_up last_ts again second_life one_node late_read both_down damaged
preview_runs =
    foresight (fresh_board (setup_of 3 2 One)) writes_beside
    ∷ foresight (fresh_board (setup_of 3 2 Two)) quiet_read
    ∷ foresight (fresh_board (setup_of 5 8 One)) full
    ∷ foresight (p9_board 4000000000) ts_used_up
    ∷ foresight (p9_board 3999999999) last_ts
    ∷ foresight (fresh_board (setup_of 2 3 Two)) second_life
    ∷ foresight (fresh_board (setup_of 1 8 One)) one_node
    ∷ foresight (fresh_board (setup_of 4 3 Two)) late_read
    ∷ foresight (fresh_board (setup_of 3 2 Two)) both_down
    ∷ foresight (p9_board 4000000001) damaged
    ∷ []
