-- Runs that hold the definitions to single sentences of document 01: the order of tags, the order of the questions, and
-- what each step leaves on the whole board; and decisions, for what no board can tell. A definition that says otherwise is refused here, though its code says the
-- same. proofs/PRunsHold.antt proves that the definitions give all of it.
use Rattle.std.specs.Prelude.{ℕ, Bool, true, false, List, [], ◌∷◌, ◌++◌, replicate, take, None, Err}
use Rattle.parts.specs.declared.Tag.{Tag}
use Rattle.parts.specs.declared.Frame.{Frame}
use Rattle.parts.specs.declared.Frame.TheVariants.{Nothing, Ask, Reply, Put, Ack}
use Rattle.parts.specs.declared.Cell.{Cell}
use Rattle.parts.specs.declared.Node.{Node}
use Rattle.parts.specs.declared.Kind.TheVariants.{Read, Write}
use Rattle.parts.specs.declared.State.{State}
use Rattle.parts.specs.declared.State.TheVariants.{Idle, Asking, Telling, Down}
use Rattle.parts.specs.declared.Console.{Console}
use Rattle.parts.specs.declared.Release.TheVariants.{One}
use Rattle.parts.specs.declared.Setup.{Setup}
use Rattle.parts.specs.declared.Outcome.TheVariants.{Done}
use Rattle.parts.specs.Tags.{zero_tag}
use Rattle.parts.specs.Parts.{fresh_node, idle_console, cell_of}
use Rattle.decisions.specs.declared.Part.TheVariants.{ConsoleTo}
use Rattle.decisions.specs.declared.Sent.TheVariants.{Row}
use Rattle.decisions.specs.declared.refusals.Refusal.TheVariants.{NoSuchConsole, NoSuchNode}
use Rattle.decisions.specs.Steps as decisions
use Rattle.decisions.specs.Steps.{Decision, accept}
use Rattle.board.specs.declared.Board.{Board}
use Rattle.board.specs.Steps.{setup_of}
use Rattle.board.specs.PRuns.{NodeOf, CellOf, Whole, Holds, Frames, Is, Line, ◌gives◌, PRun, tag, refused, done, handed, heard, turned, finished, discarded, fresh, read, write, deliver, node_down, on_three, p2_steps, p3_steps, asks_two, run, blank, p9_board}
use Rattle.board.specs.UpRuns.{node_up}
use Rattle.board.specs.DeadRuns.{console_down}

-- ---- a board of three nodes and two consoles, written down field by field, with none of the definitions under test

abbrev pub holding : ℕ → ℕ → ℕ → Node
holding t c v = record { up = true; tag = tag t c; value = v }

abbrev down_node : Tag → ℕ → Node
down_node t v = record { up = false; tag = t; value = v }

-- a console in state s that wants w, with the answered set a, best t and its value v, and whether the mark is on
abbrev pub console : State → ℕ → ℕ → Tag → ℕ → Bool → Console
console s w a t v on = record { state = s; wanted = w; answered = a; best = t; value = v; alike = on; life = 0 }

abbrev pub down_console : Console
down_console = console Down 0 0 zero_tag 0 false

-- a console's cells
abbrev pub row : Frame → Frame → Frame → List Cell
row f g h = cell_of f ∷ cell_of g ∷ cell_of h ∷ replicate 2 (cell_of Nothing)

abbrev pub all_of : Frame → List Cell
all_of f = row f f f

abbrev pub nodes : Node → Node → Node → List Node
nodes x y z = x ∷ y ∷ z ∷ replicate 2 fresh_node

abbrev pub fresh_nodes : List Node
fresh_nodes = nodes fresh_node fresh_node fresh_node

-- console 0 and its cells, and console 1 and its cells
abbrev pub board : List Node → Console → List Cell → Console → List Cell → Board
board ys x xs y zs =
    record {
      setup = setup_of 3 2 One;
      nodes = ys;
      consoles = x ∷ y ∷ replicate 6 idle_console;
      cells = xs ++ zs ++ replicate 30 (cell_of Nothing);
    }

-- console 0 idle, and all of its cells empty
abbrev pub board_of1 : List Node → Console → List Cell → Board
board_of1 ys y zs = board ys idle_console (all_of Nothing) y zs

-- console 1 idle, and all of its cells empty
abbrev board_of0 : List Node → Console → List Cell → Board
board_of0 ys x xs = board ys x xs idle_console (all_of Nothing)

-- the nodes after P2
abbrev pub p2_nodes : List Node
p2_nodes = nodes (holding 1 1 7) fresh_node (holding 1 1 7)

-- ---- 'Tag a is greater than tag b if its ts is greater, or the ts are equal and its console number is greater'

-- two writers that both heard only (0, 0); then console 0's put reaches node k, and console 1's reaches node l
abbrev two_writers : ℕ → ℕ → List Line
two_writers k l =
    (write 0 5 gives done ∷ write 1 7 gives done ∷ [])
    ++ asks_two 0
    ++ asks_two 1
    ++ (deliver 0 k gives handed
    ∷ NodeOf k gives Holds (tag 1 0) 5
    ∷ deliver 1 l gives handed
    ∷ NodeOf l gives Holds (tag 1 1) 7
    ∷ [])

-- P6 the other way round: a node that holds (1, 0) and gets put (1, 1) 'takes tag and value'
node_takes : List Line
node_takes = on_three (two_writers 0 0 ++ (CellOf 1 0 gives Frames Ack ∷ []))

-- of two replies with one timestamp 'best becomes the greater', in either order: the read finishes with (1, 1)
abbrev reads_both : ℕ → ℕ → List Line
reads_both k l =
    fresh 3 3 gives done
    ∷ two_writers 0 1
    ++ (read 2 gives done
    ∷ deliver 2 0 gives handed
    ∷ deliver 2 1 gives handed
    ∷ deliver 2 k gives heard
    ∷ deliver 2 l gives turned
    ∷ CellOf 2 0 gives Frames (Put (tag 1 1) 7)
    ∷ CellOf 2 1 gives Frames (Put (tag 1 1) 7)
    ∷ CellOf 2 2 gives Frames (Put (tag 1 1) 7)
    ∷ deliver 2 0 gives handed
    ∷ NodeOf 0 gives Holds (tag 1 1) 7
    ∷ deliver 2 0 gives heard
    ∷ deliver 2 2 gives handed
    ∷ deliver 2 2 gives finished (tag 1 1) 7
    ∷ [])

-- the timestamp decides before the console number: (2, 0) is greater than (1, 1). An equal tag is not greater
abbrev puts_board : Board
puts_board = board_of0 (nodes (holding 1 1 7) (holding 2 0 5) (holding 1 0 5)) idle_console (row (Put (tag 2 0) 9) (Put (tag 1 1) 9) (Put (tag 1 0) 9))

puts : List Line
puts =
    deliver 0 0 gives handed
    ∷ deliver 0 1 gives handed
    ∷ deliver 0 2 gives handed
    ∷ Whole gives Is (board_of0 (nodes (holding 2 0 9) (holding 2 0 5) (holding 1 0 5)) idle_console (all_of Ack))
    ∷ []

-- a read with best t and its value 5 hears a second reply, u with value 9: it tells 'the greater of best and the reply'
abbrev hears_board : Tag → Tag → Board
hears_board t u = board_of0 fresh_nodes (console (Asking Read) 0 1 t 5 true) (row Nothing (Reply u 9) Ask)

abbrev tells_board : Tag → ℕ → Board
tells_board t v = board_of0 fresh_nodes (console (Telling Read) 0 0 t v false) (all_of (Put t v))

abbrev keeps_best : Tag → List Line
keeps_best t = deliver 0 1 gives turned ∷ Whole gives Is (tells_board t 5) ∷ []

abbrev takes_reply : Tag → List Line
takes_reply u = deliver 0 1 gives turned ∷ Whole gives Is (tells_board u 9) ∷ []

-- ---- 'Asked in this order, as far as the step needs them. The first no gives the refusal with that number'

-- 2 before 3, and each at its limits: 'Is n from 1 to 5?', 'Is m from 1 to 8?'
makes : List Line
makes =
    fresh 0 9 gives refused 2
    ∷ fresh 6 0 gives refused 2
    ∷ fresh 1 0 gives refused 3
    ∷ fresh 5 9 gives refused 3
    ∷ fresh 1 8 gives done
    ∷ fresh 5 1 gives done
    ∷ []

-- begins and console down: 6 before 7, since a down console is not idle either. No board tells whether 4 comes before 6
-- and 7 (order_decisions does): on a well-formed board a console beyond m is idle. 'the board comes back unchanged'
begins : List Line
begins =
    on_three
    (read 2 gives refused 4
    ∷ write 2 9 gives refused 4
    ∷ write 8 9 gives refused 4
    ∷ console_down 2 gives refused 4
    ∷ console_down 8 gives refused 4
    ∷ write 1 7 gives done
    ∷ read 1 gives refused 7
    ∷ write 1 9 gives refused 7
    ∷ Whole gives Is (board_of1 fresh_nodes (console (Asking Write) 7 0 zero_tag 0 false) (all_of Ask))
    ∷ console_down 1 gives done
    ∷ read 1 gives refused 6
    ∷ write 1 9 gives refused 6
    ∷ console_down 1 gives refused 6
    ∷ Whole gives Is (board_of1 fresh_nodes down_console (all_of Ask))
    ∷ [])

-- node down, node up: 5 before 14. No board tells whether 5 comes before 9 (order_decisions does): on a
-- well-formed one a node beyond n is up
switches : List Line
switches =
    on_three
    (node_up 3 gives refused 5
    ∷ node_up 5 gives refused 5
    ∷ node_up 0 gives refused 14
    ∷ node_down 3 gives refused 5
    ∷ node_down 5 gives refused 5
    ∷ node_down 0 gives done
    ∷ node_down 0 gives refused 9
    ∷ Whole gives Is (board_of1 (nodes (down_node zero_tag 0) fresh_node fresh_node) idle_console (all_of Nothing))
    ∷ [])

-- deliver: 4 before 5; 4 and 5 before 8, since cells beyond n and m are empty; 8 before 9. Place (0,5) is that of (1,0)
delivers : List Line
delivers =
    on_three
    (write 1 7 gives done
    ∷ deliver 2 3 gives refused 4
    ∷ deliver 2 0 gives refused 4
    ∷ deliver 8 0 gives refused 4
    ∷ deliver 1 3 gives refused 5
    ∷ deliver 0 3 gives refused 5
    ∷ deliver 0 5 gives refused 5
    ∷ node_down 0 gives done
    ∷ deliver 0 0 gives refused 8
    ∷ deliver 1 0 gives refused 9
    ∷ Whole gives Is (board_of1 (nodes (down_node zero_tag 0) fresh_node fresh_node) (console (Asking Write) 7 0 zero_tag 0 false) (all_of Ask))
    ∷ [])

-- 1 before all others: node 2's timestamp is too high, and each step has a further question that would be answered no
abbrev pub damaged_board : Board
damaged_board =
    board (nodes fresh_node (down_node zero_tag 0) (holding 4000000001 0 5)) down_console (all_of Nothing) (console (Asking Write) 7 0 zero_tag 0 false) (all_of Ask)

damaged : List Line
damaged =
    read 2 gives refused 1
    ∷ read 0 gives refused 1
    ∷ write 1 9 gives refused 1
    ∷ console_down 2 gives refused 1
    ∷ console_down 0 gives refused 1
    ∷ deliver 2 0 gives refused 1
    ∷ deliver 1 3 gives refused 1
    ∷ deliver 0 0 gives refused 1
    ∷ deliver 1 1 gives refused 1
    ∷ node_down 3 gives refused 1
    ∷ node_down 1 gives refused 1
    ∷ node_up 3 gives refused 1
    ∷ node_up 0 gives refused 1
    ∷ Whole gives Is damaged_board
    ∷ []

-- 1 before 10
damaged_ts : List Line
damaged_ts = deliver 0 0 gives refused 1 ∷ Whole gives Is (p9_board 4000000001) ∷ []

-- 10: 'If this delivery turns a write, is best ts, with this reply taken in, below 4,000,000,000?' The first reply
-- turns nothing, and the second is (0, 0), but best is not
abbrev high_board : Console → List Cell → Board
high_board x xs = board_of0 (nodes (holding 4000000000 0 5) fresh_node fresh_node) x xs

high_write : List Line
high_write =
    deliver 0 0 gives heard
    ∷ deliver 0 1 gives refused 10
    ∷ Whole gives Is (high_board (console (Asking Write) 7 1 (tag 4000000000 0) 5 true) (row Nothing (Reply zero_tag 0) Ask))
    ∷ []

-- a read takes no new timestamp: it turns
high_read : List Line
high_read =
    deliver 0 0 gives heard
    ∷ deliver 0 1 gives turned
    ∷ Whole gives Is (high_board (console (Telling Read) 0 0 (tag 4000000000 0) 5 false) (all_of (Put (tag 4000000000 0) 5)))
    ∷ []

-- ---- what a step leaves on the whole board

-- 'The console becomes asking, with nothing answered and best (0, 0), 0. All n of its cells become ask, whatever they
-- held': P2's put is gone. 'the wanted value (0 for a read)'. No board tells a begin that clears best from one that
-- keeps it (order_decisions does): an idle console's is (0, 0), 0
begins_write : List Line
begins_write =
    on_three
    (p2_steps
    ++ (write 1 9 gives done
    ∷ Whole gives Is (board_of1 p2_nodes (console (Asking Write) 9 0 zero_tag 0 false) (all_of Ask))
    ∷ []))

begins_read : List Line
begins_read =
    on_three
    (p2_steps
    ++ (read 1 gives done
    ∷ Whole gives Is (board_of1 p2_nodes (console (Asking Read) 0 0 zero_tag 0 false) (all_of Ask))
    ∷ []))

-- 'the cell empties, the node joins the answered set'
hears_reply : List Line
hears_reply = on_three (take 3 p2_steps ++ (Whole gives Is (board_of1 fresh_nodes (console (Asking Write) 7 1 zero_tag 0 true) (row Nothing Ask Ask)) ∷ []))

hears_ack : List Line
hears_ack =
    on_three
    (take 7 p2_steps
    ++ (Whole gives Is (board_of1 (nodes (holding 1 1 7) fresh_node fresh_node) (console (Telling Write) 7 1 (tag 1 1) 7 false) (row Nothing (Put (tag 1 1) 7) (Put (tag 1 1) 7)))
    ∷ []))

-- 'a write takes the tag (best ts + 1, own number) and the wanted value as its best. The answered set empties, the kind
-- and wanted value stay, and all n cells become put with that tag and value'
turns_write : List Line
turns_write =
    on_three
    (take 5 p2_steps
    ++ (Whole gives Is (board_of1 fresh_nodes (console (Telling Write) 7 0 (tag 1 1) 7 false) (all_of (Put (tag 1 1) 7))) ∷ []))

-- 'a read keeps best'; here of P3
turns_read : List Line
turns_read =
    on_three
    (p2_steps
    ++ take 7 p3_steps
    ++ (Whole gives Is (board p2_nodes (console (Telling Read) 0 0 (tag 1 1) 7 false) (all_of (Put (tag 1 1) 7)) idle_console (row Nothing (Put (tag 1 1) 7) Nothing))
    ∷ []))

-- 'At q the console becomes idle and its own fields clear; outcome: finished, with the best tag and value it had. Its
-- other cells keep their frames'
finishes : List Line
finishes = on_three (p2_steps ++ (Whole gives Is (board_of1 p2_nodes idle_console (row Nothing (Put (tag 1 1) 7) Nothing)) ∷ []))

-- the same of an ack, and of another console's operation: a read that has found (2, 0)
abbrev finishing_board : Console → Frame → Board
finishing_board y f = board p2_nodes (console (Asking Read) 0 2 (tag 2 0) 9 true) (row Ask Nothing (Reply (tag 1 1) 7)) y (row f Ack (Put (tag 1 1) 7))

keeps_others : List Line
keeps_others =
    deliver 1 0 gives finished (tag 1 1) 7
    ∷ Whole gives Is (finishing_board idle_console Nothing)
    ∷ []

-- 'Any other reply or ack (console idle or down, the other phase, the node already in the set): the cell empties and
-- nothing else changes'. Node 0 is in both sets; node 1's frame is of the other phase
abbrev others_board : List Cell → List Cell → Board
others_board xs zs = board p2_nodes (console (Asking Read) 0 1 (tag 1 1) 7 true) xs (console (Telling Write) 7 1 (tag 1 1) 7 false) zs

others : List Line
others =
    deliver 0 0 gives discarded
    ∷ deliver 0 1 gives discarded
    ∷ deliver 1 0 gives discarded
    ∷ deliver 1 1 gives discarded
    ∷ Whole gives Is (others_board (row Nothing Nothing Ask) (row Nothing Nothing (Put (tag 1 1) 7)))
    ∷ []

-- consoles 0, idle, and 1, down
abbrev resting_board : List Cell → Board
resting_board xs = board p2_nodes idle_console xs down_console xs

resting : List Line
resting =
    deliver 0 0 gives discarded
    ∷ deliver 0 1 gives discarded
    ∷ deliver 1 0 gives discarded
    ∷ deliver 1 1 gives discarded
    ∷ Whole gives Is (resting_board (all_of Nothing))
    ∷ []

-- 'its operation gone, its cells as they are': while it asks, and while it tells
down_asking : List Line
down_asking =
    on_three
    (take 4 p2_steps
    ++ (console_down 1 gives done
    ∷ Whole gives Is (board_of1 fresh_nodes down_console (row Nothing Ask (Reply zero_tag 0)))
    ∷ []))

down_telling : List Line
down_telling =
    on_three
    (take 8 p2_steps
    ++ (console_down 1 gives done
    ∷ Whole gives Is (board_of1 p2_nodes down_console (row Nothing (Put (tag 1 1) 7) Ack))
    ∷ []))

-- 'the node keeps tag and value'
down_node_run : List Line
down_node_run =
    on_three
    (p2_steps
    ++ (node_down 0 gives done
    ∷ Whole gives Is (board_of1 (nodes (down_node (tag 1 1) 7) fresh_node (holding 1 1 7)) idle_console (row Nothing (Put (tag 1 1) 7) Nothing))
    ∷ []))

-- ---- what no board can tell, since question 1 comes first, told by the decisions: each with what it must be

pub record Decided : Type 0 where
  pub decides : Decision
  pub must : Decision

infix 70 ◌must_be◌
abbrev pub ◌must_be◌ : Decision → Decision → Decided
d must_be e = record { decides = d; must = e }

abbrev three_two : Setup
three_two = setup_of 3 2 One

-- 4 before 6 and 7 at begins, 4 before 6 at console down: of a console beyond m that is down, or waits. 5 before 9 at node down: of a node
-- beyond n that is down. A begin has 'nothing answered and best (0, 0), 0', whatever the console had
unfoldable pub order_decisions : List Decided
order_decisions =
    decisions.begins true three_two 2 Read 0 down_console must_be Err NoSuchConsole
    ∷ decisions.begins true three_two 2 Write 9 (console (Asking Read) 0 0 zero_tag 0 false) must_be Err NoSuchConsole
    ∷ decisions.ends true three_two 2 down_console must_be Err NoSuchConsole
    ∷ decisions.falls true three_two 3 (down_node zero_tag 0) must_be Err NoSuchNode
    ∷ decisions.begins true three_two 1 Write 9 (console Idle 7 1 (tag 1 1) 5 true) must_be
    accept None Done (ConsoleTo (console (Asking Write) 9 0 zero_tag 0 false)) (Row Ask)
    ∷ []

unfoldable pub order_runs : List PRun
unfolding node_takes puts makes begins switches delivers damaged damaged_ts high_write high_read begins_write begins_read hears_reply hears_ack turns_write turns_read finishes keeps_others others resting down_asking down_telling down_node_run
order_runs =
    run 1 blank node_takes
    ∷ run 2 blank (reads_both 0 1)
    ∷ run 3 blank (reads_both 1 0)
    ∷ run 4 puts_board puts
    ∷ run 5 (hears_board (tag 1 0) (tag 1 1)) (takes_reply (tag 1 1))
    ∷ run 6 (hears_board (tag 1 1) (tag 1 0)) (keeps_best (tag 1 1))
    ∷ run 7 (hears_board (tag 1 1) (tag 2 0)) (takes_reply (tag 2 0))
    ∷ run 8 (hears_board (tag 2 0) (tag 1 1)) (keeps_best (tag 2 0))
    -- 'on equal tags best keeps its value'
    ∷ run 9 (hears_board (tag 1 1) (tag 1 1)) (keeps_best (tag 1 1))
    ∷ run 10 blank makes
    ∷ run 11 blank begins
    ∷ run 12 blank switches
    ∷ run 13 blank delivers
    ∷ run 14 damaged_board damaged
    ∷ run 15 (p9_board 4000000001) damaged_ts
    ∷ run 16 (high_board (console (Asking Write) 7 0 zero_tag 0 false) (row (Reply (tag 4000000000 0) 5) (Reply zero_tag 0) Ask)) high_write
    ∷ run 17 (high_board (console (Asking Read) 0 0 zero_tag 0 false) (row (Reply (tag 4000000000 0) 5) (Reply zero_tag 0) Ask)) high_read
    ∷ run 18 blank begins_write
    ∷ run 19 blank begins_read
    ∷ run 20 blank hears_reply
    ∷ run 21 blank hears_ack
    ∷ run 22 blank turns_write
    ∷ run 23 blank turns_read
    ∷ run 24 blank finishes
    ∷ run 25 (finishing_board (console (Telling Write) 7 2 (tag 1 1) 7 false) Ack) keeps_others
    ∷ run 26 (others_board (row (Reply (tag 2 0) 9) Ack Ask) (row Ack (Reply (tag 2 0) 9) (Put (tag 1 1) 7))) others
    ∷ run 27 (resting_board (row (Reply (tag 2 0) 9) Ack Nothing)) resting
    ∷ run 28 blank down_asking
    ∷ run 29 blank down_telling
    ∷ run 30 blank down_node_run
    ∷ []
