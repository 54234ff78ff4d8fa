-- Runs of the picker (document 02, Paper 9), with what each turn must send and the state that it must leave: the
-- paper's sentences one by one, and the runs that reach the two bounds. proofs/TurnRunsHold.antt proves that the
-- definitions give it.
use Rattle.std.specs.Prelude.{ℕ, zero, suc, ◌+◌, ◌-◌, Bool, true, false, ◌&&◌, eqb, List, [], ◌∷◌, ◌++◌, map, replicate, count_by, Option, Some, None}
use Rattle.std.specs.List.{position_or_len}
use Rattle.parts.specs.declared.Frame.{Frame as CellFrame}
use Rattle.parts.specs.declared.Frame.TheVariants.{Reply, Ack}
use Rattle.parts.specs.declared.Outcome.{Outcome}
use Rattle.parts.specs.declared.Outcome.TheVariants.{Handed, Heard, Turned, Finished, Discarded}
use Rattle.parts.specs.Tags.{zero_tag}
use Rattle.parts.specs.declared.Release.TheVariants.{One, Two}
use Rattle.decisions.specs.declared.refusals.Refusal.{Refusal}
use Rattle.decisions.specs.Refusals.{number_of}
use Rattle.board.specs.declared.Board.{Board}
use Rattle.board.specs.Boards.{with_frame, fresh_board}
use Rattle.board.specs.Steps.{setup_of, begin_read}
use Rattle.board.specs.Runs.{BeginRead, BeginWrite, Deliver, NodeDown, ConsoleDown}
use Rattle.board.specs.Deliver.{deliver}
use Rattle.board.specs.PreviewRuns.{after}
use Rattle.board.specs.PRuns.{tag, p9_board}
use Rattle.picker.specs.declared.Next.{Next}
use Rattle.picker.specs.declared.Next.TheVariants.{Nothing, Tile, Frame}
use Rattle.picker.specs.declared.Pair.{Pair}
use Rattle.picker.specs.declared.Picker.{Picker}
use Rattle.picker.specs.Picking.{pair, start, unused, turn}
use Rattle.picker.specs.Claims.{Given, turn_of, all_sent, state_after, most_turns, is_tile}

-- what a turn shows: what it sends, and if it is refused the refusal's number before it
pub data Seen : Type 0 where
  Sends : Next → Seen
  Refuses : ℕ → Next → Seen

abbrev by_refusal : Option Refusal → Next → Seen
by_refusal None x = Sends x
by_refusal (Some r) x = Refuses (number_of r) x

unfoldable pub all_seen : Picker → List Given → List Seen
all_seen s [] = []
all_seen s (g ∷ gs) = by_refusal (turn_of s g).refusal (turn_of s g).next ∷ all_seen (turn_of s g).picker gs

-- turns from a state, what they must show, and the state that they must leave
pub record TurnRun : Type 0 where
  pub from : Picker
  pub turns : List Given
  pub must : List Seen
  pub leaves : Picker

pub record Shown : Type 0 where
  pub seen : List Seen
  pub left : Picker

abbrev pub shows : TurnRun → Shown
shows r = record { seen = all_seen r.from r.turns; left = state_after r.from r.turns }

abbrev pub must_show : TurnRun → Shown
must_show r = record { seen = r.must; left = r.leaves }

-- ---- the words of the runs

-- a board, and a tile that waits; a board, and none
abbrev tile_on : Board → Given
tile_on b = record { board = b; tile_waits = true }

abbrev none_on : Board → Given
none_on b = record { board = b; tile_waits = false }

abbrev at : ℕ → ℕ → ℕ → Picker
at place c k = record { place = place; last = pair c k }

abbrev frame : ℕ → ℕ → Seen
frame c k = Sends (Frame (pair c k))

abbrev tile : Seen
tile = Sends Tile

abbrev idle : Seen
idle = Sends Nothing

-- ---- the boards of the runs

abbrev empty : ℕ → ℕ → Board
empty n m = fresh_board (setup_of n m One)

-- the first consoles, so many of them, have begun to read, so that their cells hold asks
unfoldable pub asking : ℕ → Board → Board
asking zero b = b
asking (suc c) b = (begin_read (asking c b) c).board

-- every pair can go
abbrev pub full : ℕ → ℕ → Board
full n m = asking m (empty n m)

-- a board that question 1 refuses
abbrev no_nodes : Board
no_nodes = empty 0 2

abbrev last_reply : CellFrame
last_reply = Reply (tag 4000000000 0) 5

-- ---- the runs

-- 'Board pairs are tried by console, then node, from after the pair last picked, wrapping'; a tile takes the fourth
-- turn, after which the pairs go on where they were
in_order : TurnRun
in_order =
    record {
      from = start 3 2;
      turns = replicate 11 (tile_on (full 3 2));
      must =
          frame 0 0 ∷ frame 0 1 ∷ frame 0 2 ∷ tile
          ∷ frame 1 0 ∷ frame 1 1 ∷ frame 1 2 ∷ tile
          ∷ frame 0 0 ∷ frame 0 1 ∷ frame 0 2 ∷ [];
      leaves = at 3 0 2;
    }

-- in the fourth, without a tile, 'else a board frame'; and in the first three a tile if there is none
no_tiles : TurnRun
no_tiles =
    record {
      from = start 2 1;
      turns = replicate 5 (none_on (full 2 1)) ++ replicate 4 (tile_on (empty 2 1)) ++ (tile_on (full 2 1) ∷ []);
      must = frame 0 0 ∷ frame 0 1 ∷ frame 0 0 ∷ frame 0 1 ∷ frame 0 0 ∷ tile ∷ tile ∷ tile ∷ tile ∷ frame 0 1 ∷ [];
      leaves = at 2 0 1;
    }

-- 'idle ones counted': after three idle turns the tile comes first, from the start too; and a whole four of idle turns
idle_counted : TurnRun
idle_counted =
    record {
      from = start 3 2;
      turns =
          replicate 3 (none_on (empty 3 2)) ++ (tile_on (full 3 2) ∷ [])
          ++ replicate 6 (none_on (empty 3 2)) ++ replicate 3 (tile_on (full 3 2));
      must = replicate 3 idle ++ (tile ∷ []) ++ replicate 6 idle ++ (frame 0 0 ∷ tile ∷ frame 0 1 ∷ []);
      leaves = at 1 0 1;
    }

-- 'the first that qualifies' where some do not: asks to node 1, which is down (9), and cells that are empty (8). Every
-- pair is tried, the one last picked at the end
some_go : TurnRun
some_go =
    record {
      from = at 0 0 2;
      turns =
          replicate 3 (none_on (after (full 3 2) (NodeDown 1 ∷ [])))
          ++ replicate 3 (none_on (after (empty 3 3) (BeginRead 1 ∷ NodeDown 0 ∷ NodeDown 2 ∷ [])));
      must = frame 1 0 ∷ frame 1 2 ∷ frame 0 0 ∷ frame 1 1 ∷ frame 1 1 ∷ frame 1 1 ∷ [];
      leaves = at 2 1 1;
    }

-- a withdrawn frame qualifies, though its node is down, and so does one that is discarded; where none qualifies the
-- turn is idle, or a tile's
discards_go : TurnRun
discards_go =
    record {
      from = start 1 2;
      turns =
          none_on (after (full 1 2) (NodeDown 0 ∷ ConsoleDown 1 ∷ []))
          ∷ none_on (with_frame (empty 1 2) 0 0 Ack)
          ∷ none_on (after (full 1 2) (NodeDown 0 ∷ []))
          ∷ none_on (after (full 1 2) (NodeDown 0 ∷ []))
          ∷ tile_on (after (full 1 2) (NodeDown 0 ∷ []))
          ∷ [];
      must = frame 1 0 ∷ frame 0 0 ∷ idle ∷ idle ∷ tile ∷ [];
      leaves = at 1 0 0;
    }

-- an answer goes though its node is down, and one of a down console too, to be discarded
answers_go : TurnRun
answers_go =
    record {
      from = start 2 2;
      turns =
          none_on (after (empty 2 2) (BeginRead 0 ∷ Deliver 0 1 ∷ NodeDown 0 ∷ NodeDown 1 ∷ []))
          ∷ none_on (after (empty 2 2) (BeginRead 1 ∷ Deliver 1 0 ∷ ConsoleDown 1 ∷ []))
          ∷ [];
      must = frame 0 1 ∷ frame 1 0 ∷ [];
      leaves = at 2 1 0;
    }

-- the frames that an operation leaves behind go, though their console is idle: a put; under release 2 an ask, and the
-- reply to it
left_go : TurnRun
left_go =
    record {
      from = start 3 1;
      turns =
          none_on (after (empty 3 1) (BeginRead 0 ∷ map (Deliver 0) (0 ∷ 0 ∷ 2 ∷ 2 ∷ 0 ∷ 0 ∷ 2 ∷ 2 ∷ [])))
          ∷ none_on (after (fresh_board (setup_of 3 1 Two)) (BeginRead 0 ∷ map (Deliver 0) (0 ∷ 0 ∷ 2 ∷ 2 ∷ [])))
          ∷ none_on (after (fresh_board (setup_of 3 1 Two)) (BeginRead 0 ∷ map (Deliver 0) (0 ∷ 0 ∷ 2 ∷ 2 ∷ 1 ∷ [])))
          ∷ [];
      must = frame 0 1 ∷ frame 0 1 ∷ frame 0 1 ∷ [];
      leaves = at 3 0 1;
    }

-- what comes in the other phase is discarded, and goes: a reply to a console that tells, an ack to one that asks
other_phase : TurnRun
other_phase =
    record {
      from = start 1 1;
      turns =
          none_on (with_frame (after (empty 1 1) (BeginRead 0 ∷ Deliver 0 0 ∷ Deliver 0 0 ∷ [])) 0 0 (Reply zero_tag 0))
          ∷ none_on (with_frame (after (empty 1 1) (BeginRead 0 ∷ [])) 0 0 Ack)
          ∷ [];
      must = frame 0 0 ∷ frame 0 0 ∷ [];
      leaves = at 2 0 0;
    }

-- a reply that would be refused 10 does not qualify; one below the limit does
at_the_limit : TurnRun
at_the_limit =
    record {
      from = start 1 1;
      turns = none_on (p9_board 4000000000) ∷ none_on (p9_board 3999999999) ∷ [];
      must = idle ∷ frame 0 0 ∷ [];
      leaves = at 2 0 0;
    }

-- a reply of the last ts is refused only where it would turn a write: not where it is heard, turns a read or is
-- discarded
last_ts_goes : TurnRun
last_ts_goes =
    record {
      from = start 2 1;
      turns =
          none_on (with_frame (after (empty 2 1) (BeginWrite 0 7 ∷ [])) 0 0 last_reply)
          ∷ none_on (with_frame (after (empty 2 1) (BeginRead 0 ∷ Deliver 0 0 ∷ Deliver 0 0 ∷ NodeDown 1 ∷ [])) 0 1 last_reply)
          ∷ none_on (with_frame (empty 2 1) 0 0 last_reply)
          ∷ [];
      must = frame 0 0 ∷ frame 0 1 ∷ frame 0 0 ∷ [];
      leaves = at 3 0 0;
    }

-- 'a state out of range for this board's n and m counts as the start', place and pair together: by its place, its
-- console or its node
bad_place : TurnRun
bad_place = record { from = at 4 0 1; turns = tile_on (full 3 2) ∷ []; must = frame 0 0 ∷ []; leaves = at 1 0 0 }

bad_console : TurnRun
bad_console = record { from = at 3 2 0; turns = tile_on (full 3 2) ∷ []; must = frame 0 0 ∷ []; leaves = at 1 0 0 }

bad_node : TurnRun
bad_node = record { from = at 3 0 3; turns = tile_on (full 3 2) ∷ []; must = frame 0 0 ∷ []; leaves = at 1 0 0 }

-- not only by the first number that is out of range
far_place : TurnRun
far_place = record { from = at 7 0 1; turns = tile_on (full 3 2) ∷ []; must = frame 0 0 ∷ []; leaves = at 1 0 0 }

far_console : TurnRun
far_console = record { from = at 3 9 0; turns = tile_on (full 3 2) ∷ []; must = frame 0 0 ∷ []; leaves = at 1 0 0 }

far_node : TurnRun
far_node = record { from = at 3 0 9; turns = tile_on (full 3 2) ∷ []; must = frame 0 0 ∷ []; leaves = at 1 0 0 }

-- and it is the start that goes on, at idle turns and at a tile's, not the state as it was
bad_and_idle : TurnRun
bad_and_idle =
    record {
      from = at 7 5 5;
      turns = none_on (empty 3 2) ∷ tile_on (empty 3 2) ∷ [];
      must = idle ∷ tile ∷ [];
      leaves = at 2 1 2;
    }

bad_and_tile : TurnRun
bad_and_tile =
    record {
      from = at 0 5 5;
      turns = tile_on (empty 3 2) ∷ tile_on (full 5 8) ∷ [];
      must = tile ∷ frame 1 3 ∷ [];
      leaves = at 2 1 3;
    }

-- the last of each that is in range
at_the_edge : TurnRun
at_the_edge =
    record {
      from = at 3 1 2;
      turns = replicate 2 (tile_on (full 3 2));
      must = tile ∷ frame 0 0 ∷ [];
      leaves = at 1 0 0;
    }

-- 'for this board's n and m': a state is kept on a board that is larger, and not on a smaller one
sizes_change : TurnRun
sizes_change =
    record {
      from = start 2 2;
      turns =
          replicate 2 (tile_on (full 2 2)) ++ replicate 3 (tile_on (full 5 8))
          ++ (tile_on (full 2 8) ∷ tile_on (full 5 8) ∷ []);
      must = frame 0 0 ∷ frame 0 1 ∷ frame 0 2 ∷ tile ∷ frame 0 3 ∷ frame 0 0 ∷ frame 0 1 ∷ [];
      leaves = at 2 0 1;
    }

-- the state of a picker that has had no turn counts as the start on every board
no_turn_yet : TurnRun
no_turn_yet =
    record {
      from = unused;
      turns = none_on (empty 5 8) ∷ tile_on (full 5 8) ∷ [];
      must = idle ∷ frame 0 0 ∷ [];
      leaves = at 2 0 0;
    }

-- 'A board that fails question 1 gives 1 and leaves the picker's state', one that is out of range too; nothing is sent,
-- and the turn does not count
not_formed : TurnRun
not_formed =
    record {
      from = at 3 0 1;
      turns = tile_on no_nodes ∷ none_on no_nodes ∷ tile_on (p9_board 4000000001) ∷ [];
      must = Refuses 1 Nothing ∷ Refuses 1 Nothing ∷ Refuses 1 Nothing ∷ [];
      leaves = at 3 0 1;
    }

not_formed_either : TurnRun
not_formed_either =
    record {
      from = at 9 7 7;
      turns = tile_on no_nodes ∷ [];
      must = Refuses 1 Nothing ∷ [];
      leaves = at 9 7 7;
    }

unfoldable pub turn_runs : List TurnRun
unfolding in_order no_tiles idle_counted some_go discards_go answers_go left_go other_phase at_the_limit last_ts_goes
    bad_place bad_console bad_node far_place far_console far_node bad_and_idle bad_and_tile
    at_the_edge sizes_change no_turn_yet not_formed not_formed_either asking
turn_runs =
    in_order
    ∷ no_tiles
    ∷ idle_counted
    ∷ some_go
    ∷ discards_go
    ∷ answers_go
    ∷ left_go
    ∷ other_phase
    ∷ at_the_limit
    ∷ last_ts_goes
    ∷ bad_place
    ∷ bad_console
    ∷ bad_node
    ∷ far_place
    ∷ far_console
    ∷ far_node
    ∷ bad_and_idle
    ∷ bad_and_tile
    ∷ at_the_edge
    ∷ sizes_change
    ∷ no_turn_yet
    ∷ not_formed
    ∷ not_formed_either
    ∷ []

-- ---- a link that is shared

-- what is sent at a turn, and if it is a frame, what its delivery gives
pub data Gone : Type 0 where
  none_gone : Gone
  tile_gone : Gone
  frame_gone : Pair → Outcome → Gone

abbrev delivery_of : Board → Next → Board × Gone
delivery_of b Nothing = (b, none_gone)
delivery_of b Tile = (b, tile_gone)
delivery_of b (Frame p) =
    let a = deliver b p.console.0 p.node.0 in
    (a.board, frame_gone p a.outcome)

-- a frame that is sent is delivered, and the next turn has the board that this leaves; a tile waits at each of so many
-- turns
unfoldable pub shared : ℕ → Picker → Board → List Gone
shared zero s b = []
shared (suc turns) s b =
    (delivery_of b (turn s b true).next).1
    ∷ shared turns (turn s b true).picker (delivery_of b (turn s b true).next).0

abbrev gone : ℕ → ℕ → Outcome → Gone
gone c k o = frame_gone (pair c k) o

-- console 0 reads and console 1 writes 7 on three nodes: both finish, and then the tiles have every turn
unfoldable pub two_consoles : Board
two_consoles = after (empty 3 2) (BeginRead 0 ∷ BeginWrite 1 7 ∷ [])

unfoldable pub must_go : List Gone
must_go =
    gone 0 0 Handed ∷ gone 0 1 Handed ∷ gone 0 2 Handed ∷ tile_gone
    ∷ gone 1 0 Handed ∷ gone 1 1 Handed ∷ gone 1 2 Handed ∷ tile_gone
    ∷ gone 0 0 Heard ∷ gone 0 1 Turned ∷ gone 0 2 Handed ∷ tile_gone
    ∷ gone 1 0 Heard ∷ gone 1 1 Turned ∷ gone 1 2 Handed ∷ tile_gone
    ∷ gone 0 0 Handed ∷ gone 0 1 Handed ∷ gone 0 2 Heard ∷ tile_gone
    ∷ gone 1 0 Handed ∷ gone 1 1 Handed ∷ gone 1 2 Heard ∷ tile_gone
    ∷ gone 0 0 (Finished zero_tag 0) ∷ gone 0 1 Discarded ∷ gone 1 0 (Finished (tag 1 1) 7) ∷ tile_gone
    ∷ gone 1 1 Discarded ∷ tile_gone ∷ tile_gone ∷ tile_gone
    ∷ []

-- ---- the longest wait

is_frame_of : Pair → Next → Bool
is_frame_of p Nothing = false
is_frame_of p Tile = false
is_frame_of p (Frame q) = eqb p.console.0 q.console.0 && eqb p.node.0 q.node.0

-- three idle turns from the start; then every pair can go at every turn, and always a tile waits. How many turns the
-- last pair waits, the one that picks it counted
unfoldable pub longest : ℕ → ℕ → ℕ
unfolding is_frame_of asking
longest n m =
    position_or_len (is_frame_of (pair (m - 1) (n - 1)))
    (all_sent
    (state_after (start n m) (replicate 3 (none_on (empty n m))))
    (replicate (most_turns n m) (tile_on (full n m))))
    + 1

-- ---- the most tiles

-- of four turns from the start, where every pair can go at every turn, and always a tile waits
unfoldable pub tiles_sent : ℕ → ℕ → ℕ
unfolding asking
tiles_sent n m = count_by is_tile (all_sent (start n m) (replicate 4 (tile_on (full n m))))

-- ---- turns of which the claims speak

abbrev pub before_fourth : Picker
before_fourth = at 3 1 2

abbrev pub busy : Given
busy = tile_on (full 3 2)

abbrev pub wide : Given
wide = none_on (full 5 8)
