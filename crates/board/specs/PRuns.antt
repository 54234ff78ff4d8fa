-- The proved set of document 01, 'Runs to check by': P1 to P10 as one list, with what every step must answer and the
-- facts that the paper states. proofs/PRunsHold.antt proves that the definitions give all of it.
use Rattle.std.specs.Prelude.{ℕ, true, false, List, [], ◌∷◌, ◌++◌, map, replicate, take, Option}
use Rattle.parts.specs.declared.Tag.{Tag}
use Rattle.parts.specs.declared.Frame.{Frame}
use Rattle.parts.specs.declared.Frame.TheVariants.{Nothing, Reply, Put, Ack}
use Rattle.parts.specs.declared.Outcome.{Outcome}
use Rattle.parts.specs.declared.Release.TheVariants.{One}
use Rattle.parts.specs.declared.Setup.{Setup}
use Rattle.parts.specs.declared.Kind.TheVariants.{Write}
use Rattle.parts.specs.declared.State.TheVariants.{Asking}
use Rattle.parts.specs.Tags.{zero_tag}
use Rattle.parts.specs.Parts.{fresh_node, idle_console, cell_of}
use Rattle.board.specs.declared.Board.{Board}
use Rattle.board.specs.declared.Answer.{Answer}
use Rattle.board.specs.Boards.{node_at, frame_at, fresh_board}
use Rattle.parts.specs.Outcomes.{outcome_number, outcome_tag, outcome_value}
use Rattle.decisions.specs.declared.refusals.Refusal.{Refusal}
use Rattle.decisions.specs.Refusals.{refusal_number}
use Rattle.board.specs.Steps as steps
use Rattle.board.specs.Steps.{setup_of, smallest}
use Rattle.board.specs.Runs.{Step, BeginRead, BeginWrite, Deliver, NodeDown, step}

-- ---- a run: what is done or looked at, in order, and what must be seen

pub data Look : Type 0 where
  -- make a board
  Make : Setup → Look
  -- take a step
  Take : Step → Look
  -- look at a node, at a cell, at the whole board
  NodeOf : ℕ → Look
  CellOf : ℕ → ℕ → Look
  Whole : Look

pub data Seen : Type 0 where
  -- an answer: outcome, refusal, tag, value
  Said : ℕ → ℕ → Tag → ℕ → Seen
  -- what a node holds
  Holds : Tag → ℕ → Seen
  Frames : Frame → Seen
  Is : Board → Seen

pub record Line : Type 0 where
  pub look : Look
  pub must : Seen

infix 70 ◌gives◌
abbrev pub ◌gives◌ : Look → Seen → Line
l gives s = record { look = l; must = s }

-- a run, of P1 to P10 or of a list of another paper
pub record PRun : Type 0 where
  pub number : ℕ
  pub start : Board
  pub lines : List Line

-- ---- what the definitions give

-- what an answer shows, in document 01's numbers
abbrev pub said_of : Outcome → Option Refusal → Seen
said_of o r = Said (outcome_number o) (refusal_number r) (outcome_tag o) (outcome_value o)

abbrev pub said : Answer → Seen
said a = said_of a.outcome a.refusal

unfoldable pub seen : Board → Look → Seen
seen b (Make σ) = said (steps.fresh σ)
seen b (Take s) = said (step b s)
seen b (NodeOf k) = Holds (node_at b k).tag (node_at b k).value
seen b (CellOf c k) = Frames (frame_at b c k)
seen b Whole = Is b

-- the board that it leaves
unfoldable pub left : Board → Look → Board
left b (Make σ) = (steps.fresh σ).board
left b (Take s) = (step b s).board
left b (NodeOf k) = b
left b (CellOf c k) = b
left b Whole = b

unfoldable pub all_seen : Board → List Line → List Seen
all_seen b [] = []
all_seen b (l ∷ ls) = seen b l.look ∷ all_seen (left b l.look) ls

-- what a run shows, and what it must show
abbrev pub shows : PRun → List Seen
shows r = all_seen r.start r.lines

abbrev pub must_show : PRun → List Seen
must_show r = map (λ (l : Line). l.must) r.lines

-- ---- the words of the runs

-- a tag of a console in its first life
abbrev pub tag : ℕ → ℕ → Tag
tag t c = record { ts = t; console = c; life = 0 }

abbrev pub refused : ℕ → Seen
refused r = Said 0 r zero_tag 0

abbrev pub done : Seen
done = Said 1 0 zero_tag 0

abbrev pub handed : Seen
handed = Said 2 0 zero_tag 0

abbrev pub heard : Seen
heard = Said 3 0 zero_tag 0

abbrev pub turned : Seen
turned = Said 4 0 zero_tag 0

abbrev pub finished : Tag → ℕ → Seen
finished t v = Said 5 0 t v

abbrev pub discarded : Seen
discarded = Said 6 0 zero_tag 0

-- document 01's fresh, which is release 1
abbrev pub fresh : ℕ → ℕ → Look
fresh n m = Make (setup_of n m One)

abbrev pub read : ℕ → Look
read c = Take (BeginRead c)

abbrev pub write : ℕ → ℕ → Look
write c v = Take (BeginWrite c v)

abbrev pub deliver : ℕ → ℕ → Look
deliver c k = Take (Deliver c k)

abbrev pub node_down : ℕ → Look
node_down k = Take (NodeDown k)

abbrev of_size : ℕ → ℕ → Board
of_size n m = fresh_board (setup_of n m One)

-- a run on three nodes and two consoles
abbrev pub on_three : List Line → List Line
on_three ls = fresh 3 2 gives done ∷ ls

-- ---- P1 to P10

p1 : List Line
p1 =
    fresh 0 0 gives refused 2
    ∷ Whole gives Is (of_size 1 1)
    ∷ fresh 5 8 gives done
    ∷ Whole gives Is (of_size 5 8)
    ∷ fresh 6 1 gives refused 2
    ∷ Whole gives Is (of_size 1 1)
    ∷ fresh 5 9 gives refused 3
    ∷ Whole gives Is (of_size 1 1)
    ∷ []

-- the steps of P2, on three nodes and two consoles
abbrev pub p2_steps : List Line
p2_steps =
    write 1 7 gives done
    ∷ deliver 1 0 gives handed
    ∷ deliver 1 0 gives heard
    ∷ deliver 1 2 gives handed
    ∷ deliver 1 2 gives turned
    ∷ deliver 1 0 gives handed
    ∷ deliver 1 0 gives heard
    ∷ deliver 1 2 gives handed
    ∷ deliver 1 2 gives finished (tag 1 1) 7
    ∷ []

p2 : List Line
p2 = on_three (p2_steps ++ (NodeOf 1 gives Holds (tag 0 0) 0 ∷ CellOf 1 1 gives Frames (Put (tag 1 1) 7) ∷ []))

-- what follows them in P3
abbrev pub p3_steps : List Line
p3_steps =
    read 0 gives done
    ∷ deliver 0 1 gives handed
    ∷ CellOf 0 1 gives Frames (Reply (tag 0 0) 0)
    ∷ deliver 0 2 gives handed
    ∷ CellOf 0 2 gives Frames (Reply (tag 1 1) 7)
    ∷ deliver 0 1 gives heard
    ∷ deliver 0 2 gives turned
    ∷ CellOf 0 0 gives Frames (Put (tag 1 1) 7)
    ∷ CellOf 0 1 gives Frames (Put (tag 1 1) 7)
    ∷ CellOf 0 2 gives Frames (Put (tag 1 1) 7)
    ∷ deliver 0 1 gives handed
    ∷ NodeOf 1 gives Holds (tag 1 1) 7
    ∷ deliver 0 1 gives heard
    ∷ deliver 0 2 gives handed
    ∷ deliver 0 2 gives finished (tag 1 1) 7
    ∷ []

p3 : List Line
p3 = on_three (p2_steps ++ p3_steps)

-- ten deliveries, 3 + 2 + 3 + 2 = 2 (n + q); that no operation takes more is demand 3's bound
p4 : List Line
p4 =
    fresh 3 2 gives done
    ∷ write 1 7 gives done
    ∷ deliver 1 0 gives handed
    ∷ deliver 1 1 gives handed
    ∷ deliver 1 2 gives handed
    ∷ deliver 1 0 gives heard
    ∷ deliver 1 2 gives turned
    ∷ deliver 1 0 gives handed
    ∷ deliver 1 1 gives handed
    ∷ deliver 1 2 gives handed
    ∷ deliver 1 0 gives heard
    ∷ deliver 1 2 gives finished (tag 1 1) 7
    ∷ []

p5 : List Line
p5 =
    fresh 1 1 gives done
    ∷ read 0 gives done
    ∷ deliver 0 0 gives handed
    ∷ deliver 0 0 gives turned
    ∷ deliver 0 0 gives handed
    ∷ deliver 0 0 gives finished (tag 0 0) 0
    ∷ []

-- a writer's asking, by nodes 0 and 1, which both reply (0, 0)
abbrev pub asks_two : ℕ → List Line
asks_two c =
    deliver c 0 gives handed
    ∷ CellOf c 0 gives Frames (Reply (tag 0 0) 0)
    ∷ deliver c 0 gives heard
    ∷ deliver c 1 gives handed
    ∷ CellOf c 1 gives Frames (Reply (tag 0 0) 0)
    ∷ deliver c 1 gives turned
    ∷ []

p6 : List Line
p6 =
    on_three (write 0 5 gives done ∷ write 1 7 gives done ∷ [])
    ++ asks_two 0
    ++ asks_two 1
    ++ (CellOf 0 0 gives Frames (Put (tag 1 0) 5)
    ∷ CellOf 1 0 gives Frames (Put (tag 1 1) 7)
    ∷ deliver 1 0 gives handed
    ∷ NodeOf 0 gives Holds (tag 1 1) 7
    ∷ deliver 0 0 gives handed
    ∷ NodeOf 0 gives Holds (tag 1 1) 7
    ∷ CellOf 0 0 gives Frames Ack
    ∷ [])

p7 : List Line
p7 = on_three (deliver 2 3 gives refused 4 ∷ [])

p8_ask : List Line
p8_ask = on_three (read 0 gives done ∷ node_down 1 gives done ∷ deliver 0 1 gives refused 9 ∷ [])

p8_reply : List Line
p8_reply = on_three (read 0 gives done ∷ deliver 0 1 gives handed ∷ node_down 1 gives done ∷ deliver 0 1 gives heard ∷ [])

-- P9's board, written down and not reached by a run: one node and one console, which asks with a write of 7; the reply
-- in its cell has the timestamp t
abbrev pub p9_board : ℕ → Board
p9_board t =
    record {
      setup = setup_of 1 1 One;
      nodes = record { up = true; tag = tag t 0; value = 5 } ∷ replicate 4 fresh_node;
      consoles = record { state = Asking Write; wanted = 7; answered = 0; best = zero_tag; value = 0; alike = false; life = 0 } ∷ replicate 7 idle_console;
      cells = cell_of (Reply (tag t 0) 5) ∷ replicate 39 (cell_of Nothing);
    }

p9_full : List Line
p9_full = CellOf 0 0 gives Frames (Reply (tag 4000000000 0) 5) ∷ deliver 0 0 gives refused 10 ∷ Whole gives Is (p9_board 4000000000) ∷ []

p9_last : List Line
p9_last = CellOf 0 0 gives Frames (Reply (tag 3999999999 0) 5) ∷ deliver 0 0 gives turned ∷ CellOf 0 0 gives Frames (Put (tag 4000000000 0) 7) ∷ []

p10_empty : List Line
p10_empty = on_three (p2_steps ++ (CellOf 1 0 gives Frames Nothing ∷ deliver 1 0 gives refused 8 ∷ []))

p10_busy : List Line
p10_busy = on_three (take 8 p2_steps ++ (read 1 gives refused 7 ∷ write 1 9 gives refused 7 ∷ []))

abbrev pub run : ℕ → Board → List Line → PRun
run i b ls = record { number = i; start = b; lines = ls }

-- the board before a run has made one
abbrev pub blank : Board
blank = fresh_board smallest

-- the list
unfoldable pub p_runs : List PRun
unfolding p1 p2 p3 p4 p5 p6 p7 p8_ask p8_reply p9_full p9_last p10_empty p10_busy
p_runs =
    run 1 blank p1
    ∷ run 2 blank p2
    ∷ run 3 blank p3
    ∷ run 4 blank p4
    ∷ run 5 blank p5
    ∷ run 6 blank p6
    ∷ run 7 blank p7
    ∷ run 8 blank p8_ask
    ∷ run 8 blank p8_reply
    ∷ run 9 (p9_board 4000000000) p9_full
    ∷ run 9 (p9_board 3999999999) p9_last
    ∷ run 10 blank p10_empty
    ∷ run 10 blank p10_busy
    ∷ []
