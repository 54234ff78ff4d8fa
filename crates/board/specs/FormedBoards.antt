-- Question 1 by examples: for each clause of 'A board is well formed if' (document 01), of the mark's (document 02,
-- Paper 3) and of lives (Paper 7) a board that breaks it alone beside one that keeps it. proofs/PRunsHold.antt proves
-- that well_formed says so.
use Rattle.std.specs.Prelude.{ℕ, Bool, true, false, not, List, [], ◌∷◌, ◌++◌, eqb}
use Rattle.parts.specs.declared.Tag.{Tag}
use Rattle.parts.specs.declared.Frame.{Frame}
use Rattle.parts.specs.declared.Frame.TheVariants.{Ask, Reply, Put, Ack}
use Rattle.parts.specs.declared.Node.{Node}
use Rattle.parts.specs.declared.Kind.{Kind}
use Rattle.parts.specs.declared.Kind.TheVariants.{Read, Write}
use Rattle.parts.specs.declared.State.{State}
use Rattle.parts.specs.declared.State.TheVariants.{Idle, Asking, Telling, Down}
use Rattle.parts.specs.declared.Console.{Console}
use Rattle.parts.specs.declared.Release.TheVariants.{One, Two}
use Rattle.parts.specs.Tags.{zero_tag}
use Rattle.board.specs.declared.Board.{Board}
use Rattle.board.specs.Boards.{with_node, with_console, with_frame, fresh_board}
use Rattle.board.specs.Steps.{setup_of}
use Rattle.board.specs.PRuns.{tag}
use Rattle.board.specs.RestartRuns.{life_tag, in_life}

-- a board, and whether it is well formed
pub record FormedBoard : Type 0 where
  pub board : Board
  pub formed : Bool

abbrev keeps : Board → FormedBoard
keeps b = record { board = b; formed = true }

abbrev breaks : Board → FormedBoard
breaks b = record { board = b; formed = false }

-- ---- the boards: a fresh one with one part changed

abbrev sized : ℕ → ℕ → Board
sized n m = fresh_board (setup_of n m One)

abbrev node : ℕ → ℕ → ℕ → Node → Board
node n m k x = with_node (sized n m) k x

abbrev console : ℕ → ℕ → ℕ → Console → Board
console n m c x = with_console (sized n m) c x

abbrev frame : ℕ → ℕ → ℕ → ℕ → Frame → Board
frame n m c k f = with_frame (sized n m) c k f

-- ---- the parts

abbrev holding : Bool → Tag → ℕ → Node
holding u t v = record { up = u; tag = t; value = v }

-- a console in state s that wants w, with the answered set a, best t and its value v; on says whether the mark is
abbrev marked : Bool → State → ℕ → ℕ → Tag → ℕ → Console
marked on s w a t v = record { state = s; wanted = w; answered = a; best = t; value = v; alike = on; life = 0 }

-- the mark off
abbrev plain : State → ℕ → ℕ → Tag → ℕ → Console
plain s w a t v = marked false s w a t v

abbrev telling : Kind → ℕ → ℕ → Tag → ℕ → Console
telling k w a t v = plain (Telling k) w a t v

-- the mark on if something is answered
abbrev asking : Kind → ℕ → ℕ → Tag → ℕ → Console
asking k w a t v = marked (not (eqb a 0)) (Asking k) w a t v

-- ---- 'n and m are in range'. A board of no console breaks 'a console number below m' too

ranges : List FormedBoard
ranges =
    breaks (sized 0 1)
    ∷ keeps (sized 1 1)
    ∷ keeps (sized 5 1)
    ∷ breaks (sized 6 1)
    ∷ breaks (sized 1 0)
    ∷ keeps (sized 1 8)
    ∷ breaks (sized 1 9)
    ∷ keeps (fresh_board (setup_of 5 8 Two))
    ∷ []

-- ---- tags

-- the tag t with the value v, wherever a board of n nodes and m consoles has one: at node k, as the best of console c,
-- while it tells and while it asks, and in a reply and a put between them
abbrev everywhere : (Board → FormedBoard) → ℕ → ℕ → ℕ → ℕ → Tag → ℕ → List FormedBoard
everywhere is n m c k t v =
    is (node n m k (holding true t v))
    ∷ is (node n m k (holding false t v))
    ∷ is (console n m c (telling Read 0 0 t v))
    ∷ is (console n m c (asking Read 0 1 t v))
    ∷ is (frame n m c k (Reply t v))
    ∷ is (frame n m c k (Put t v))
    ∷ []

-- 'every tag has ts at most 4,000,000,000': on a full board, at its last node, console and cell
timestamps : List FormedBoard
timestamps = everywhere keeps 5 8 7 4 (tag 4000000000 0) 5 ++ everywhere breaks 5 8 7 4 (tag 4000000001 0) 5

-- 'and a console number below m'
numbers : List FormedBoard
numbers =
    everywhere keeps 3 2 1 2 (tag 1 1) 5
    ++ everywhere breaks 3 2 1 2 (tag 1 2) 5
    ++ everywhere keeps 5 8 0 0 (tag 1 7) 5
    ++ everywhere breaks 5 8 0 0 (tag 1 8) 5

-- 'a tag with ts 0 has console 0 and value 0'; any other may have value 0
zeros : List FormedBoard
zeros =
    everywhere keeps 3 2 1 2 (tag 0 0) 0
    ++ everywhere breaks 3 2 1 2 (tag 0 1) 0
    ++ everywhere breaks 3 2 1 2 (tag 0 0) 5
    ++ everywhere keeps 3 2 1 2 (tag 1 0) 0

-- ---- waiting consoles

-- a console of n nodes that tells, or asks, with the answered set a, which is one bit for each node
abbrev answering : (Board → FormedBoard) → ℕ → ℕ → List FormedBoard
answering is n a =
    is (console n 2 1 (telling Write 7 a (tag 1 1) 7))
    ∷ is (console n 2 1 (asking Write 7 a zero_tag 0))
    ∷ []

-- 'a waiting console's answered set names only nodes below n'
names : List FormedBoard
names =
    answering keeps 2 2
    ++ answering breaks 2 4
    ++ answering keeps 3 4
    ++ answering breaks 3 8
    ++ answering keeps 4 8
    ++ answering breaks 4 16
    ++ answering keeps 5 16
    ++ answering breaks 5 32
    ++ answering breaks 5 128

-- 'and has fewer than q members': 'for n = 1, 2, 3, 4, 5 it is 1, 2, 2, 3, 3'
members : List FormedBoard
members =
    answering keeps 1 0
    ++ answering breaks 1 1
    ++ answering keeps 2 1
    ++ answering breaks 2 3
    ++ answering keeps 3 1
    ++ answering breaks 3 5
    ++ answering keeps 4 6
    ++ answering breaks 4 7
    ++ answering keeps 5 18
    ++ answering breaks 5 21

-- 'an asking console with nothing answered has best tag (0, 0) and value 0'; the value is then 0 by the clause on ts 0.
-- A telling one may have any
unanswered : List FormedBoard
unanswered =
    keeps (console 3 2 1 (asking Read 0 0 zero_tag 0))
    ∷ breaks (console 3 2 1 (asking Read 0 0 (tag 1 0) 0))
    ∷ breaks (console 3 2 1 (asking Write 7 0 (tag 1 1) 5))
    ∷ keeps (console 3 2 1 (asking Write 7 4 (tag 1 1) 5))
    ∷ keeps (console 3 2 1 (telling Write 7 0 (tag 1 1) 5))
    ∷ []

-- 'a read's wanted value is 0'; a write's may be any
wanted : List FormedBoard
wanted =
    keeps (console 3 2 1 (asking Read 0 0 zero_tag 0))
    ∷ breaks (console 3 2 1 (asking Read 7 0 zero_tag 0))
    ∷ keeps (console 3 2 1 (asking Write 7 0 zero_tag 0))
    ∷ keeps (console 3 2 1 (asking Write 0 0 zero_tag 0))
    ∷ keeps (console 3 2 1 (telling Read 0 0 (tag 1 1) 5))
    ∷ breaks (console 3 2 1 (telling Read 7 0 (tag 1 1) 5))
    ∷ keeps (console 3 2 1 (telling Write 7 0 (tag 1 1) 5))
    ∷ keeps (console 3 2 1 (telling Write 0 0 (tag 1 1) 5))
    ∷ []

-- ---- other consoles

-- 'an idle or down console has an empty set, best tag (0, 0), best value 0 and wanted value 0'; the best value is then
-- 0 by the clause on ts 0
abbrev resting : ℕ → State → List FormedBoard
resting c s =
    keeps (console 3 2 c (plain s 0 0 zero_tag 0))
    ∷ breaks (console 3 2 c (plain s 0 1 zero_tag 0))
    ∷ breaks (console 3 2 c (plain s 0 0 (tag 1 0) 0))
    ∷ breaks (console 3 2 c (plain s 0 0 zero_tag 5))
    ∷ breaks (console 3 2 c (plain s 7 0 zero_tag 0))
    ∷ []

rests : List FormedBoard
rests = resting 1 Idle ++ resting 1 Down

-- ---- the mark

-- 'The mark is off in the telling, idle and down states and while nothing is answered, on at exactly one answer of
-- asking'
marks : List FormedBoard
marks =
    breaks (console 5 2 1 (marked true (Telling Read) 0 0 (tag 1 1) 5))
    ∷ breaks (console 5 2 1 (marked true (Telling Write) 7 1 (tag 1 1) 7))
    ∷ breaks (console 5 2 1 (marked true Idle 0 0 zero_tag 0))
    ∷ breaks (console 5 2 1 (marked true Down 0 0 zero_tag 0))
    ∷ breaks (console 5 2 1 (marked true (Asking Read) 0 0 zero_tag 0))
    ∷ keeps (console 5 2 1 (marked false (Asking Read) 0 0 zero_tag 0))
    ∷ breaks (console 5 2 1 (marked false (Asking Read) 0 16 (tag 1 1) 5))
    ∷ keeps (console 5 2 1 (marked true (Asking Read) 0 16 (tag 1 1) 5))
    ∷ keeps (console 5 2 1 (marked true (Asking Read) 0 17 (tag 1 1) 5))
    ∷ keeps (console 5 2 1 (marked false (Asking Read) 0 17 (tag 1 1) 5))
    ∷ breaks (console 5 2 7 (marked true Idle 0 0 zero_tag 0))
    ∷ []

-- ---- lives

-- 'no tag .. has a life above 1,000'; it may be above its console's, which is 0 here
tag_lives : List FormedBoard
tag_lives = everywhere keeps 3 2 1 2 (life_tag 1 1 1000) 5 ++ everywhere breaks 3 2 1 2 (life_tag 1 1 1001) 5

-- 'A tag with ts 0 has life 0'
zero_lives : List FormedBoard
zero_lives =
    everywhere breaks 3 2 1 2 (life_tag 0 0 1) 0
    ++ (breaks (console 3 2 1 (plain Idle 0 0 (life_tag 0 0 1) 0)) ∷ breaks (console 3 2 1 (plain Down 0 0 (life_tag 0 0 1) 0)) ∷ [])

-- 'no .. console has a life above 1,000', whatever its state
abbrev living : (Board → FormedBoard) → ℕ → List FormedBoard
living is l =
    is (console 3 2 1 (in_life l (plain Idle 0 0 zero_tag 0)))
    ∷ is (console 3 2 1 (in_life l (plain Down 0 0 zero_tag 0)))
    ∷ is (console 3 2 1 (in_life l (asking Write 7 4 (tag 1 1) 5)))
    ∷ is (console 3 2 1 (in_life l (telling Write 7 0 (tag 1 1) 5)))
    ∷ []

console_lives : List FormedBoard
console_lives = living keeps 1 ++ living keeps 1000 ++ living breaks 1001

-- 'consoles beyond m have life 0', and tag (0, 0) there has life 0 too
lives_beyond : List FormedBoard
lives_beyond =
    breaks (console 3 2 2 (in_life 1 (plain Idle 0 0 zero_tag 0)))
    ∷ keeps (console 3 3 2 (in_life 1 (plain Idle 0 0 zero_tag 0)))
    ∷ breaks (console 3 2 7 (in_life 1 (plain Idle 0 0 zero_tag 0)))
    ∷ keeps (console 3 8 7 (in_life 1 (plain Idle 0 0 zero_tag 0)))
    ∷ breaks (console 3 2 7 (plain Idle 0 0 (life_tag 0 0 1) 0))
    ∷ breaks (node 3 2 3 (holding true (life_tag 0 0 1) 0))
    ∷ []

-- ---- 'nodes, consoles and cells beyond n and m are up with tag (0, 0) and value 0, idle, and empty'

-- beside each the same part below n or m
nodes_beyond : List FormedBoard
nodes_beyond =
    breaks (node 3 2 3 (holding false zero_tag 0))
    ∷ keeps (node 4 2 3 (holding false zero_tag 0))
    ∷ breaks (node 3 2 4 (holding true (tag 1 0) 0))
    ∷ keeps (node 5 2 4 (holding true (tag 1 0) 0))
    ∷ breaks (node 3 2 3 (holding true (tag 0 1) 0))
    ∷ breaks (node 4 2 4 (holding true zero_tag 5))
    ∷ []

consoles_beyond : List FormedBoard
consoles_beyond =
    breaks (console 3 2 2 (asking Read 0 0 zero_tag 0))
    ∷ keeps (console 3 3 2 (asking Read 0 0 zero_tag 0))
    ∷ breaks (console 3 2 7 (telling Read 0 0 zero_tag 0))
    ∷ keeps (console 3 8 7 (telling Read 0 0 zero_tag 0))
    ∷ breaks (console 3 2 2 (plain Down 0 0 zero_tag 0))
    ∷ keeps (console 3 3 2 (plain Down 0 0 zero_tag 0))
    ∷ resting 2 Idle

-- of a console beyond m, of a node beyond n, and of both
cells_beyond : List FormedBoard
cells_beyond =
    breaks (frame 3 2 2 0 Ask)
    ∷ keeps (frame 3 3 2 0 Ask)
    ∷ breaks (frame 3 2 0 3 (Reply zero_tag 0))
    ∷ keeps (frame 4 2 0 3 (Reply zero_tag 0))
    ∷ breaks (frame 3 2 2 2 (Put zero_tag 0))
    ∷ keeps (frame 3 3 2 2 (Put zero_tag 0))
    ∷ breaks (frame 3 2 1 4 Ack)
    ∷ keeps (frame 5 2 1 4 Ack)
    ∷ breaks (frame 4 7 7 4 Ask)
    ∷ keeps (frame 5 8 7 4 Ask)
    ∷ []

unfoldable pub formed_boards : List FormedBoard
unfolding ranges timestamps numbers zeros names members unanswered wanted rests marks tag_lives zero_lives console_lives
    lives_beyond nodes_beyond consoles_beyond cells_beyond
formed_boards =
    ranges
    ++ timestamps
    ++ numbers
    ++ zeros
    ++ names
    ++ members
    ++ unanswered
    ++ wanted
    ++ rests
    ++ marks
    ++ tag_lives
    ++ zero_lives
    ++ console_lives
    ++ lives_beyond
    ++ nodes_beyond
    ++ consoles_beyond
    ++ cells_beyond
