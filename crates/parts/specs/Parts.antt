-- The parts of a fresh board, the cases of releases, states and frames, and where a part stands in its list.
use Rattle.std.specs.Prelude.{ℕ, zero, suc, ◌+◌, ◌*◌, Bool, true, false, List, get_or, set}
use Rattle.parts.specs.declared.Frame.{Frame}
use Rattle.parts.specs.declared.Frame.TheVariants.{Nothing, Ask, Reply, Put, Ack}
use Rattle.parts.specs.declared.Cell.{Cell}
use Rattle.parts.specs.declared.Node.{Node}
use Rattle.parts.specs.declared.Kind.{Kind}
use Rattle.parts.specs.declared.Kind.TheVariants.{Read, Write}
use Rattle.parts.specs.declared.State.{State}
use Rattle.parts.specs.declared.State.TheVariants.{Idle, Asking, Telling, Down}
use Rattle.parts.specs.declared.Console.{Console}
use Rattle.parts.specs.declared.Release.{Release}
use Rattle.parts.specs.declared.Release.TheVariants.{One, Two}
use Rattle.parts.specs.Limits.{max_nodes}
use Rattle.parts.specs.Tags.{zero_tag}

-- ---- the parts of a fresh board

-- 'up with tag (0, 0) and value 0'
abbrev pub fresh_node : Node
fresh_node = record { up = true; tag = zero_tag; value = 0 }

-- 'idle', with 'an empty set, best tag (0, 0), best value 0 and wanted value 0', the mark off, and its life '0 at
-- first'
abbrev pub idle_console : Console
idle_console = record { state = Idle; wanted = 0; answered = 0; best = zero_tag; value = 0; alike = false; life = 0 }

abbrev pub cell_of : Frame → Cell
cell_of f = record { frame = f }

-- ---- the cases of a release

abbrev pub is_two : Release → Bool
is_two One = false
is_two Two = true

-- ---- the cases of a frame

-- an empty cell 'holds nothing'
abbrev pub is_nothing : Frame → Bool
is_nothing Nothing = true
is_nothing Ask = false
is_nothing (Reply t v) = false
is_nothing (Put t v) = false
is_nothing Ack = false

-- 'Ask and put go to the node; reply and ack go to the console'
abbrev pub goes_to_node : Frame → Bool
goes_to_node Nothing = false
goes_to_node Ask = true
goes_to_node (Reply t v) = false
goes_to_node (Put t v) = true
goes_to_node Ack = false

-- ---- the cases of a console's state

abbrev pub is_idle : State → Bool
is_idle Idle = true
is_idle (Asking w) = false
is_idle (Telling w) = false
is_idle Down = false

abbrev pub is_asking : State → Bool
is_asking Idle = false
is_asking (Asking w) = true
is_asking (Telling w) = false
is_asking Down = false

abbrev pub is_telling : State → Bool
is_telling Idle = false
is_telling (Asking w) = false
is_telling (Telling w) = true
is_telling Down = false

-- 'Asking and telling, together "waiting"'
abbrev pub is_waiting : State → Bool
is_waiting Idle = false
is_waiting (Asking w) = true
is_waiting (Telling w) = true
is_waiting Down = false

-- a console is up unless it is down
abbrev pub is_up : State → Bool
is_up Idle = true
is_up (Asking w) = true
is_up (Telling w) = true
is_up Down = false

abbrev pub is_write : Kind → Bool
is_write Read = false
is_write Write = true

-- the console's operation is a write
abbrev pub writes : State → Bool
writes Idle = false
writes (Asking w) = is_write w
writes (Telling w) = is_write w
writes Down = false

-- the same operation, telling
abbrev pub to_telling : State → State
to_telling Idle = Idle
to_telling (Asking w) = Telling w
to_telling (Telling w) = Telling w
to_telling Down = Down

-- ---- parts in their lists

unfoldable pub node_in : List Node → ℕ → Node
node_in xs k = get_or xs k fresh_node

unfoldable pub console_in : List Console → ℕ → Console
console_in xs c = get_or xs c idle_console

-- 'A cell stands for each console and node pair': it is at console times 5 plus node
unfoldable pub cell_index : ℕ → ℕ → ℕ
cell_index c k = c * max_nodes + k

unfoldable pub frame_in : List Cell → ℕ → ℕ → Frame
frame_in xs c k = (get_or xs (cell_index c k) (cell_of Nothing)).frame

unfoldable pub set_frame : List Cell → ℕ → ℕ → Frame → List Cell
set_frame xs c k f = set xs (cell_index c k) (cell_of f)

-- 'All n of its cells become' f, whatever they held: console c's cells of the nodes below n
unfoldable pub set_row : List Cell → ℕ → ℕ → Frame → List Cell
set_row xs c zero f = xs
set_row xs c (suc n) f = set_frame (set_row xs c n f) c n f
