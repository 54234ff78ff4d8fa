-- Well-formedness (document 01, 'A board is well formed if'; of the mark: document 02, Paper 3; of lives: Paper 7),
-- part by part: each clause of the sentence is one line.
use Rattle.std.specs.Prelude.{ℕ, Bool, true, cond, not, ◌&&◌, List, leb, ltb, eqb}
use Rattle.parts.specs.declared.Tag.{Tag}
use Rattle.parts.specs.declared.Frame.{Frame}
use Rattle.parts.specs.declared.Frame.TheVariants.{Nothing, Ask, Reply, Put, Ack}
use Rattle.parts.specs.declared.Cell.{Cell}
use Rattle.parts.specs.declared.Node.{Node}
use Rattle.parts.specs.declared.Kind.{Kind}
use Rattle.parts.specs.declared.Kind.TheVariants.{Read, Write}
use Rattle.parts.specs.declared.State.{State}
use Rattle.parts.specs.declared.State.TheVariants.{Idle, Asking, Telling, Down}
use Rattle.parts.specs.declared.Console.{Console}
use Rattle.parts.specs.declared.Setup.{Setup}
use Rattle.parts.specs.Finite.{◌implies◌, every}
use Rattle.parts.specs.Limits.{max_nodes, max_consoles, max_ts, max_life}
use Rattle.parts.specs.AnsweredSet.{size, only_below}
use Rattle.parts.specs.Sizes.{ask_size, tell_size}
use Rattle.parts.specs.Parts.{is_nothing, is_idle, node_in, console_in, frame_in}

-- ---- 'n and m are in range'

unfoldable pub nodes_allowed : ℕ → Bool
nodes_allowed n = leb 1 n && leb n max_nodes

unfoldable pub consoles_allowed : ℕ → Bool
consoles_allowed m = leb 1 m && leb m max_consoles

unfoldable pub setup_ok : Setup → Bool
setup_ok σ = nodes_allowed σ.n && consoles_allowed σ.m

-- ---- tags with their values

-- tag (0, 0) and value 0
unfoldable pub is_zero : Tag → ℕ → Bool
is_zero t v =
    eqb t.ts 0
    && eqb t.console 0
    -- 'A tag with ts 0 has life 0'
    && eqb t.life 0
    && eqb v 0

unfoldable pub tag_ok : ℕ → Tag → ℕ → Bool
tag_ok m t v =
    -- 'every tag has ts at most 4,000,000,000'
    leb t.ts max_ts
    -- 'and a console number below m'
    && ltb t.console m
    -- 'no tag .. has a life above 1,000'
    && leb t.life max_life
    -- 'a tag with ts 0 has console 0 and value 0'
    && (eqb t.ts 0 implies is_zero t v)

-- ---- nodes

unfoldable pub node_ok : Setup → ℕ → Node → Bool
node_ok σ k x =
    cond (ltb k σ.n) (tag_ok σ.m x.tag x.value)
    -- 'nodes .. beyond n .. are up with tag (0, 0) and value 0'
    (x.up && is_zero x.tag x.value)

unfoldable pub nodes_ok : Setup → List Node → Bool
nodes_ok σ xs = every max_nodes (λ k. node_ok σ k (node_in xs k))

-- ---- consoles

-- 'an idle or down console has an empty set, best tag (0, 0), best value 0 and wanted value 0'
unfoldable pub rest_ok : Console → Bool
rest_ok x = eqb x.answered 0 && is_zero x.best x.value && eqb x.wanted 0

-- 'a read's wanted value is 0'
unfoldable pub wanted_ok : Kind → ℕ → Bool
wanted_ok Read v = eqb v 0
wanted_ok Write v = true

-- a console that waits, in a phase that ends at q answers, with a read or a write
unfoldable pub wait_ok : Setup → ℕ → Kind → Console → Bool
wait_ok σ q w x =
    -- 'a waiting console's answered set names only nodes below n'
    only_below σ.n x.answered
    -- 'and has fewer than q members'
    && ltb (size x.answered) q
    && wanted_ok w x.wanted

unfoldable pub state_ok : Setup → Console → State → Bool
state_ok σ x Idle = rest_ok x
state_ok σ x (Asking w) =
    wait_ok σ (ask_size σ) w x
    -- 'an asking console with nothing answered has best tag (0, 0) and value 0'
    && (eqb x.answered 0 implies is_zero x.best x.value)
state_ok σ x (Telling w) = wait_ok σ (tell_size σ) w x
state_ok σ x Down = rest_ok x

-- 'The mark is off in the telling, idle and down states and while nothing is answered, on at exactly one answer of asking'
unfoldable pub mark_ok : Console → State → Bool
mark_ok x (Telling w) = not x.alike
mark_ok x Idle = not x.alike
mark_ok x Down = not x.alike
mark_ok x (Asking w) =
    -- 'off .. while nothing is answered'
    (eqb x.answered 0 implies not x.alike)
    -- 'on at exactly one answer of asking'
    && (eqb (size x.answered) 1 implies x.alike)

unfoldable pub console_ok : Setup → ℕ → Console → Bool
console_ok σ c x =
    -- of every console: those beyond m are idle
    mark_ok x x.state
    -- 'no .. console has a life above 1,000'
    && leb x.life max_life
    && cond (ltb c σ.m) (tag_ok σ.m x.best x.value && state_ok σ x x.state)
    -- 'consoles .. beyond .. m are .. idle', 'and consoles beyond m have life 0'
    (is_idle x.state && rest_ok x && eqb x.life 0)

unfoldable pub consoles_ok : Setup → List Console → Bool
consoles_ok σ xs = every max_consoles (λ c. console_ok σ c (console_in xs c))

-- ---- cells

-- the tags that a frame carries
unfoldable pub frame_ok : Setup → Frame → Bool
frame_ok σ Nothing = true
frame_ok σ Ask = true
frame_ok σ (Reply t v) = tag_ok σ.m t v
frame_ok σ (Put t v) = tag_ok σ.m t v
frame_ok σ Ack = true

unfoldable pub cell_ok : Setup → ℕ → ℕ → Frame → Bool
cell_ok σ c k f =
    cond (ltb c σ.m && ltb k σ.n) (frame_ok σ f)
    -- 'cells beyond n and m are .. empty'
    (is_nothing f)

-- console c's cells
unfoldable pub row_ok : Setup → List Cell → ℕ → Bool
row_ok σ xs c = every max_nodes (λ k. cell_ok σ c k (frame_in xs c k))

unfoldable pub cells_ok : Setup → List Cell → Bool
cells_ok σ xs = every max_consoles (row_ok σ xs)
