-- The steps but for deliver (document 01, 'The steps'): fresh, begin read, begin write, node down, console down; node
-- up (document 02, Paper 2); and restart (Paper 7). Each but fresh is what decisions/Steps says of its console or node,
-- its questions with it, done on the board.
use Rattle.std.specs.Prelude.{ℕ, [], ◌∷◌}
use Rattle.parts.specs.declared.Kind.{Kind}
use Rattle.parts.specs.declared.Kind.TheVariants.{Read, Write}
use Rattle.parts.specs.declared.Release.{Release}
use Rattle.parts.specs.declared.Release.TheVariants.{One}
use Rattle.parts.specs.declared.Setup.{Setup}
use Rattle.decisions.specs.Questions.{guarded, has_allowed_nodes, has_allowed_consoles}
use Rattle.decisions.specs.Steps.{begins, ends, restarts, falls, rises}
use Rattle.board.specs.declared.Board.{Board}
use Rattle.parts.specs.declared.Outcome.TheVariants.{Done}
use Rattle.board.specs.declared.Answer.{Answer}
use Rattle.board.specs.Boards.{node_at, console_at, fresh_board}
use Rattle.board.specs.WellFormed.{well_formed}
use Rattle.board.specs.Answers.{answer, refuse}
use Rattle.board.specs.Applied.{applied}

-- n nodes and m consoles, under a release
abbrev pub setup_of : ℕ → ℕ → Release → Setup
setup_of n m release = record { n = n; m = m; release = release }

-- 'fresh refused hands back the fresh board of one node and one console (release 1, ..)'
abbrev pub smallest : Setup
smallest = setup_of 1 1 One

-- 'Fresh takes n and m'; it names no outcome, and so 'gives done'. The board 'is made under one release' (document 02, Paper 4),
-- that of σ
unfoldable pub fresh : Setup → Answer
fresh σ =
    guarded
    (has_allowed_nodes σ ∷ has_allowed_consoles σ ∷ [])
    (refuse (fresh_board smallest))
    (answer Done (fresh_board σ))

-- a begin of either kind; v is the wanted value
unfoldable pub begin : Board → ℕ → Kind → ℕ → Answer
begin b c w v = applied b c 0 (begins (well_formed b) b.setup c w v (console_at b c))

-- 'Begin read' (console); 'the wanted value (0 for a read)'
abbrev pub begin_read : Board → ℕ → Answer
begin_read b c = begin b c Read 0

-- 'begin write' (console; a value)
abbrev pub begin_write : Board → ℕ → ℕ → Answer
begin_write b c v = begin b c Write v

-- Node down (node)
unfoldable pub node_down : Board → ℕ → Answer
node_down b k = applied b 0 k (falls (well_formed b) b.setup k (node_at b k))

-- Node up (node)
unfoldable pub node_up : Board → ℕ → Answer
node_up b k = applied b 0 k (rises (well_formed b) b.setup k (node_at b k))

-- Console down (console)
unfoldable pub console_down : Board → ℕ → Answer
console_down b c = applied b c 0 (ends (well_formed b) b.setup c (console_at b c))

-- Restart (console)
unfoldable pub restart : Board → ℕ → Answer
restart b c = applied b c 0 (restarts (well_formed b) b.setup c (console_at b c))
