-- The questions of document 01, 'Questions put before each step', node up's (document 02, Paper 2) and restart's (Paper
-- 7), each with its refusal, whose number Refusals gives. The steps say which they ask. Refusals has those of lines and
-- verbs too.
use Rattle.std.specs.Prelude.{ℕ, Bool, cond, not, List, [], ◌∷◌, ltb}
use Rattle.well_formed.specs.Clauses.{nodes_allowed, consoles_allowed}
use Rattle.decisions.specs.declared.refusals.Refusal.{Refusal}
use Rattle.decisions.specs.declared.refusals.Refusal.TheVariants.{NotWellFormed, BadNodeCount, BadConsoleCount, NoSuchConsole, NoSuchNode, ConsoleIsDown, ConsoleBusy, NoFrame, NodeIsDown, TsUsedUp, NodeIsUp, ConsoleIsUp, LivesUsedUp}
use Rattle.parts.specs.declared.Setup.{Setup}
use Rattle.parts.specs.declared.Node.{Node}
use Rattle.parts.specs.declared.Frame.{Frame}
use Rattle.parts.specs.declared.Console.{Console}
use Rattle.parts.specs.Finite.{◌implies◌}
use Rattle.parts.specs.Limits.{max_ts, max_life}
use Rattle.parts.specs.Parts.{is_nothing, is_idle, is_up, writes}

-- whether a question is answered yes, and its refusal
pub record Question : Type 0 where
  pub yes : Bool
  pub refusal : Refusal

infix 20 ◌or_refuse◌
abbrev pub ◌or_refuse◌ : Bool → Refusal → Question
x or_refuse r = record { yes = x; refusal = r }

-- the questions in their order: 'The first no gives the refusal with that number'; a is what comes if none refuses
unfoldable pub guarded : {A : Type 0} → List Question → (Refusal → A) → A → A
guarded [] refused a = a
guarded (q ∷ qs) refused a = cond q.yes (guarded qs refused a) (refused q.refusal)

-- 1. 'Is the board well formed? (all steps but fresh)'; formed is the answer
abbrev pub is_well_formed : Bool → Question
is_well_formed formed = formed or_refuse NotWellFormed

-- 2. 'Is n from 1 to 5? (fresh)'
abbrev pub has_allowed_nodes : Setup → Question
has_allowed_nodes σ = nodes_allowed σ.n or_refuse BadNodeCount

-- 3. 'Is m from 1 to 8? (fresh)'
abbrev pub has_allowed_consoles : Setup → Question
has_allowed_consoles σ = consoles_allowed σ.m or_refuse BadConsoleCount

-- 4. 'Is the console number below m? (begins, deliver, console down)', and restart
abbrev pub has_console : Setup → ℕ → Question
has_console σ c = ltb c σ.m or_refuse NoSuchConsole

-- 5. 'Is the node number below n? (deliver, node down)', and node up
abbrev pub has_node : Setup → ℕ → Question
has_node σ k = ltb k σ.n or_refuse NoSuchNode

-- 6. 'Is the console up? (begins, console down)'
abbrev pub console_is_up : Console → Question
console_is_up x = is_up x.state or_refuse ConsoleIsDown

-- 7. 'Is the console idle? (begins)'
abbrev pub console_is_idle : Console → Question
console_is_idle x = is_idle x.state or_refuse ConsoleBusy

-- 8. 'Does the cell hold a frame? (deliver)'
abbrev pub holds_frame : Frame → Question
holds_frame f = not (is_nothing f) or_refuse NoFrame

-- 9. 'Is the node up? (node down; deliver of an ask or a put)'
abbrev pub node_is_up : Node → Question
node_is_up y = y.up or_refuse NodeIsDown

-- 10. 'If this delivery turns a write, is best ts, with this reply taken in, below 4,000,000,000?' Asked where a
-- delivery turns; x is the console with the reply taken in
abbrev pub has_next_ts : Console → Question
has_next_ts x = (writes x.state implies ltb x.best.ts max_ts) or_refuse TsUsedUp

-- 14 (document 02, Paper 2). Node up 'refuses, after question 5, a node that is already up'
abbrev pub node_is_down : Node → Question
node_is_down y = not y.up or_refuse NodeIsUp

-- 15 (document 02, Paper 7). Restart 'refuses, after question 4, a console that is up': idle or waiting
abbrev pub console_is_down : Console → Question
console_is_down x = not (is_up x.state) or_refuse ConsoleIsUp

-- 16 (Paper 7). 'then a life already at 1,000'
abbrev pub has_next_life : Console → Question
has_next_life x = ltb x.life max_life or_refuse LivesUsedUp
