-- What the steps but for fresh and deliver come to (document 01, 'The steps'; node up: document 02, Paper 2; restart:
-- Paper 7), as decisions on one part: console c, which is x, or node k, which is y, of a board that was made under the
-- setup σ; formed says whether it is well formed. Each is its questions in their order, then its effect.
use Rattle.std.specs.Prelude.{ℕ, Bool, true, false, [], ◌∷◌, Option, None, Result, Ok, Err}
use Rattle.std.specs.declared.cmp.Ordering.{Ordering}
use Rattle.parts.specs.declared.Frame.TheVariants.{Nothing, Ask}
use Rattle.parts.specs.declared.Node.{Node}
use Rattle.parts.specs.declared.Kind.{Kind}
use Rattle.parts.specs.declared.State.TheVariants.{Down}
use Rattle.parts.specs.declared.Console.{Console}
use Rattle.parts.specs.declared.Setup.{Setup}
use Rattle.parts.specs.declared.Outcome.{Outcome}
use Rattle.parts.specs.declared.Outcome.TheVariants.{Done}
use Rattle.decisions.specs.declared.Part.{Part}
use Rattle.decisions.specs.declared.Part.TheVariants.{ConsoleTo, NodeTo}
use Rattle.decisions.specs.declared.Sent.{Sent}
use Rattle.decisions.specs.declared.Sent.TheVariants.{Keep, Row}
use Rattle.decisions.specs.declared.refusals.Refusal.{Refusal}
use Rattle.decisions.specs.declared.Change.{Change}
use Rattle.decisions.specs.Changes.{with_up, rests, restarted, asks}
use Rattle.decisions.specs.Questions.{guarded, is_well_formed, has_console, has_node, console_is_up, console_is_idle, node_is_up, node_is_down, console_is_down, has_next_life}

-- what a step comes to: its refusal, or what it changes
abbrev pub Decision : Type 0
Decision = Result Change Refusal

-- an accepted step: how the reply that it took in compared, its outcome, the part that changes, and what is sent
abbrev pub accept : Option Ordering → Outcome → Part → Sent → Decision
accept how o p s = Ok (record { outcome = o; compared = how; part = p; sent = s })

-- a begin of either kind; v is the wanted value: 'The console becomes asking .. All n of its cells become ask, whatever they held.
-- Outcome: done'
unfoldable pub begins : Bool → Setup → ℕ → Kind → ℕ → Console → Decision
begins formed σ c w v x =
    guarded
    (is_well_formed formed ∷ has_console σ c ∷ console_is_up x ∷ console_is_idle x ∷ [])
    Err
    (accept None Done (ConsoleTo (asks w v x)) (Row Ask))

-- Console down (console): 'its operation gone, its cells as they are. Outcome: done'; 'down is no longer for good'
-- (document 02, Paper 7)
unfoldable pub ends : Bool → Setup → ℕ → Console → Decision
ends formed σ c x =
    guarded
    (is_well_formed formed ∷ has_console σ c ∷ console_is_up x ∷ [])
    Err
    (accept None Done (ConsoleTo (rests Down x)) Keep)

-- 'Restart makes a down console idle with its life one higher and empties its cells'. It names no outcome, and so
-- 'gives done'
unfoldable pub restarts : Bool → Setup → ℕ → Console → Decision
restarts formed σ c x =
    guarded
    (is_well_formed formed ∷ has_console σ c ∷ console_is_down x ∷ has_next_life x ∷ [])
    Err
    (accept None Done (ConsoleTo (restarted x)) (Row Nothing))

-- 'Node down (node): the node keeps tag and value, and nothing is delivered to it': question 9 of a later delivery. 'Outcome: done'
unfoldable pub falls : Bool → Setup → ℕ → Node → Decision
falls formed σ k y =
    guarded
    (is_well_formed formed ∷ has_node σ k ∷ node_is_up y ∷ [])
    Err
    (accept None Done (NodeTo (with_up false y)) Keep)

-- Node up (node): 'the node resumes with the tag and value it held, and frames waiting for it can be delivered again': question 9 of a later
-- delivery. It names no outcome, and so 'gives done'
unfoldable pub rises : Bool → Setup → ℕ → Node → Decision
rises formed σ k y =
    guarded
    (is_well_formed formed ∷ has_node σ k ∷ node_is_down y ∷ [])
    Err
    (accept None Done (NodeTo (with_up true y)) Keep)
