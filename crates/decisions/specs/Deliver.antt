-- Deliver (document 01, 'The steps'), as a decision: what becomes of console c, which is x, of node k, which is y, and of their cell,
-- which holds f, on a board that was made under the setup σ. One definition for each kind of frame. Only a reply that is taken in says how its tag compared
-- (document 02, Paper 3), and it may finish a read early (Paper 4). An ask or a put of a down console is withdrawn (Paper 6).
use Rattle.std.specs.Prelude.{ℕ, Bool, false, cond, not, ◌&&◌, [], ◌∷◌, ltb, Option, None, Some, Ok, Err}
use Rattle.std.specs.declared.cmp.Ordering.{Ordering}
use Rattle.parts.specs.declared.Tag.{Tag}
use Rattle.parts.specs.declared.Frame.{Frame}
use Rattle.parts.specs.declared.Frame.TheVariants.{Nothing, Ask, Reply, Put, Ack}
use Rattle.parts.specs.declared.Node.{Node}
use Rattle.parts.specs.declared.State.TheVariants.{Idle}
use Rattle.parts.specs.declared.Console.{Console}
use Rattle.parts.specs.declared.Setup.{Setup}
use Rattle.parts.specs.declared.Outcome.TheVariants.{Handed, Heard, Turned, Finished, Discarded}
use Rattle.parts.specs.Outcomes.{accepted}
use Rattle.parts.specs.AnsweredSet.{size}
use Rattle.parts.specs.Sizes.{ask_size, tell_size}
use Rattle.parts.specs.Parts.{goes_to_node, is_asking, is_telling, is_two, is_up, writes}
use Rattle.decisions.specs.declared.TakenIn.{TakenIn}
use Rattle.decisions.specs.declared.Part.TheVariants.{Neither, ConsoleTo, NodeTo}
use Rattle.decisions.specs.declared.Sent.TheVariants.{One, Row}
use Rattle.decisions.specs.Changes.{taken, rests, awaits, takes_in, tells, acked}
use Rattle.decisions.specs.Steps.{Decision, accept}
use Rattle.decisions.specs.Questions.{guarded, is_well_formed, has_console, has_node, holds_frame, node_is_up, has_next_ts}

-- Ask, of a node that is up, since 'nothing is delivered to' one that is down: 'the cell becomes reply with the node's tag and value. Outcome:
-- handed'
unfoldable pub on_ask : Node → Decision
on_ask y = guarded (node_is_up y ∷ []) Err (accept None Handed Neither (One (Reply y.tag y.value)))

-- Put, of a node that is up: it takes the greater tag. 'The cell becomes ack. Outcome: handed'
unfoldable pub on_put : Node → Tag → ℕ → Decision
on_put y t v = guarded (node_is_up y ∷ []) Err (accept None Handed (NodeTo (taken y t v)) (One Ack))

-- 'Any other reply or ack .. : the cell empties and nothing else changes. Outcome: discarded'; the same of a frame that is withdrawn
unfoldable pub discards : Decision
discards = accept None Discarded Neither (One Nothing)

-- 'the cell empties', and 'the outcome is heard'; x is the console with the answer taken in, and how says how a reply compared: none for an ack
unfoldable pub heard : Option Ordering → Console → Decision
heard how x = accept how Heard (ConsoleTo x) (One Nothing)

-- 'the cell empties', the console, which with the answer taken in is x, 'becomes idle and its own fields clear; outcome: finished,
-- with the best tag and value it had. Its other cells keep their frames'
unfoldable pub finished : Option Ordering → Console → Decision
finished how x = accept how (Finished x.best x.value) (ConsoleTo (rests Idle x)) (One Nothing)

-- 'the console becomes telling .. all n cells become put with that tag and value. Outcome: turned'; x is the console with the reply
-- taken in
unfoldable pub turned : ℕ → Option Ordering → Console → Decision
turned c how x = accept how Turned (ConsoleTo (tells c x)) (Row (Put (tells c x).best (tells c x).value))

-- 'From release 2, a read whose q replies all carry the same tag (the mark still on) finishes at that delivery'; x is the console
-- with the q-th reply taken in
unfoldable pub finishes_early : Setup → Console → Bool
finishes_early σ x = is_two σ.release && (not (writes x.state) && x.alike)

-- the reply r is taken in: 'With fewer than q answers the outcome is heard. At q answers the console becomes telling .. Outcome:
-- turned', unless it finishes early and 'sends no put'. All three pass on how its tag compared
unfoldable pub replied : Setup → ℕ → TakenIn → Decision
replied σ c r =
    cond (ltb (size r.console.answered) (ask_size σ))
    (heard (Some r.compared) r.console)
    (cond (finishes_early σ r.console)
    (finished (Some r.compared) r.console)
    (guarded (has_next_ts r.console ∷ []) Err (turned c (Some r.compared) r.console)))

-- Reply, 'at an asking console that has no answer yet from this node'
unfoldable pub on_reply : Setup → ℕ → ℕ → Console → Tag → ℕ → Decision
on_reply σ c k x t v = cond (awaits is_asking x k) (replied σ c (takes_in x k t v)) discards

-- an ack that is taken in, with which the console is x: 'Below q: heard. At q the console becomes idle .. outcome: finished'
unfoldable pub acknowledged : Setup → Console → Decision
acknowledged σ x = cond (ltb (size x.answered) (tell_size σ)) (heard None x) (finished None x)

-- Ack, 'at a telling console that has no answer yet from this node'
unfoldable pub on_ack : Setup → ℕ → Console → Decision
on_ack σ k x = cond (awaits is_telling x k) (acknowledged σ (acked x k)) discards

-- by the frame in the cell; an empty cell does not come here, since question 8 refuses it, nor a frame that is withdrawn
unfoldable pub on_frame : Setup → ℕ → ℕ → Console → Node → Frame → Decision
on_frame σ c k x y Nothing = discards
on_frame σ c k x y Ask = on_ask y
on_frame σ c k x y (Reply t v) = on_reply σ c k x t v
on_frame σ c k x y (Put t v) = on_put y t v
on_frame σ c k x y Ack = on_ack σ k x

-- 'an ask or a put of a down console' (document 02, Paper 6)
abbrev pub is_withdrawn : Console → Frame → Bool
is_withdrawn x f = goes_to_node f && not (is_up x.state)

-- 'Deliver (console, node) takes the frame in that cell'; delivering one that is withdrawn 'empties the cell, outcome discarded. It is
-- decided after question 8 and before question 9'. formed says whether the board is well formed
unfoldable pub delivered : Bool → Setup → ℕ → ℕ → Console → Node → Frame → Decision
delivered formed σ c k x y f =
    guarded
    (is_well_formed formed ∷ has_console σ c ∷ has_node σ k ∷ holds_frame f ∷ [])
    Err
    (cond (is_withdrawn x f) discards (on_frame σ c k x y f))

-- a decision by which the step is accepted
abbrev pub accepts : Decision → Bool
accepts (Err r) = false
accepts (Ok d) = accepted d.outcome
