-- How the steps change a node and a console (document 01, 'The steps'; the mark: document 02, Paper 3; lives: Paper 7).
-- Each is a function of the part as it was, so that a field that is to stay can stay.
use Rattle.std.specs.Prelude.{ℕ, ◌+◌, Bool, false, cond, not, ◌&&◌, ◌||◌, eqb}
use Rattle.parts.specs.declared.Tag.{Tag}
use Rattle.parts.specs.declared.Node.{Node}
use Rattle.parts.specs.declared.Kind.{Kind}
use Rattle.parts.specs.declared.State.{State}
use Rattle.parts.specs.declared.State.TheVariants.{Idle, Asking}
use Rattle.parts.specs.declared.Console.{Console}
use Rattle.std.specs.declared.cmp.Ordering.{Ordering}
use Rattle.std.specs.Ordering.{is_eq}
use Rattle.parts.specs.Tags.{zero_tag, greater, compared}
use Rattle.parts.specs.AnsweredSet.{member, insert}
use Rattle.parts.specs.Parts.{writes, to_telling}
use Rattle.decisions.specs.declared.TakenIn.{TakenIn}

-- ---- nodes

-- up or down, 'the node keeps tag and value'
unfoldable pub with_up : Bool → Node → Node
with_up u x = record { up = u; tag = x.tag; value = x.value }

-- Put: 'if the put's tag is greater than the node's, the node takes tag and value; otherwise it keeps its own'
unfoldable pub taken : Node → Tag → ℕ → Node
taken x t v = cond (greater t x.tag) (record { up = x.up; tag = t; value = v }) x

-- ---- consoles

-- a console in state s and life l, with nothing of an operation
abbrev resting : State → ℕ → Console
resting s l = record { state = s; wanted = 0; answered = 0; best = zero_tag; value = 0; alike = false; life = l }

-- without an operation: idle after a finish, where 'its own fields clear', or down, 'its operation gone'. It 'keeps its
-- current life'
unfoldable pub rests : State → Console → Console
rests s x = resting s x.life

-- 'Restart makes a down console idle with its life one higher'
unfoldable pub restarted : Console → Console
restarted x = resting Idle (x.life + 1)

-- begin: 'The console becomes asking, with nothing answered and best (0, 0), 0'; 'the wanted value (0 for a read)'
unfoldable pub asks : Kind → ℕ → Console → Console
asks w v x = record { state = Asking w; wanted = v; answered = 0; best = zero_tag; value = 0; alike = false; life = x.life }

-- 'at an asking console that has no answer yet from this node', and the same of a telling one: p tests the phase
unfoldable pub awaits : (State → Bool) → Console → ℕ → Bool
awaits p x k = p x.state && not (member x.answered k)

-- the mark 'all alike so far', 'set by the first answer of asking and cleared by any differing tag': once the reply that
-- compared so is taken in
unfoldable pub still_alike : Console → Ordering → Bool
still_alike x how = eqb x.answered 0 || x.alike && is_eq how

-- Reply: 'the node joins the answered set, and best becomes the greater of best and the reply; on equal tags best keeps its value'
unfoldable pub hears : Console → ℕ → Tag → ℕ → Console
hears x k t v =
    record {
      state = x.state;
      wanted = x.wanted;
      answered = insert x.answered k;
      best = cond (greater t x.best) t x.best;
      value = cond (greater t x.best) v x.value;
      alike = still_alike x (compared t x.best);
      life = x.life;
    }

-- 'Taking a reply into the best now says lower, same or higher (its tag against the old best)'
unfoldable pub takes_in : Console → ℕ → Tag → ℕ → TakenIn
takes_in x k t v = record { console = hears x k t v; compared = compared t x.best }

-- the tag that a write of console c chooses: '(best ts + 1, own number)'; 'A write uses the current life'
unfoldable pub next_tag : ℕ → Console → Tag
next_tag c x = record { ts = x.best.ts + 1; console = c; life = x.life }

-- 'the console becomes telling: a read keeps best; a write takes the tag (best ts + 1, own number) and the wanted value
-- as its best. The answered set empties, the kind and wanted value stay'; the mark 'is off in the telling .. states'
unfoldable pub tells : ℕ → Console → Console
tells c x =
    record {
      state = to_telling x.state;
      wanted = x.wanted;
      answered = 0;
      best = cond (writes x.state) (next_tag c x) x.best;
      value = cond (writes x.state) x.wanted x.value;
      alike = false;
      life = x.life;
    }

-- Ack: 'the node joins the set'
unfoldable pub acked : Console → ℕ → Console
acked x k = record { state = x.state; wanted = x.wanted; answered = insert x.answered k; best = x.best; value = x.value; alike = x.alike; life = x.life }
