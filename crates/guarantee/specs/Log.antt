-- A run and its log: document 01, 'What demand 3 speaks of', with node up (document 02, Paper 2) and restart (Paper 7),
-- under either release (Paper 4). The log is built from the steps and their answers alone.
use Rattle.std.specs.Prelude.{ℕ, ◌+◌, Bool, true, false, cond, ◌&&◌, List, [], ◌∷◌, map, eqb}
use Rattle.parts.specs.declared.Setup.{Setup}
use Rattle.parts.specs.declared.Tag.{Tag}
use Rattle.parts.specs.Finite.{one}
use Rattle.parts.specs.Outcomes.{accepted}
use Rattle.parts.specs.Tags.{zero_tag}
use Rattle.board.specs.declared.Board.{Board}
use Rattle.parts.specs.declared.Outcome.{Outcome}
use Rattle.parts.specs.declared.Outcome.TheVariants.{Refused, Done, Handed, Heard, Turned, Finished, Discarded}
use Rattle.board.specs.declared.Answer.{Answer}
use Rattle.board.specs.Steps.{fresh}
use Rattle.board.specs.Runs.{Step, BeginRead, BeginWrite, Deliver, NodeDown, ConsoleDown, NodeUp, Restart, step}

-- ---- operations

-- 'It is open until the first later step that closes it': complete if that gave finished, or lost with its console
pub data Status : Type 0 where
  Open : Status
  Complete : Status
  Lost : Status

abbrev pub is_open : Status → Bool
is_open Open = true
is_open Complete = false
is_open Lost = false

-- One operation. Places are counted from 1. ended is the place of its finish, 0 without one; tag and value are the final
-- ones, (0, 0) and 0 without a finish. took counts its deliveries. turned says whether one of them gave turned: the proof
-- counts writes by it.
pub record Op : Type 0 where
  pub console : ℕ
  pub wrote : Bool
  pub began : ℕ
  pub took : ℕ
  pub turned : Bool
  pub status : Status
  pub ended : ℕ
  pub tag : Tag
  pub value : ℕ

-- ---- what an accepted step at place i does to an operation

-- 'An operation begins with an accepted begin'
abbrev pub opened : ℕ → ℕ → Bool → Op
opened i c w = record { console = c; wrote = w; began = i; took = 0; turned = false; status = Open; ended = 0; tag = zero_tag; value = 0 }

-- 'counted are the accepted delivers naming the operation's console, discarded ones too'
abbrev pub counted : Op → Op
counted x = record { console = x.console; wrote = x.wrote; began = x.began; took = x.took + 1; turned = x.turned; status = x.status; ended = x.ended; tag = x.tag; value = x.value }

-- counted, and it tells from now on
abbrev pub turning : Op → Op
turning x = record { console = x.console; wrote = x.wrote; began = x.began; took = x.took + 1; turned = true; status = x.status; ended = x.ended; tag = x.tag; value = x.value }

-- counted, and closed: 'a deliver naming its console that gives finished, whose tag is its final tag'
abbrev pub finishing : ℕ → Tag → ℕ → Op → Op
finishing i t v x = record { console = x.console; wrote = x.wrote; began = x.began; took = x.took + 1; turned = x.turned; status = Complete; ended = i; tag = t; value = v }

-- closed: 'an accepted console down of its console, which ends it unfinished'
abbrev pub losing : Op → Op
losing x = record { console = x.console; wrote = x.wrote; began = x.began; took = x.took; turned = x.turned; status = Lost; ended = x.ended; tag = x.tag; value = x.value }

-- an accepted deliver naming the operation's console, by its outcome; a refused one does not come here
abbrev pub delivering : ℕ → Outcome → Op → Op
delivering i Refused x = x
delivering i Done x = counted x
delivering i Handed x = counted x
delivering i Heard x = counted x
delivering i Turned x = turning x
delivering i (Finished t v) x = finishing i t v x
delivering i Discarded x = counted x

-- whether the operation is open, and console c's
abbrev pub is_open_at : ℕ → Op → Bool
is_open_at c x = is_open x.status && eqb x.console c

-- the open operation of console c changes, all others stay
unfoldable pub of_console : ℕ → (Op → Op) → Op → Op
of_console c f x = cond (is_open_at c x) (f x) x

-- ---- what an accepted step at place i does to the log, newest operation first

unfoldable pub noted : ℕ → Step → Outcome → List Op → List Op
noted i (BeginRead c) o ops = opened i c false ∷ ops
noted i (BeginWrite c v) o ops = opened i c true ∷ ops
noted i (Deliver c k) o ops = map (of_console c (delivering i o)) ops
noted i (NodeDown k) o ops = ops
noted i (ConsoleDown c) o ops = map (of_console c losing) ops
noted i (NodeUp k) o ops = ops
noted i (Restart c) o ops = ops

-- 'A machine is up until an accepted node down of it', and from then on by the last accepted node down or node up of it
unfoldable pub up_after : Step → (ℕ → Bool) → ℕ → Bool
up_after (BeginRead c) u j = u j
up_after (BeginWrite c v) u j = u j
up_after (Deliver c k) u j = u j
up_after (NodeDown k) u j = cond (eqb j k) false (u j)
up_after (ConsoleDown c) u j = u j
up_after (NodeUp k) u j = cond (eqb j k) true (u j)
up_after (Restart c) u j = u j

-- ---- runs

-- where a run stands: the place of the next step, the board that the last one handed back, the log, the machines up
pub record Run : Type 0 where
  pub place : ℕ
  pub board : Board
  pub ops : List Op
  pub up : ℕ → Bool

-- the run after a step with its answer; a refused one leaves the log as it is
abbrev pub follow : Run → Step → Answer → Run
follow r s a =
    record {
      place = r.place + 1;
      board = a.board;
      ops = cond (accepted a.outcome) (noted r.place s a.outcome r.ops) r.ops;
      up = cond (accepted a.outcome) (up_after s r.up) r.up;
    }

unfoldable pub next : Run → Step → Run
next r s = follow r s (step r.board s)

unfoldable pub after : Run → List Step → Run
after r [] = r
after r (s ∷ ss) = after (next r s) ss

-- 'on the board that fresh made'
unfoldable pub start : Setup → Run
start σ = record { place = 1; board = (fresh σ).board; ops = []; up = λ _. true }

-- 'A run from a fresh board is a list of the five kinds of step'; node up and restart 'join' them
unfoldable pub run : Setup → List Step → Run
run σ ss = after (start σ) ss

-- how many operations of the log pass the test
unfoldable pub tally : (Op → Bool) → List Op → ℕ
tally p [] = 0
tally p (x ∷ l) = one (p x) + tally p l

-- 'A write is begun by an accepted begin write'
unfoldable pub writes_begun : Run → ℕ
writes_begun r = tally (λ x. x.wrote) r.ops
