-- Every step keeps a board well formed: on every well-formed board, reached by a run or not. And fresh makes such boards.
use Prim.Native.Nat.{ℕ, ◌≤◌, ◌<◌}
use mathlib.Core.Bool.{Bool, true, false, ◌&&◌}
use mathlib.Core.List.{[], ◌∷◌}
use mathlib.Core.Path.{refl, ◌≡◌}
use native.Mathlib.Omega.{arith}
use borrow.Author.Tests.{le-leb, leb-true, lt-ltb}
use lib.Dec.{leb}
use Rattle.parts.proofs.FiniteLaws.{and_left, and_right}
use Rattle.parts.specs.AnsweredSet.{insert, member, size}
use Rattle.parts.specs.Limits.{max_life, max_ts}
use Rattle.parts.specs.Parts.{is_asking, is_telling, writes}
use Rattle.parts.specs.Sizes.{ask_size, tell_size}
use Rattle.parts.specs.declared.Console.{Console}
use Rattle.parts.specs.declared.Frame.{Frame}
use Rattle.parts.specs.declared.Frame.TheVariants.{Ack, Ask, Nothing, Put, Reply}
use Rattle.parts.specs.declared.Kind.{Kind}
use Rattle.parts.specs.declared.Kind.TheVariants.{Read, Write}
use Rattle.parts.specs.declared.Node.{Node}
use Rattle.parts.specs.declared.Setup.{Setup}
use Rattle.parts.specs.declared.State.TheVariants.{Down, Idle}
use Rattle.parts.specs.declared.Tag.{Tag}
use Rattle.well_formed.specs.Clauses.{cell_ok, console_ok, frame_ok, mark_ok, node_ok, setup_ok, state_ok, tag_ok, wanted_ok}
use Rattle.decisions.specs.Changes.{acked, asks, hears, restarted, rests, taken, tells, with_up}
use Rattle.decisions.specs.Questions.{has_allowed_consoles, has_allowed_nodes}
use Rattle.board.specs.Boards.{console_at, frame_at, fresh_board, node_at, with_console, with_frame, with_node, with_row}
use Rattle.board.specs.Runs.{BeginRead, BeginWrite, ConsoleDown, Deliver, NodeDown, NodeUp, Restart, Step, step}
use Rattle.board.specs.Steps.{fresh, smallest}
use Rattle.board.specs.WellFormed.{well_formed}
use Rattle.board.specs.declared.Answer.{Answer}
use Rattle.board.specs.declared.Board.{Board}
use Rattle.guarantee.specs.Claim.{◌also◌, All, none}
use Rattle.guarantee.specs.EveryStep.{FreshFormed, StaysFormed}
use Rattle.guarantee.proofs.Laws.Sizes.{Allowed}
use Rattle.guarantee.proofs.Laws.States.{asking_waits, both, telling_waits}
use Rattle.guarantee.proofs.Board.Views.{Begun, ConsolesDown, Delivered, Ranged, Restarted, Switched, Yes, ask, begins, begun, consoles_down, delivered, did_begin, did_console, did_node, did_restart, drop_ack, drop_reply, finish, finish_early, finished, hear, hear_ack, into, no, no_begin, no_console, no_node, no_restart, nodes_down, nodes_up, out, put, questions, restarted_board, restarts, turn, turned, withdraw}
use Rattle.guarantee.proofs.Board.Formed.{Formed, formed, formed_console, formed_frame, formed_node, formed_row, formed_whole, setup_allowed}
use Rattle.guarantee.proofs.Board.Boards.{Good, Passes, board_formed}
use Rattle.guarantee.proofs.Board.Consoles.{acked_ok, asks_ok, hears_kind, hears_ok, next_good, restarted_ok, rests_ok, taken_kind, tells_kind, tells_ok, waits, zero_good}
use Rattle.guarantee.proofs.Run.Starts.{fresh_ok}

-- ---- the clauses of a part in range, from its tag and its state

node_in_lem : (σ : Setup) (k : ℕ) (x : Node) → k < σ.n → Good σ x.tag x.value → node_ok σ k x ≡ true
unfolding node_ok
node_in_lem σ k x l g = rw (lt-ltb k σ.n l) g

console_in_lem : (σ : Setup) (c : ℕ) (x : Console) → c < σ.m → Good σ x.best x.value → Passes σ x.state x → console_ok σ c x ≡ true
unfolding console_ok
console_in_lem σ c x l g p = rw (lt-ltb c σ.m l) (both (both p.mark (le-leb x.life max_life p.life)) (both g p.state))

cell_in : (σ : Setup) (c k : ℕ) (f : Frame) → c < σ.m → k < σ.n → frame_ok σ f ≡ true → cell_ok σ c k f ≡ true
unfolding cell_ok
cell_in σ c k f l i g = rw (lt-ltb c σ.m l, lt-ltb k σ.n i) g

module _ (b : Board) (h : Formed b.setup b) where
  abbrev σ : Setup
  σ = b.setup

  -- an answer with a well-formed board
  abbrev Keeps : Answer → Type 0
  Keeps a = Formed σ a.board

  allowed : Allowed σ
  allowed = setup_allowed σ h.setup

  -- ---- what the parts in range give

  module _ (k : ℕ) (kn : k < σ.n) where
    k_5 : k < 5
    k_5 = omega (arith, allowed.n_5)

    -- a node's tag is good
    node_good : Good σ (node_at b k).tag (node_at b k).value
    unfolding node_ok
    node_good = rw (lt-ltb k σ.n kn) at (h.node k k_5)

    -- node up and node down
    keeps_switch : (u : Bool) → Formed σ (with_node b k (with_up u (node_at b k)))
    unfolding with_up
    keeps_switch u = formed_node b k (with_up u (node_at b k)) (node_in_lem σ k (with_up u (node_at b k)) kn node_good) h

  module _ (c : ℕ) (cm : c < σ.m) where
    abbrev x : Console
    x = console_at b c

    -- the clause of console c, in range
    console_ok_lem : (mark_ok x x.state && leb x.life max_life && (tag_ok σ.m x.best x.value && state_ok σ x x.state)) ≡ true
    unfolding console_ok
    console_ok_lem = rw (lt-ltb c σ.m cm) at (h.console c (omega (arith, allowed.m_8)))

    -- its best tag is good
    best_good : Good σ x.best x.value
    best_good = and_left (tag_ok σ.m x.best x.value) _ (and_right (mark_ok x x.state && leb x.life max_life) _ console_ok_lem)

    -- it passes the tests of its state, of its mark and of its life
    passes : Passes σ x.state x
    passes =
        let before = and_left (mark_ok x x.state && leb x.life max_life) _ console_ok_lem in
        record {
          state = and_right (tag_ok σ.m x.best x.value) _ (and_right (mark_ok x x.state && leb x.life max_life) _ console_ok_lem);
          mark = and_left (mark_ok x x.state) _ before;
          life = leb-true x.life max_life (and_right (mark_ok x x.state) _ before);
        }

    -- a row of frames that pass, and a console that passes
    keeps_row : (f : Frame) (y : Console) → frame_ok σ f ≡ true → Good σ y.best y.value → Passes σ y.state y → Formed σ (with_console (with_row b c f) c y)
    keeps_row f y p g q = formed_console (with_row b c f) c y (console_in_lem σ c y cm g q) (formed_row b c f allowed.n_5 (λ k l. cell_in σ c k f cm l p) h)

    -- begin read and begin write
    keeps_begin : (w : Kind) (v : ℕ) → wanted_ok w v ≡ true → Formed σ (begun b c w v)
    unfolding begun asks frame_ok
    keeps_begin w v o = keeps_row Ask (asks w v x) refl (zero_good σ allowed) (asks_ok σ w v x allowed passes.life o)

    -- console down
    keeps_down : Formed σ (with_console b c (rests Down x))
    unfolding rests
    keeps_down = formed_console b c (rests Down x) (console_in_lem σ c (rests Down x) cm (zero_good σ allowed) (rests_ok σ x passes.life).1) h

    -- restart
    keeps_restart : x.life < max_life → Formed σ (restarted_board b c)
    unfolding restarted_board restarted frame_ok
    keeps_restart l = keeps_row Nothing (restarted x) refl (zero_good σ allowed) (restarted_ok σ x l)

    module _ (k : ℕ) (kn : k < σ.n) where
      -- the frame in the cell has a good tag, if it has one
      frame_ok_lem : (f : Frame) → frame_at b c k ≡ f → frame_ok σ f ≡ true
      unfolding cell_ok
      frame_ok_lem f e = rw (lt-ltb c σ.m cm, lt-ltb k σ.n kn, e) at (h.cell c k (omega (arith, allowed.m_8)) (k_5 k kn))

      -- another such frame in its place
      keeps_frame : (f : Frame) → frame_ok σ f ≡ true → Formed σ (with_frame b c k f)
      keeps_frame f p = formed_frame b c k f (k_5 k kn) (cell_in σ c k f cm kn p) h

      -- the cell empties
      keeps_empty : Formed σ (with_frame b c k Nothing)
      unfolding frame_ok
      keeps_empty = keeps_frame Nothing refl

      -- and the console passes
      keeps_console : (y : Console) → Good σ y.best y.value → Passes σ y.state y → Formed σ (with_console (with_frame b c k Nothing) c y)
      keeps_console y g q = formed_console (with_frame b c k Nothing) c y (console_in_lem σ c y cm g q) keeps_empty

      -- or rests
      keeps_finish : (y : Console) → y.life ≤ max_life → Formed σ (with_console (with_frame b c k Nothing) c (rests Idle y))
      unfolding rests
      keeps_finish y l = keeps_console (rests Idle y) (zero_good σ allowed) (rests_ok σ y l).0

      -- an ask: the reply has the node's tag
      keeps_ask : Formed σ (with_frame b c k (Reply (node_at b k).tag (node_at b k).value))
      unfolding frame_ok
      keeps_ask = keeps_frame (Reply (node_at b k).tag (node_at b k).value) (node_good k kn)

      -- a put: the node has its own tag or the put's
      keeps_put : (u : Tag) (v : ℕ) → frame_at b c k ≡ Put u v → Formed σ (with_node (with_frame b c k Ack) k (taken (node_at b k) u v))
      unfolding frame_ok
      keeps_put u v e = formed_node (with_frame b c k Ack) k (taken (node_at b k) u v)
          (node_in_lem σ k (taken (node_at b k) u v) kn (taken_kind (Good σ) (node_at b k) u v (node_good k kn) (frame_ok_lem (Put u v) e))) (keeps_frame Ack refl)

      -- a reply is taken in
      module _ (u : Tag) (v : ℕ) (e : frame_at b c k ≡ Reply u v) (p : is_asking x.state ≡ true) where
        abbrev y : Console
        y = hears x k u v

        -- its best is the reply's tag or the old one
        heard_good : Good σ y.best y.value
        unfolding frame_ok
        heard_good = hears_kind (Good σ) x k u v best_good (frame_ok_lem (Reply u v) e)

        -- fewer than q answers
        keeps_hear : member x.answered k ≡ false → size (insert x.answered k) < ask_size σ → Formed σ (with_console (with_frame b c k Nothing) c y)
        unfolding hears
        keeps_hear un few = keeps_console y heard_good
            (hears_ok σ x k u v allowed.n_5 kn p (waits σ x x.state passes.state (asking_waits x.state p)) un few passes.life)

        -- a turn: a write's tag is in range since question 10 was answered yes
        keeps_turn : (writes x.state ≡ true → y.best.ts < max_ts) → Formed σ (turned b c y)
        unfolding turned tells hears frame_ok
        keeps_turn next = keeps_row (Put (tells c y).best (tells c y).value) (tells c y) told told
            (tells_ok σ c y allowed p (waits σ x x.state passes.state (asking_waits x.state p)).want passes.life)
          where
            told : Good σ (tells c y).best (tells c y).value
            told = tells_kind (Good σ) c y heard_good (λ w. next_good σ c y x.wanted cm passes.life (next w))

      -- an ack is taken in, fewer than q answers
      keeps_hear_ack : is_telling x.state ≡ true → size (insert x.answered k) < tell_size σ → Formed σ (with_console (with_frame b c k Nothing) c (acked x k))
      unfolding acked
      keeps_hear_ack p few = keeps_console (acked x k) best_good
          (acked_ok σ x k allowed.n_5 kn p (waits σ x x.state passes.state (telling_waits x.state p)) passes.mark few passes.life)

  -- ---- the steps, by what they can answer

  keeps_delivered : {c k : ℕ} {a : Answer} → c < σ.m → k < σ.n → Delivered b c k a → Keeps a
  unfolding finished hears acked
  keeps_delivered cm kn no = h
  keeps_delivered {c} {k} cm kn (ask _) = keeps_ask c cm k kn
  keeps_delivered {c} {k} cm kn (put {u} {v} e) = keeps_put c cm k kn u v e
  keeps_delivered {c} {k} cm kn (hear {u} {v} e p un few) = keeps_hear c cm k kn u v e p un few
  keeps_delivered {c} {k} cm kn (turn {u} {v} e p _ _ next) = keeps_turn c cm k kn u v e p next
  keeps_delivered {c} {k} cm kn (finish_early {u} {v} _ _ _ _ _) = keeps_finish c cm k kn (hears (console_at b c) k u v) (passes c cm).life
  keeps_delivered {c} {k} cm kn (hear_ack _ p _ few) = keeps_hear_ack c cm k kn p few
  keeps_delivered {c} {k} cm kn (finish _ _ _ _) = keeps_finish c cm k kn (acked (console_at b c) k) (passes c cm).life
  keeps_delivered {c} {k} cm kn (withdraw _) = keeps_empty c cm k kn
  keeps_delivered {c} {k} cm kn (drop_reply _ _) = keeps_empty c cm k kn
  keeps_delivered {c} {k} cm kn (drop_ack _ _) = keeps_empty c cm k kn

  keeps_ranged : {c k : ℕ} {a : Answer} → Ranged b c k a → Keeps a
  keeps_ranged out = h
  keeps_ranged (into cm kn d) = keeps_delivered cm kn d

  keeps_begun : {c : ℕ} {w : Kind} {v : ℕ} {a : Answer} → wanted_ok w v ≡ true → Begun b c w v a → Keeps a
  keeps_begun o no_begin = h
  keeps_begun {c} {w} {v} o (did_begin cm _) = keeps_begin c cm w v o

  keeps_switched : {u : Bool} {k : ℕ} {a : Answer} → Switched u b k a → Keeps a
  keeps_switched no_node = h
  keeps_switched {u} {k} (did_node kn) = keeps_switch k kn u

  keeps_console_down : {c : ℕ} {a : Answer} → ConsolesDown b c a → Keeps a
  keeps_console_down no_console = h
  keeps_console_down {c} (did_console cm) = keeps_down c cm

  keeps_restarted : {c : ℕ} {a : Answer} → Restarted b c a → Keeps a
  keeps_restarted no_restart = h
  keeps_restarted {c} (did_restart cm _ l) = keeps_restart c cm l

  -- a refusal hands back b itself
  step_keeps_formed : (s : Step) → Keeps (step b s)
  unfolding step wanted_ok
  step_keeps_formed (BeginRead c) = keeps_begun refl (begins b c Read 0)
  step_keeps_formed (BeginWrite c v) = keeps_begun refl (begins b c Write v)
  step_keeps_formed (Deliver c k) = keeps_ranged (delivered b c k)
  step_keeps_formed (NodeDown k) = keeps_switched (nodes_down b k)
  step_keeps_formed (ConsoleDown c) = keeps_console_down (consoles_down b c)
  step_keeps_formed (NodeUp k) = keeps_switched (nodes_up b k)
  step_keeps_formed (Restart c) = keeps_restarted (restarts b c)

-- ---- the laws

-- a step on a well-formed board hands back a well-formed board
pub step_keeps_well_formed : StaysFormed
step_keeps_well_formed b s h = formed_whole (step b s).board (step_keeps_formed b (formed b h) s)

-- the fresh board of a setup in range
fresh_board_formed : (τ : Setup) → Allowed τ → well_formed (fresh_board τ) ≡ true
fresh_board_formed τ al = board_formed (fresh_board τ) (fresh_ok τ (record { good = λ _ _ g. g; zero_in = zero_good τ al }) al)

-- fresh hands back a well-formed board, accepted or refused
pub fresh_is_well_formed : FreshFormed
unfolding fresh setup_ok
fresh_is_well_formed τ = questions (λ (a : Answer). well_formed a.board ≡ true) _ (λ _. fresh_board_formed smallest (record { n_1 = omega arith; n_5 = omega arith; m_1 = omega arith; m_8 = omega arith })) yes
  where
    yes : All Yes (has_allowed_nodes τ ∷ has_allowed_consoles τ ∷ []) → well_formed (fresh_board τ) ≡ true
    yes (n also m also none) = fresh_board_formed τ (setup_allowed τ (both n m))
