-- What the begins, the downs, node up, restart and a fresh board do.
use Prim.Native.Nat.{ℕ, zero, suc, ◌≤◌, ◌<◌}
use mathlib.Core.Bool.{Bool, true, cond}
use mathlib.Core.Path.{refl, ap, ◌≡◌}
use native.Mathlib.Omega.{arith}
use borrow.Author.Tests.{ne_eqb, eq-eqb}
use lib.Dec.{eqb}
use lib.ListN.{get_or, replicate}
use Rattle.parts.specs.Limits.{max_life}
use Rattle.parts.specs.Parts.{cell_of, console_in, frame_in, fresh_node, idle_console, node_in, cell_index}
use Rattle.parts.specs.declared.Cell.{Cell}
use Rattle.parts.specs.declared.Console.{Console}
use Rattle.parts.specs.declared.Frame.TheVariants.{Ask, Nothing}
use Rattle.parts.specs.declared.Kind.{Kind}
use Rattle.parts.specs.declared.Setup.{Setup}
use Rattle.parts.specs.declared.State.TheVariants.{Asking, Down, Idle}
use Rattle.well_formed.specs.Clauses.{is_zero, mark_ok, rest_ok, state_ok, wanted_ok}
use Rattle.decisions.specs.Changes.{asks, restarted, rests, with_up}
use Rattle.board.specs.Boards.{console_at, frame_at, fresh_board, node_at, with_console, with_node, with_row}
use Rattle.board.specs.declared.Board.{Board}
use Rattle.guarantee.proofs.Laws.Sets.{member_empty, power_pos}
use Rattle.guarantee.proofs.Laws.Sizes.{Allowed}
use Rattle.guarantee.proofs.Laws.States.{contra}
use Rattle.guarantee.proofs.Board.Shapes.{console_same, nodes_with, row_beyond, row_same, shape_row}
use Rattle.guarantee.proofs.Board.Views.{begun, restarted_board}
use Rattle.guarantee.proofs.Board.Rows.{Floor, Held, RowOk, begun_floor, grow_row, rest_row, unasked}
use Rattle.guarantee.proofs.Board.Boards.{Beside, BoardOk, Passes, TagKind, beside_console, beside_node, beside_row, beside_trans, kept, same_floor, same_row, tags}
use Rattle.guarantee.proofs.Board.Consoles.{Fair, asks_ok, console_state, restarted_ok, rests_ok}
use Rattle.guarantee.proofs.Delivery.Effects.{RowFloor}

-- ---- a console begins

pub record Begins (K : TagKind) (σ : Setup) (c : ℕ) (w : Kind) (b b' : Board) : Type 0 where
  pub ok : BoardOk K σ b'
  pub beside : Beside σ c b b'
  pub ups : (j : ℕ) → (node_at b' j).up ≡ (node_at b j).up
  pub state : (console_at b' c).state ≡ Asking w
  pub floor : (t : ℕ) → Held σ (tags b) t → RowFloor σ b' c t

module _ {K : TagKind} {σ : Setup} (fair : Fair K σ) (b : Board) (c : ℕ) (h : BoardOk K σ b) (cm : c < σ.m) where
  c_below : c < 8
  c_below = omega (arith, h.shape.allowed.m_8)

  module _ (w : Kind) (v : ℕ) where
    abbrev x₀ : Console
    x₀ = asks w v (console_at b c)

    begin_console : console_at (begun b c w v) c ≡ x₀
    unfolding begun
    begin_console = console_same (with_row b c Ask) (shape_row b c Ask h.shape) c x₀ c_below

    begin_state : (console_at (begun b c w v) c).state ≡ Asking w
    unfolding asks
    begin_state = ap (λ (y : Console). y.state) begin_console

    begin_side : Beside σ c b (begun b c w v)
    unfolding begun
    begin_side = beside_trans (beside_row b c Ask h.shape) (beside_console (with_row b c Ask) c x₀)

    begin_frame : (j : ℕ) → j < σ.n → frame_at (begun b c w v) c j ≡ Ask
    unfolding begun frame_at with_console
    begin_frame j l = row_same b h.shape c j Ask cm l

    begin_beyond : (j : ℕ) → σ.n ≤ j → j < 5 → frame_at (begun b c w v) c j ≡ frame_at b c j
    unfolding begun frame_at with_console
    begin_beyond j l i = row_beyond b h.shape c j Ask l

    begin_row : RowOk σ x₀ (frame_at (begun b c w v) c) (tags b)
    unfolding asks
    begin_row = record {
      small = power_pos σ.n h.shape.allowed.n_5;
      asking = λ p k l. rw (begin_frame k l, member_empty k (omega (arith, h.shape.allowed.n_5))) unasked;
      telling = λ p. absurd (contra p refl);
    }

    begin_floor : (t : ℕ) → Held σ (tags b) t → Floor σ x₀ (frame_at (begun b c w v) c) (tags b) t
    unfolding asks
    begin_floor t g = begun_floor σ x₀ (frame_at (begun b c w v) c) (tags b) t h.shape.allowed.n_5 refl refl begin_frame g

    begin_best : K x₀.best x₀.value
    unfolding asks
    begin_best = fair.zero_in

    begin_ok_state : wanted_ok w v ≡ true → Passes σ (console_at (begun b c w v) c).state (console_at (begun b c w v) c)
    unfolding asks
    begin_ok_state good = console_state σ begin_console refl (asks_ok σ w v (console_at b c) h.shape.allowed (h.console_in_lem c cm).life good)

    pub begin_effect : wanted_ok w v ≡ true → Begins K σ c w b (begun b c w v)
    unfolding begun node_at with_console with_row
    begin_effect good = record {
      ok = kept c b (begun b c w v) cm begin_side h h.tagged.node (rw begin_console begin_best) (begin_ok_state good)
          (λ j l. rw (begin_frame j l) tt) begin_beyond (same_row σ begin_console (λ _ _. refl) begin_row);
      beside = begin_side;
      ups = λ _. refl;
      state = begin_state;
      floor = λ t g. same_floor σ begin_console (λ _ _. refl) (begin_floor t g);
    }

  -- ---- a console goes down

  abbrev pub downed : Board
  downed = with_console b c (rests Down (console_at b c))

  down_console : console_at downed c ≡ rests Down (console_at b c)
  down_console = console_same b h.shape c (rests Down (console_at b c)) c_below

  pub down_state : (console_at downed c).state ≡ Down
  unfolding rests
  down_state = ap (λ (y : Console). y.state) down_console

  down_best : K (rests Down (console_at b c)).best (rests Down (console_at b c)).value
  unfolding rests
  down_best = fair.zero_in

  down_ok_state : Passes σ (console_at downed c).state (console_at downed c)
  unfolding rests
  down_ok_state = console_state σ down_console refl (rests_ok σ (console_at b c) (h.console_in_lem c cm).life).1

  down_row : RowOk σ (rests Down (console_at b c)) (frame_at b c) (tags b)
  unfolding rests
  down_row = rest_row σ (rests Down (console_at b c)) (frame_at b c) (tags b) h.shape.allowed.n_5 refl refl

  pub down_ok : BoardOk K σ downed
  unfolding node_at frame_at with_console
  down_ok = kept c b downed cm (beside_console b c (rests Down (console_at b c))) h h.tagged.node (rw down_console down_best) down_ok_state
      (λ j l. h.tagged.frame c j cm l) (λ _ _ _. refl) (same_row σ down_console (λ _ _. refl) down_row)

  pub down_ups : (j : ℕ) → (node_at downed j).up ≡ (node_at b j).up
  unfolding node_at with_console
  down_ups j = refl

  -- ---- a console is restarted: it rests, and its row is empty

  restart_console : console_at (restarted_board b c) c ≡ restarted (console_at b c)
  unfolding restarted_board
  restart_console = console_same (with_row b c Nothing) (shape_row b c Nothing h.shape) c (restarted (console_at b c)) c_below

  pub restart_state : (console_at (restarted_board b c) c).state ≡ Idle
  unfolding restarted
  restart_state = ap (λ (y : Console). y.state) restart_console

  pub restart_side : Beside σ c b (restarted_board b c)
  unfolding restarted_board
  restart_side = beside_trans (beside_row b c Nothing h.shape) (beside_console (with_row b c Nothing) c (restarted (console_at b c)))

  restart_frame : (j : ℕ) → j < σ.n → frame_at (restarted_board b c) c j ≡ Nothing
  unfolding restarted_board frame_at with_console
  restart_frame j l = row_same b h.shape c j Nothing cm l

  restart_beyond : (j : ℕ) → σ.n ≤ j → j < 5 → frame_at (restarted_board b c) c j ≡ frame_at b c j
  unfolding restarted_board frame_at with_console
  restart_beyond j l i = row_beyond b h.shape c j Nothing l

  restart_best : K (restarted (console_at b c)).best (restarted (console_at b c)).value
  unfolding restarted
  restart_best = fair.zero_in

  restart_row : RowOk σ (restarted (console_at b c)) (frame_at (restarted_board b c) c) (tags b)
  unfolding restarted
  restart_row = rest_row σ (restarted (console_at b c)) (frame_at (restarted_board b c) c) (tags b) h.shape.allowed.n_5 refl refl

  restart_passes : (console_at b c).life < max_life → Passes σ (console_at (restarted_board b c) c).state (console_at (restarted_board b c) c)
  unfolding restarted
  restart_passes l = console_state σ restart_console refl (restarted_ok σ (console_at b c) l)

  pub restart_ok : (console_at b c).life < max_life → BoardOk K σ (restarted_board b c)
  unfolding restarted_board node_at with_console with_row
  restart_ok l = kept c b (restarted_board b c) cm restart_side h h.tagged.node (rw restart_console restart_best) (restart_passes l)
      (λ j i. rw (restart_frame j i) tt) restart_beyond (same_row σ restart_console (λ _ _. refl) restart_row)

  pub restart_ups : (j : ℕ) → (node_at (restarted_board b c) j).up ≡ (node_at b j).up
  unfolding restarted_board node_at with_console with_row
  restart_ups j = refl

-- ---- a node turns up or down: nothing of any row changes

module _ {K : TagKind} {σ : Setup} (b : Board) (u : Bool) (k : ℕ) (h : BoardOk K σ b) (kn : k < σ.n) where
  abbrev b' : Board
  b' = with_node b k (with_up u (node_at b k))

  pub node_side : (c : ℕ) → Beside σ c b b'
  unfolding with_up
  node_side c = beside_node b c k (with_up u (node_at b k)) h.shape kn (omega arith)

  pub node_ok_lem : BoardOk K σ b'
  unfolding console_at frame_at with_node with_up
  node_ok_lem = kept 0 b b' h.shape.allowed.m_1 (node_side 0) h
      (nodes_with b k (with_up u (node_at b k)) (λ j y. j < σ.n → K y.tag y.value) h.shape (omega (arith, h.shape.allowed.n_5)) (h.tagged.node k) (λ j _. h.tagged.node j))
      (h.tagged.best 0 h.shape.allowed.m_1) (h.console_in_lem 0 h.shape.allowed.m_1) (λ j l. h.tagged.frame 0 j h.shape.allowed.m_1 l) (λ _ _ _. refl)
      (grow_row σ (console_at b 0) (frame_at b 0) (tags b) (tags b') (node_side 0).grow (h.rows 0 h.shape.allowed.m_1))

  pub node_ups : (j : ℕ) → (node_at b' j).up ≡ cond (eqb j k) u (node_at b j).up
  unfolding with_up
  node_ups = nodes_with b k (with_up u (node_at b k)) (λ j y. y.up ≡ cond (eqb j k) u (node_at b j).up) h.shape (omega (arith, h.shape.allowed.n_5))
      (rw (eq-eqb k k refl)) (λ j e. rw (ne_eqb j k e))

-- ---- a fresh board

get_or_replicate_same : {A : Type 0} (n k : ℕ) (a : A) → get_or (replicate n a) k a ≡ a
get_or_replicate_same zero k a = refl
get_or_replicate_same (suc n) zero a = refl
get_or_replicate_same (suc n) (suc k) a = get_or_replicate_same n k a

module _ (σ : Setup) where
  pub fresh_node_lem : (k : ℕ) → node_at (fresh_board σ) k ≡ fresh_node
  unfolding node_at node_in fresh_board
  fresh_node_lem k = get_or_replicate_same 5 k fresh_node

  pub fresh_console : (c : ℕ) → console_at (fresh_board σ) c ≡ idle_console
  unfolding console_at console_in fresh_board
  fresh_console c = get_or_replicate_same 8 c idle_console

  fresh_frame : (c k : ℕ) → frame_at (fresh_board σ) c k ≡ Nothing
  unfolding frame_at frame_in fresh_board
  fresh_frame c k = ap (λ (x : Cell). x.frame) (get_or_replicate_same 40 (cell_index c k) (cell_of Nothing))

  fresh_state : Passes σ Idle idle_console
  unfolding state_ok rest_ok is_zero mark_ok
  fresh_state = record { state = refl; mark = refl; life = omega arith }

  pub fresh_ok : {K : TagKind} → Fair K σ → Allowed σ → BoardOk K σ (fresh_board σ)
  unfolding fresh_board
  fresh_ok fair al = record {
    shape = record { setup_is = refl; allowed = al; nodes_5 = refl; consoles_8 = refl; cells_40 = refl };
    tagged = record {
      node = λ k l. rw (fresh_node_lem k) fair.zero_in;
      best = λ c l. rw (fresh_console c) fair.zero_in;
      frame = λ c k l i. rw (fresh_frame c k) tt;
    };
    console_in_lem = λ c l. console_state σ (fresh_console c) refl fresh_state;
    node_out = λ k l. fresh_node_lem k;
    console_out = λ c l. fresh_console c;
    frame_out = λ c k l o. fresh_frame c k;
    rows = λ c l. same_row σ (fresh_console c) (λ _ _. refl) (rest_row σ idle_console (frame_at (fresh_board σ) c) (tags (fresh_board σ)) al.n_5 refl refl);
  }
