-- An ask or a put is delivered to its node, or a frame is thrown away: one that is withdrawn, or one that its console does not wait for.
use Prim.Native.Nat.{ℕ, ◌+◌, ◌≤◌, ◌<◌}
use mathlib.Core.Bool.{true, false, not}
use mathlib.Core.Logic.{inl, inr, ◌⊎◌}
use mathlib.Core.Path.{refl, ap, ◌≡◌}
use native.Mathlib.Omega.{arith}
use Rattle.parts.specs.AnsweredSet.{member}
use Rattle.parts.specs.Parts.{is_asking, is_telling, is_up, is_waiting}
use Rattle.parts.specs.declared.Frame.{Frame}
use Rattle.parts.specs.declared.Frame.TheVariants.{Ack, Ask, Nothing, Put, Reply}
use Rattle.parts.specs.declared.Node.{Node}
use Rattle.parts.specs.declared.Outcome.{Outcome}
use Rattle.parts.specs.declared.Outcome.TheVariants.{Discarded, Handed}
use Rattle.parts.specs.declared.Setup.{Setup}
use Rattle.parts.specs.declared.Tag.{Tag}
use Rattle.decisions.specs.Changes.{taken}
use Rattle.board.specs.Answers.{answer}
use Rattle.board.specs.Boards.{console_at, frame_at, node_at, with_frame, with_node}
use Rattle.board.specs.declared.Board.{Board}
use Rattle.guarantee.proofs.Laws.Tags.{key}
use Rattle.guarantee.proofs.Laws.States.{asking_waits, contra, telling_waits, waiting_cases, waiting_up}
use Rattle.guarantee.proofs.Board.Shapes.{node_same, nodes_with, shape_frame}
use Rattle.guarantee.proofs.Board.Rows.{AskFrame, TellFrame, ask_not_ack, ask_not_put, ask_replied, frame_floor, frame_row, grow_floor, grow_row, not_reply, put_took, tell_grow, tell_not_ask, tell_not_reply}
use Rattle.guarantee.proofs.Board.Boards.{Beside, FrameHas, TagKind, beside_frame, beside_node, beside_trans, kept, tags}
use Rattle.guarantee.proofs.Board.Consoles.{taken_key, taken_kind, taken_up}
use Rattle.guarantee.proofs.Delivery.Spent.{sent, spent, spent_frame}
use Rattle.guarantee.proofs.Delivery.Effects.{Delivery, Effect, beyond_with, change, five, frames_with, goes_on, going, k_5, put_kind, row_of, small_of, spent_at, unanswered}

module _ {K : TagKind} {σ : Setup} {b : Board} {c k : ℕ} (d : Delivery K σ b c k) where
  -- the frame alone changes: the node's tag is as before
  frame_effect : (f : Frame) (o : Outcome) → goes_on o ≡ true → FrameHas K f
      → ((u : Tag) (v : ℕ) → f ≡ Reply u v → key (tags b k) ≤ key u)
      → (is_asking (console_at b c).state ≡ true → AskFrame (console_at b c).alike (console_at b c).best (tags b k) (member (console_at b c).answered k) f)
      → (is_telling (console_at b c).state ≡ true → TellFrame (console_at b c).best (tags b k) (member (console_at b c).answered k) f)
      → (is_waiting (console_at b c).state ≡ true → (member (console_at b c).answered k ≡ false) × (sent (frame_at b c k) ≡ 0) × (sent f ≡ 1))
      → Effect K σ c b (answer o (with_frame b c k f))
  unfolding with_frame console_at node_at
  frame_effect f o goes good high asking telling s = record {
    ok = kept c b (with_frame b c k f) d.c_m (beside_frame b c k f (k_5 d)) d.ok d.ok.tagged.node (d.ok.tagged.best c d.c_m) (d.ok.console_in_lem c d.c_m)
        (frames_with d f good) (beyond_with d f)
        (frame_row σ (five d) k d.k_n (console_at b c) f (frame_at b c) (frame_at (with_frame b c k f) c) (tags b) (change d f) asking telling (row_of d));
    beside = beside_frame b c k f (k_5 d);
    ups = λ _. refl;
    own = going goes (record {
      state = refl;
      floor = λ t. frame_floor σ (five d) k d.k_n (console_at b c) f (frame_at b c) (frame_at (with_frame b c k f) c) (tags b) (change d f) high t;
      spends = λ w. omega (arith, spent_frame σ k (console_at b c) f (frame_at b c) (frame_at (with_frame b c k f) c) (five d) d.k_n (s w).0 (s w).1 (s w).2 (change d f));
    });
  }

  -- ---- an ask

  pub ask_effect : frame_at b c k ≡ Ask → Effect K σ c b (answer Handed (with_frame b c k (Reply (node_at b k).tag (node_at b k).value)))
  ask_effect e = frame_effect (Reply (node_at b k).tag (node_at b k).value) Handed refl (d.ok.tagged.node k d.k_n)
      (λ u v q. let z : tags b k ≡ u = cc in omega (arith, ap key z))
      (λ p. ask_replied (node_at b k).value (rw e at ((row_of d).asking p k d.k_n)))
      (λ p. absurd (tell_not_ask (rw e at ((row_of d).telling p k d.k_n))))
      (λ w. (unanswered d w (rw e), rw e, refl))

  -- ---- a frame is thrown away: its console is not waiting, for a waiting one is up and takes every reply and ack in its row

  drop_effect : (is_waiting (console_at b c).state ≡ true → ⊥) → Effect K σ c b (answer Discarded (with_frame b c k Nothing))
  drop_effect n-w = frame_effect Nothing Discarded refl tt (λ u v q. absurd (not_reply refl q)) (λ p. absurd (n-w (asking_waits (console_at b c).state p)))
      (λ p. absurd (n-w (telling_waits (console_at b c).state p))) (λ w. absurd (n-w w))

  pub withdraw_effect : not (is_up (console_at b c).state) ≡ true → Effect K σ c b (answer Discarded (with_frame b c k Nothing))
  withdraw_effect e = drop_effect (λ w. contra e (ap not (waiting_up (console_at b c).state w)))

  pub drop_reply_effect : {u : Tag} {v : ℕ} → frame_at b c k ≡ Reply u v → (is_asking (console_at b c).state ≡ true → member (console_at b c).answered k ≡ true)
      → Effect K σ c b (answer Discarded (with_frame b c k Nothing))
  drop_reply_effect e a = drop_effect (λ w. go w (waiting_cases (console_at b c).state w))
    where
      go : is_waiting (console_at b c).state ≡ true → (is_asking (console_at b c).state ≡ true) ⊎ (is_telling (console_at b c).state ≡ true) → ⊥
      go w (inl p) = contra (a p) (unanswered d w (rw e))
      go w (inr p) = tell_not_reply (rw e at ((row_of d).telling p k d.k_n))

  pub drop_ack_effect : frame_at b c k ≡ Ack → (is_telling (console_at b c).state ≡ true → member (console_at b c).answered k ≡ true)
      → Effect K σ c b (answer Discarded (with_frame b c k Nothing))
  drop_ack_effect e a = drop_effect (λ w. go w (waiting_cases (console_at b c).state w))
    where
      go : is_waiting (console_at b c).state ≡ true → (is_asking (console_at b c).state ≡ true) ⊎ (is_telling (console_at b c).state ≡ true) → ⊥
      go w (inl p) = ask_not_ack (rw e at ((row_of d).asking p k d.k_n))
      go w (inr p) = contra (a p) (unanswered d w (rw e))

  -- ---- a put

  module _ (u : Tag) (v : ℕ) (e : frame_at b c k ≡ Put u v) where
    abbrev acked_board : Board
    acked_board = with_frame b c k Ack

    abbrev stored : Node
    stored = taken (node_at b k) u v

    abbrev put_board : Board
    put_board = with_node acked_board k stored

    put_keys : (key (tags b k) ≤ key stored.tag) × (key u ≤ key stored.tag)
    put_keys = taken_key (node_at b k) u v (small_of d (node_at b k).tag (node_at b k).value (d.ok.tagged.node k d.k_n)) (small_of d u v (put_kind d e))

    put_side : Beside σ c b put_board
    unfolding node_at with_frame
    put_side = beside_trans (beside_frame b c k Ack (k_5 d)) (beside_node acked_board c k stored (shape_frame b c k Ack d.ok.shape) d.k_n put_keys.0)

    put_node : node_at put_board k ≡ stored
    put_node = node_same acked_board (shape_frame b c k Ack d.ok.shape) k stored (k_5 d)

    put_high : key u ≤ key (tags put_board k)
    put_high = omega (arith, put_keys.1, ap (λ (y : Node). key y.tag) put_node)

    put_telling : is_telling (console_at b c).state ≡ true → TellFrame (console_at b c).best (tags put_board k) (member (console_at b c).answered k) Ack
    put_telling p = put_took put_high (tell_grow (put_side.grow k d.k_n) (rw e at ((row_of d).telling p k d.k_n)))

    put_asking : is_asking (console_at b c).state ≡ true → AskFrame (console_at b c).alike (console_at b c).best (tags put_board k) (member (console_at b c).answered k) Ack
    put_asking p = absurd (ask_not_put (rw e at ((row_of d).asking p k d.k_n)))

    put_nodes : (j : ℕ) → j < σ.n → K (node_at put_board j).tag (node_at put_board j).value
    unfolding node_at with_frame
    put_nodes = nodes_with acked_board k stored (λ j y. j < σ.n → K y.tag y.value) (shape_frame b c k Ack d.ok.shape) (k_5 d)
        (λ l. taken_kind K (node_at b k) u v (d.ok.tagged.node k d.k_n) (put_kind d e)) (λ j _ l. d.ok.tagged.node j l)

    put_ups : (j : ℕ) → (node_at put_board j).up ≡ (node_at b j).up
    unfolding node_at with_frame
    put_ups = nodes_with acked_board k stored (λ j y. y.up ≡ (node_at b j).up) (shape_frame b c k Ack d.ok.shape) (k_5 d) (taken_up (node_at b k) u v) (λ j _. refl)

    put_spent : is_waiting (console_at b c).state ≡ true → spent σ (console_at b c) (frame_at acked_board c) ≡ spent_at σ b c + 1
    put_spent w = spent_frame σ k (console_at b c) Ack (frame_at b c) (frame_at acked_board c) (five d) d.k_n (unanswered d w (rw e)) (rw e) refl (change d Ack)

    pub put_effect : Effect K σ c b (answer Handed put_board)
    unfolding console_at frame_at with_node with_frame
    put_effect = record {
      beside = put_side;
      ok = kept c b put_board d.c_m put_side d.ok put_nodes (d.ok.tagged.best c d.c_m) (d.ok.console_in_lem c d.c_m)
          (frames_with d Ack tt) (beyond_with d Ack)
          (frame_row σ (five d) k d.k_n (console_at b c) Ack (frame_at b c) (frame_at acked_board c) (tags put_board) (change d Ack) put_asking put_telling
          (grow_row σ (console_at b c) (frame_at b c) (tags b) (tags put_board) put_side.grow (row_of d)));
      ups = put_ups;
      own = going refl (record {
        state = refl;
        floor = λ t f. frame_floor σ (five d) k d.k_n (console_at b c) Ack (frame_at b c) (frame_at acked_board c) (tags put_board) (change d Ack) (λ u v q. absurd (not_reply refl q)) t
            (grow_floor σ (console_at b c) (frame_at b c) (tags b) (tags put_board) put_side.grow t f);
        spends = λ w. omega (arith, put_spent w);
      });
    }
