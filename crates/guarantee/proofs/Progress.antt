-- A console with an operation open has a frame that can be delivered, if enough nodes are up: more are up than have answered,
-- so one is up and unanswered; its cell holds a frame, and no question refuses it.
use Prim.Native.Nat.{ℕ, max, ◌≤◌, ◌<◌}
use mathlib.Core.Bool.{true, false}
use mathlib.Core.List.{◌∷◌, []}
use mathlib.Core.Logic.{inl, inr, ◌⊎◌}
use mathlib.Core.Path.{refl, sym, ◌≡◌, ◌∙◌}
use native.Mathlib.Omega.{arith}
use borrow.Author.Tests.{lt-ltb}
use lib.Dec.{ltb}
use Rattle.std.specs.Prelude.{Ok, Err}
use Rattle.parts.proofs.FiniteLaws.{and_left}
use Rattle.parts.specs.Outcomes.{accepted}
use Rattle.parts.specs.AnsweredSet.{insert, member, size}
use Rattle.parts.specs.Finite.{count}
use Rattle.parts.specs.Limits.{max_ts}
use Rattle.parts.specs.Parts.{is_asking, is_nothing, is_telling, is_waiting, writes}
use Rattle.parts.specs.Sizes.{ask_size, tell_size}
use Rattle.parts.specs.declared.Console.{Console}
use Rattle.parts.specs.declared.Frame.{Frame}
use Rattle.parts.specs.declared.Frame.TheVariants.{Ack, Ask, Nothing, Put, Reply}
use Rattle.parts.specs.declared.Node.{Node}
use Rattle.parts.specs.declared.Setup.{Setup}
use Rattle.parts.specs.declared.Tag.{Tag}
use Rattle.decisions.specs.Steps.{Decision}
use Rattle.decisions.specs.Changes.{acked, awaits, hears, takes_in}
use Rattle.decisions.specs.Deliver.{acknowledged, delivered, discards, finished, finishes_early, heard, is_withdrawn, on_ack, on_ask, on_frame, on_put, on_reply, replied, turned}
use Rattle.decisions.specs.Questions.{has_console, has_next_ts, has_node, holds_frame, is_well_formed, node_is_up}
use Rattle.board.specs.Boards.{console_at, frame_at, node_at}
use Rattle.board.specs.Applied.{applied}
use Rattle.board.specs.Deliver.{deliver, deliverable}
use Rattle.board.specs.WellFormed.{well_formed}
use Rattle.board.specs.declared.Answer.{Answer}
use Rattle.board.specs.declared.Board.{Board}
use Rattle.guarantee.specs.Claim.{◌also◌, HasDeliverable, none}
use Rattle.guarantee.specs.Log.{Run, tally, writes_begun}
use Rattle.guarantee.proofs.Laws.Lists.{any_all, each_same}
use Rattle.guarantee.proofs.Laws.Quorums.{Differ, differ}
use Rattle.guarantee.proofs.Laws.Sets.{size_count}
use Rattle.guarantee.proofs.Laws.Sizes.{size_for}
use Rattle.guarantee.proofs.Laws.States.{ask_size_for, asking_waits, implies_of, split, split_but, tell_size_for, waiting_cases}
use Rattle.guarantee.proofs.Board.Shapes.{m_is, n_is}
use Rattle.guarantee.proofs.Board.Views.{all_yes}
use Rattle.guarantee.proofs.Board.Rows.{ask_full, tell_full}
use Rattle.guarantee.proofs.Board.Boards.{BoardOk, Good, board_up, board_formed}
use Rattle.guarantee.proofs.Board.Consoles.{WaitsOk, hears_kind, waits}
use Rattle.guarantee.proofs.Delivery.Effects.{reply_kind}
use Rattle.guarantee.proofs.Run.Known.{Known, has_written, known_fair, tally_lt, unwritten}
use Rattle.guarantee.proofs.Run.Invariant.{Inv}

abbrev Accepts : Answer → Type 0
Accepts a = accepted a.outcome ≡ true

-- a decision that the board accepts
abbrev Decides : Decision → Type 0
Decides (Err r) = ⊥
Decides (Ok d) = accepted d.outcome ≡ true

-- a frame is taken, unless its node is down or a write has met the limit
frame_taken : (σ : Setup) (c k : ℕ) (x : Console) (y : Node) (f : Frame) → y.up ≡ true
    → ((u : Tag) (v : ℕ) → f ≡ Reply u v → is_asking x.state ≡ true → writes x.state ≡ true → (hears x k u v).best.ts < max_ts)
    → Decides (on_frame σ c k x y f)
unfolding on_frame on_ask on_put on_reply on_ack replied acknowledged heard finished turned discards awaits hears takes_in acked
frame_taken σ c k x y Nothing up below = refl
frame_taken σ c k x y Ask up below = all_yes Decides (node_is_up y ∷ []) Err (up also none) refl
frame_taken σ c k x y (Put u v) up below = all_yes Decides (node_is_up y ∷ []) Err (up also none) refl
frame_taken σ c k x y (Reply u v) up below = split_but Decides (is_asking x.state) (member x.answered k)
    (λ p _. split Decides (ltb (size (insert x.answered k)) (ask_size σ)) (λ _. refl)
    (λ _. split Decides (finishes_early σ (hears x k u v)) (λ _. refl)
    (λ _. all_yes Decides (has_next_ts (hears x k u v) ∷ []) Err
    (implies_of (writes x.state) (ltb (hears x k u v).best.ts max_ts) (λ w. lt-ltb (hears x k u v).best.ts max_ts (below u v refl p w)) also none) refl)))
    (λ _. refl)
frame_taken σ c k x y Ack up below = split_but Decides (is_telling x.state) (member x.answered k)
    (λ _ _. split Decides (ltb (size (insert x.answered k)) (tell_size σ)) (λ _. refl) (λ _. refl)) (λ _. refl)

-- the board answers as it was decided
applied_taken : (b : Board) (c k : ℕ) (d : Decision) → Decides d → Accepts (applied b c k d)
unfolding applied
applied_taken b c k (Err r) t = absurd t
applied_taken b c k (Ok d) t = t

-- the delivery of a frame that is taken is accepted, and so is that of one that is withdrawn
deliver_taken : {σ : Setup} (b : Board) (c k : ℕ) → BoardOk (Good σ) σ b → c < σ.m → k < σ.n → is_nothing (frame_at b c k) ≡ false
    → Decides (on_frame b.setup c k (console_at b c) (node_at b k) (frame_at b c k)) → deliverable b c k ≡ true
unfolding deliverable deliver delivered discards
deliver_taken b c k h cm kn full t = applied_taken b c k _ (all_yes Decides (is_well_formed (well_formed b) ∷ has_console b.setup c ∷ has_node b.setup k ∷ holds_frame (frame_at b c k) ∷ []) Err
    (board_formed b h also lt-ltb c b.setup.m (omega (arith, m_is h.shape)) also lt-ltb k b.setup.n (omega (arith, n_is h.shape)) also (rw full) also none)
    (split Decides (is_withdrawn (console_at b c) (frame_at b c k)) (λ _. refl) (λ _. t)))

module _ {σ : Setup} (r : Run) (h : Inv σ r) (few : writes_begun r ≤ max_ts) where
  -- a write that still asks is not among those that have turned
  below : (c : ℕ) → c < σ.m → is_asking (console_at r.board c).state ≡ true → writes (console_at r.board c).state ≡ true → tally has_written r.ops < max_ts
  unfolding writes_begun
  below c cm p w = omega (
    arith,
    tally_lt {R = λ x y. x ≡ y} has_written (λ x. x.wrote) (λ x y e s. rw (← e) (and_left x.wrote x.turned s))
        (λ x y e z. (unwritten x (z.0.asks z.1.0 (rw z.1.1 p)), rw (← e) (sym (z.0.writes z.1.0) ∙ rw z.1.1 w)))
        (each_same (λ x _. refl) h.ops) (any_all h.ops (h.waits c cm (asking_waits (console_at r.board c).state p))),
  )

  pub progress : max (ask_size σ) (tell_size σ) ≤ count σ.n r.up → (c : ℕ) → c < σ.m → is_waiting (console_at r.board c).state ≡ true → HasDeliverable σ r c
  progress enough c cm w = go (differ σ.n (member (console_at b c).answered) r.up
      (omega (arith, size_count σ.n (console_at b c).answered h.ok.shape.allowed.n_5 ws.small, ws.fewer, enough, most_size (waiting_cases (console_at b c).state w))))
    where
      b : Board
      b = r.board

      ws : WaitsOk σ (console_at b c).state (console_at b c)
      ws = waits σ (console_at b c) (console_at b c).state (h.ok.console_in_lem c cm).state w

      most_size : (is_asking (console_at b c).state ≡ true) ⊎ (is_telling (console_at b c).state ≡ true) → size_for σ (console_at b c).state ≤ max (ask_size σ) (tell_size σ)
      most_size (inl p) = omega (arith, ask_size_for σ (console_at b c).state p)
      most_size (inr p) = omega (arith, tell_size_for σ (console_at b c).state p)

      full : (j : ℕ) → j < σ.n → member (console_at b c).answered j ≡ false → is_nothing (frame_at b c j) ≡ false
      full j l e = cases (waiting_cases (console_at b c).state w)
        where
          cases : (is_asking (console_at b c).state ≡ true) ⊎ (is_telling (console_at b c).state ≡ true) → is_nothing (frame_at b c j) ≡ false
          cases (inl p) = ask_full (rw e at ((h.ok.rows c cm).asking p j l))
          cases (inr p) = tell_full (rw e at ((h.ok.rows c cm).telling p j l))

      under : (j : ℕ) → j < σ.n → (u : Tag) (v : ℕ) → frame_at b c j ≡ Reply u v → is_asking (console_at b c).state ≡ true → writes (console_at b c).state ≡ true
          → (hears (console_at b c) j u v).best.ts < max_ts
      under j l u v e p q = omega (
        arith,
        below c cm p q,
        (hears_kind (Known σ r.ops) (console_at b c) j u v (h.ok.tagged.best c cm) (reply_kind (record { fair = known_fair σ r.ops h.ok.shape.allowed; ok = h.ok; c_m = cm; k_n = l }) e)).few,
      )

      go : Differ σ.n (member (console_at b c).answered) r.up → HasDeliverable σ r c
      go d = (
        d.0,
        d.1,
        deliver_taken b c d.0 (board_up (λ t v q. q.good) h.ok) cm d.1 (full d.0 d.1 d.3)
            (frame_taken b.setup c d.0 (console_at b c) (node_at b d.0) (frame_at b c d.0) (h.ups d.0 d.1 ∙ d.2) (under d.0 d.1)),
      )
