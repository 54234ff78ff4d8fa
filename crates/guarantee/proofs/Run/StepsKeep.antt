-- Each of the seven kinds of step keeps the invariant, and so does every run.
use Prim.Native.Nat.{ℕ, ◌+◌, ◌≤◌, ◌<◌}
use mathlib.Core.Bool.{Bool, true, false, cond, ◌&&◌}
use mathlib.Core.List.{List, map, ◌∷◌, []}
use mathlib.Core.Path.{refl, sym, ap, ◌≡◌, ◌∙◌}
use native.Mathlib.Omega.{arith}
use borrow.Author.Tests.{eqb-true, eqb-false}
use lib.Dec.{eqb}
use Rattle.parts.specs.Finite.{one}
use Rattle.parts.specs.Limits.{max_life}
use Rattle.parts.specs.Outcomes.{accepted}
use Rattle.parts.specs.Parts.{is_telling, is_waiting, is_write}
use Rattle.parts.specs.declared.Console.{Console}
use Rattle.parts.specs.declared.Kind.{Kind}
use Rattle.parts.specs.declared.Kind.TheVariants.{Read, Write}
use Rattle.parts.specs.declared.Outcome.{Outcome}
use Rattle.parts.specs.declared.Outcome.TheVariants.{Discarded, Done, Finished, Handed, Heard, Refused, Turned}
use Rattle.parts.specs.declared.Setup.{Setup}
use Rattle.parts.specs.declared.State.TheVariants.{Down, Idle}
use Rattle.parts.specs.declared.Tag.{Tag}
use Rattle.well_formed.specs.Clauses.{wanted_ok}
use Rattle.decisions.specs.Changes.{hears, next_tag, rests, with_up}
use Rattle.board.specs.Boards.{console_at, fresh_board, node_at, with_console, with_node}
use Rattle.board.specs.Runs.{BeginRead, BeginWrite, ConsoleDown, Deliver, NodeDown, NodeUp, Restart, Step, step}
use Rattle.board.specs.Steps.{fresh}
use Rattle.board.specs.declared.Answer.{Answer}
use Rattle.board.specs.declared.Board.{Board}
use Rattle.guarantee.specs.Claim.{◌also◌, Any, OpenAt, here, none, there}
use Rattle.guarantee.specs.Log.{Op, Run, after, delivering, follow, is_open, is_open_at, losing, next, noted, of_console, opened, start, tally, up_after}
use Rattle.guarantee.proofs.Laws.Lists.{Each, all_each, all_imp, any_each, each_map}
use Rattle.guarantee.proofs.Laws.Tags.{key}
use Rattle.guarantee.proofs.Laws.Sizes.{Allowed}
use Rattle.guarantee.proofs.Laws.States.{asking_waits, contra, turns}
use Rattle.guarantee.proofs.Board.Shapes.{m_is, n_is}
use Rattle.guarantee.proofs.Board.Views.{Begun, ConsolesDown, Ranged, Restarted, Switched, begins, begun, consoles_down, delivered, did_begin, did_console, did_node, did_restart, fresh_made, no_begin, no_console, no_node, no_restart, nodes_down, nodes_up, restarted_board, restarts}
use Rattle.guarantee.proofs.Board.Boards.{Beside, BoardOk, Good, TagKind, beside_console, board_up}
use Rattle.guarantee.proofs.Board.Consoles.{Fair, hears_kind, next_good}
use Rattle.guarantee.proofs.Delivery.Effects.{Own, ends_now, goes_on, going, reply_kind, turns_now}
use Rattle.guarantee.proofs.Delivery.Deliveries.{Chooses, StepEffect, deliver_effect, effect, effect_ok, refusal}
use Rattle.guarantee.proofs.Run.Starts.{Begins, begin_effect, down_ok, down_state, down_ups, fresh_console, fresh_node_lem, fresh_ok, node_ok_lem, node_side, node_ups, restart_ok, restart_side, restart_state, restart_ups}
use Rattle.guarantee.proofs.Run.Moves.{Moves, OpOk, deliver_moves, down_moves, open_complete, open_is}
use Rattle.guarantee.proofs.Run.Known.{Known, good_fair, known_cons, known_fair, known_moves, more_written, tally_none}
use Rattle.guarantee.proofs.Run.Invariant.{Inv, all_apart, inv_refused, inv_step, open_move, pairs_move, stepped, waits_beside}

-- ---- deliver

own_waits : {σ : Setup} {c : ℕ} {b b' : Board} {o : Outcome} → Own σ c b b' o → is_waiting (console_at b' c).state ≡ true → is_waiting (console_at b c).state ≡ true
own_waits (going e g) w = sym (ap is_waiting g.state) ∙ w
own_waits {c = c} {b = b} (turns_now g) w = asking_waits (console_at b c).state g.asked
own_waits (ends_now g) w = g.waits

goes_accepted : (o : Outcome) → goes_on o ≡ true → accepted o ≡ true
goes_accepted Refused e = e
goes_accepted Done e = refl
goes_accepted Handed e = refl
goes_accepted Heard e = refl
goes_accepted Turned e = refl
goes_accepted (Finished t v) e = refl
goes_accepted Discarded e = refl

own_accepted : {σ : Setup} {c : ℕ} {b b' : Board} {o : Outcome} → Own σ c b b' o → accepted o ≡ true
own_accepted {o = o} (going e g) = goes_accepted o e
own_accepted (turns_now g) = refl
own_accepted (ends_now g) = refl

module _ {σ : Setup} (r : Run) (h : Inv σ r) where
  al : Allowed σ
  al = h.ok.shape.allowed

  -- a reply leaves the console's life as it is
  lives : (c : ℕ) → c < σ.m → (k : ℕ) (u : Tag) (v : ℕ) → (hears (console_at r.board c) k u v).life ≤ max_life
  unfolding hears
  lives c cm k u v = (h.ok.console_in_lem c cm).life

  inv_deliver : (c k : ℕ) {a : Answer} → Ranged r.board c k a → StepEffect (Good σ) σ c r.board a → Inv σ (follow r (Deliver c k) a)
  unfolding noted up_after next_tag
  inv_deliver c k v refusal = inv_refused r h
  inv_deliver c k {a} v (effect cm f) = rw (own_accepted f.own) (inv_step r a.board l' r.up h (effect_ok known (deliver_effect (known_fair σ l' al) b c k known chosen v)) es
      (λ d _ w. waits_beside f.beside (own_waits f.own) d w) (λ j l. f.ups j ∙ h.ups j l))
    where
      b : Board
      b = r.board

      move : Op → Op
      move = of_console c (delivering r.place a.outcome)

      l' : List Op
      l' = map move r.ops

      es : Each (Moves σ r.place b a.board) r.ops l'
      es = each_map move (λ x k. deliver_moves x f.ok f.beside f.own k) h.ops

      known : BoardOk (Known σ l') σ b
      known = board_up (known_moves es) h.ok

      -- a write that turns: its timestamp is one above a known one, and one more write has turned
      chosen : Chooses (Known σ l') σ b c k a
      chosen _ kn u v e p w t l = record {
        good = next_good σ c (hears (console_at b c) k u v) (console_at b c).wanted cm (lives c cm k u v) l;
        few = omega (
          arith,
          more_written c es h.ops (h.waits c cm (asking_waits (console_at b c).state p)) p w (ap is_telling t ∙ (turns (console_at b c).state p).0),
          (hears_kind (Known σ r.ops) (console_at b c) k u v (h.ok.tagged.best c cm) (reply_kind (record { fair = known_fair σ r.ops al; ok = h.ok; c_m = cm; k_n = kn }) e)).few,
        );
      }

  -- ---- the begins

  inv_begin : (s : Step) (c : ℕ) (w : Kind) (v : ℕ) → wanted_ok w v ≡ true → {a : Answer} → Begun r.board c w v a
      → ((o : Outcome) → noted r.place s o r.ops ≡ opened r.place c (is_write w) ∷ r.ops) → up_after s r.up ≡ r.up
      → Inv σ (follow r s a)
  unfolding tally
  inv_begin s c w v good no_begin q z = inv_refused r h
  inv_begin s c w v good (did_begin l p) q z = rw (q Done, z) (record {
    ok = board_up (known_cons new) g.ok;
    ops = new_ok also all_each (λ x y mv _. mv.ok) es h.ops;
    pairs = (record { above = λ e _. absurd (open_complete refl e) } also all_imp (λ x k. record { above = λ e _. record { while_open = λ _. g.floor (key x.tag) (k.held e); once_complete = λ q. absurd (open_complete refl q) } }) h.ops)
        also all_imp (λ y q. record { above = λ e _. absurd (open_complete refl e) } also q) (pairs_move es h.ops h.pairs);
    waits = λ d dm z. wait d dm z (eqb d c) refl;
    alone = λ d. lone d (eqb c d) refl;
    ups = λ j l. g.ups j ∙ h.ups j l;
  })
    where
      cm : c < σ.m
      cm = omega (arith, m_is h.ok.shape)

      new : Op
      new = opened r.place c (is_write w)

      g : Begins (Known σ r.ops) σ c w r.board (begun r.board c w v)
      g = begin_effect (known_fair σ r.ops al) r.board c h.ok cm w v good

      es : Each (Moves σ r.place r.board (begun r.board c w v)) r.ops r.ops
      es = all_apart al.n_5 g.beside (λ d _ z q. contra z (rw (q, p))) h.ops

      new_ok : OpOk σ (r.place + 1) (begun r.board c w v) new
      new_ok = record {
        earlier = omega arith;
        bound = omega arith;
        console_m = cm;
        waits = λ _. rw g.state;
        writes = λ _. rw g.state;
        spends = λ _. omega arith;
        asks = λ _ _. refl;
        tells = λ _ p. absurd (contra (rw g.state at p) refl);
        past = λ q. absurd (open_complete refl q);
        held = λ q. absurd (open_complete refl q);
        small = λ q. absurd (open_complete refl q);
      }

      wait : (d : ℕ) → d < σ.m → is_waiting (console_at (begun r.board c w v) d).state ≡ true → (x : Bool) → eqb d c ≡ x → Any (OpenAt d) (new ∷ r.ops)
      wait d dm z true e = here (refl, sym (eqb-true d c e))
      wait d dm z false e = there (any_each (open_move d z) es (h.waits d dm (rw (g.beside.console d (eqb-false d c e)) at z)))

      -- console c was idle, so none of its operations was open
      shut : (x : Op) → OpOk σ r.place r.board x → is_open_at c x ≡ false
      shut x k = go (is_open x.status) refl (eqb x.console c) refl
        where
          go : (y : Bool) → is_open x.status ≡ y → (z : Bool) → eqb x.console c ≡ z → (y && z) ≡ false
          go true e true f = absurd (contra (k.waits (open_is x.status e)) (rw (eqb-true x.console c f, p)))
          go true e false f = refl
          go false e z f = refl

      lone : (d : ℕ) (x : Bool) → eqb c d ≡ x → tally (is_open_at d) (new ∷ r.ops) ≤ 1
      lone d true e = omega (arith, ap one e, tally_none (is_open_at d) (rw (eqb-true c d e) at (all_imp shut h.ops)))
      lone d false e = omega (arith, ap one e, h.alone d)

  -- ---- the downs, the ups and restart

  -- the board is kept whatever is known, and the log's operations move
  inv_same : (b' : Board) (l : List Op) (u : ℕ → Bool) → Each (Moves σ r.place r.board b') r.ops l → ((K : TagKind) → Fair K σ → BoardOk K σ r.board → BoardOk K σ b')
      → ((c : ℕ) → c < σ.m → is_waiting (console_at b' c).state ≡ true → is_waiting (console_at r.board c).state ≡ true)
      → ((j : ℕ) → j < σ.n → (node_at b' j).up ≡ u j) → Inv σ (stepped r b' l u)
  inv_same b' l u es f = inv_step r b' l u h (f (Known σ l) (known_fair σ l al) (board_up (known_moves es) h.ok)) es

  inv_node : (s : Step) (u : Bool) (k : ℕ) {a : Answer} → Switched u r.board k a
      → ((o : Outcome) → noted r.place s o r.ops ≡ r.ops) → ((j : ℕ) → up_after s r.up j ≡ cond (eqb j k) u (r.up j))
      → Inv σ (follow r s a)
  inv_node s u k no_node q z = inv_refused r h
  inv_node s u k (did_node l) q z = rw (q Done) (inv_same (with_node r.board k (with_up u (node_at r.board k))) r.ops (up_after s r.up)
      (all_apart al.n_5 (node_side r.board u k h.ok kn σ.m) (λ d l _. omega arith) h.ops)
      (λ _ fair q. node_ok_lem r.board u k q kn)
      (λ d l w. rw ((node_side r.board u k h.ok kn σ.m).console d (omega arith)) at w)
      (λ j l. node_ups r.board u k h.ok kn j ∙ rw (h.ups j l) (sym (z j))))
    where
      kn : k < σ.n
      kn = omega (arith, n_is h.ok.shape)

  inv_down : (c : ℕ) {a : Answer} → ConsolesDown r.board c a → Inv σ (follow r (ConsoleDown c) a)
  unfolding noted up_after
  inv_down c no_console = inv_refused r h
  inv_down c (did_console l) = inv_same (with_console r.board c x) (map (of_console c losing) r.ops) r.up
      (each_map (of_console c losing) (λ x k. down_moves x al.n_5 (beside_console r.board c (rests Down (console_at r.board c))) is_down k) h.ops)
      (λ _ fair q. down_ok fair r.board c q cm)
      (λ d _ w. waits_beside {σ = σ} (beside_console r.board c x) (λ w. absurd (contra w (rw is_down))) d w)
      (λ j l. down_ups (known_fair σ r.ops al) r.board c h.ok cm j ∙ h.ups j l)
    where
      x : Console
      x = rests Down (console_at r.board c)

      cm : c < σ.m
      cm = omega (arith, m_is h.ok.shape)

      is_down : (console_at (with_console r.board c x) c).state ≡ Down
      is_down = down_state (known_fair σ r.ops al) r.board c h.ok cm

  inv_restart : (c : ℕ) {a : Answer} → Restarted r.board c a → Inv σ (follow r (Restart c) a)
  unfolding noted up_after
  inv_restart c no_restart = inv_refused r h
  inv_restart c (did_restart l d i) = inv_same (restarted_board r.board c) r.ops r.up
      (all_apart al.n_5 side (λ e _ z q. contra z (rw (q, d))) h.ops)
      (λ _ fair q. restart_ok fair r.board c q cm i)
      (λ e _ w. waits_beside {σ = σ} side (λ w. absurd (contra w (rw is_idle))) e w)
      (λ j l. restart_ups (known_fair σ r.ops al) r.board c h.ok cm j ∙ h.ups j l)
    where
      cm : c < σ.m
      cm = omega (arith, m_is h.ok.shape)

      side : Beside σ c r.board (restarted_board r.board c)
      side = restart_side (known_fair σ r.ops al) r.board c h.ok cm

      is_idle : (console_at (restarted_board r.board c) c).state ≡ Idle
      is_idle = restart_state (known_fair σ r.ops al) r.board c h.ok cm

  -- ---- every step

  pub inv_next : (s : Step) → Inv σ (next r s)
  unfolding next noted step up_after wanted_ok
  inv_next (BeginRead c) = inv_begin (BeginRead c) c Read 0 refl (begins r.board c Read 0) (λ _. refl) refl
  inv_next (BeginWrite c v) = inv_begin (BeginWrite c v) c Write v refl (begins r.board c Write v) (λ _. refl) refl
  inv_next (Deliver c k) = inv_deliver c k (delivered r.board c k)
      (deliver_effect (good_fair al) r.board c k (board_up (λ t v q. q.good) h.ok) (λ cm _ u v _ _ _ _ l. next_good σ c (hears (console_at r.board c) k u v) (console_at r.board c).wanted cm (lives c cm k u v) l) (delivered r.board c k))
  inv_next (NodeDown k) = inv_node (NodeDown k) false k (nodes_down r.board k) (λ _. refl) (λ j. refl)
  inv_next (ConsoleDown c) = inv_down c (consoles_down r.board c)
  inv_next (NodeUp k) = inv_node (NodeUp k) true k (nodes_up r.board k) (λ _. refl) (λ j. refl)
  inv_next (Restart c) = inv_restart c (restarts r.board c)

pub inv_after : {σ : Setup} (ss : List Step) (r : Run) → Inv σ r → Inv σ (after r ss)
unfolding after
inv_after [] r h = h
inv_after (s ∷ ss) r h = inv_after ss (next r s) (inv_next r h s)

pub inv_start : (σ : Setup) → Allowed σ → Inv σ (start σ)
unfolding start tally
inv_start σ al = record {
  ok = rw made (fresh_ok σ (known_fair σ [] al) al);
  ops = none;
  pairs = none;
  waits = λ c l w. absurd (contra w (rw (made, fresh_console σ c)));
  alone = λ c. omega arith;
  ups = λ j l. rw (made, fresh_node_lem σ j);
}
  where
    made : (fresh σ).board ≡ fresh_board σ
    made = ap (λ (a : Answer). a.board) (fresh_made σ al)
