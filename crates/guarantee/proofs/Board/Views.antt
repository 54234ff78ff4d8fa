-- What each step's answer can be, with the facts that lead there. Later proofs split on these and never on a step's text.
use Prim.Native.Nat.{ℕ, ◌≤◌, ◌<◌}
use mathlib.Core.Bool.{Bool, true, false, cond, not}
use mathlib.Core.List.{List, ◌∷◌, []}
use mathlib.Core.Path.{refl, ◌≡◌}
use native.Mathlib.Omega.{arith}
use borrow.Author.Tests.{ltb-true, ltb-false, le-leb}
use lib.Dec.{ltb}
use Rattle.std.specs.Prelude.{Option, None, Some, Err}
use Rattle.parts.proofs.FiniteLaws.{and_right, implied}
use Rattle.parts.specs.AnsweredSet.{insert, member, size}
use Rattle.parts.specs.Limits.{max_life, max_ts}
use Rattle.parts.specs.Parts.{goes_to_node, is_asking, is_nothing, is_telling, is_up, writes}
use Rattle.parts.specs.Sizes.{ask_size, tell_size}
use Rattle.parts.specs.Tags.{compared}
use Rattle.std.specs.declared.cmp.Ordering.{Ordering}
use Rattle.parts.specs.declared.Console.{Console}
use Rattle.parts.specs.declared.Frame.{Frame}
use Rattle.parts.specs.declared.Frame.TheVariants.{Ack, Ask, Nothing, Put, Reply}
use Rattle.parts.specs.declared.Kind.{Kind}
use Rattle.parts.specs.declared.Outcome.TheVariants.{Discarded, Done, Finished, Handed, Heard, Turned}
use Rattle.parts.specs.declared.Setup.{Setup}
use Rattle.parts.specs.declared.State.TheVariants.{Down, Idle}
use Rattle.parts.specs.declared.Tag.{Tag}
use Rattle.well_formed.specs.Clauses.{consoles_allowed, nodes_allowed}
use Rattle.decisions.specs.Changes.{acked, asks, awaits, hears, restarted, rests, taken, takes_in, tells, with_up}
use Rattle.decisions.specs.Steps.{Decision, accept, begins as beginning, ends, falls, restarts as restarting, rises}
use Rattle.decisions.specs.Deliver.{acknowledged, delivered as decided, discards, finished as finishes, finishes_early, heard, is_withdrawn, on_ack, on_ask, on_frame, on_put, on_reply, replied, turned as turning}
use Rattle.decisions.specs.Questions.{Question, console_is_down, console_is_idle, console_is_up, guarded, has_allowed_consoles, has_allowed_nodes, has_console, has_next_life, has_next_ts, has_node, holds_frame, is_well_formed, node_is_down, node_is_up}
use Rattle.decisions.specs.declared.refusals.Refusal.{Refusal}
use Rattle.decisions.specs.declared.Part.TheVariants.{NodeTo}
use Rattle.decisions.specs.declared.Sent.TheVariants.{Keep}
use Rattle.board.specs.Answers.{answer, answer_with, refuse}
use Rattle.board.specs.Boards.{console_at, frame_at, fresh_board, node_at, with_console, with_frame, with_node, with_row}
use Rattle.board.specs.Applied.{applied, with_part, with_sent}
use Rattle.board.specs.Deliver.{deliver}
use Rattle.board.specs.Steps.{begin, console_down, fresh, node_down, node_up, restart, smallest}
use Rattle.board.specs.WellFormed.{well_formed}
use Rattle.board.specs.declared.Answer.{Answer}
use Rattle.board.specs.declared.Board.{Board}
use Rattle.guarantee.specs.Claim.{◌also◌, All, none}
use Rattle.guarantee.proofs.Laws.Lists.{all_head}
use Rattle.guarantee.proofs.Laws.Sizes.{Allowed}
use Rattle.guarantee.proofs.Laws.States.{both, contra, down_is, idle_is, split, split_but}

-- a question answered yes
abbrev pub Yes : Question → Type 0
Yes q = q.yes ≡ true

-- of a step or a decision: either one of its questions refuses, or all are answered yes
pub questions : {A : Type 0} (P : A → Type 0) (qs : List Question) {refused : Refusal → A} {a : A} → ((r : Refusal) → P (refused r)) → (All Yes qs → P a) → P (guarded qs refused a)
unfolding guarded
questions P [] n h = h none
questions P (q ∷ qs) n h = split P q.yes (λ e. questions P qs n (λ es. h (e also es))) (λ _. n q.refusal)

pub all_yes : {A : Type 0} (P : A → Type 0) (qs : List Question) (refused : Refusal → A) {a : A} → All Yes qs → P a → P (guarded qs refused a)
unfolding guarded
all_yes P [] refused none h = h
all_yes P (q ∷ qs) refused (e also es) h = rw e (all_yes P qs refused es h)

-- ---- deliver

-- the boards on which console c, which with the last answer taken in is x, has turned or finished
unfoldable pub turned : Board → ℕ → Console → Board
turned b c x = with_console (with_row b c (Put (tells c x).best (tells c x).value)) c (tells c x)

unfoldable pub finished : Option Ordering → Board → ℕ → ℕ → Console → Answer
finished how b c k x = answer_with how (Finished x.best x.value) (with_console (with_frame b c k Nothing) c (rests Idle x))

-- a delivery in range that no question refused
pub data Delivered (b : Board) (c k : ℕ) : Answer → Type 0 where
  no : {r : Refusal} → Delivered b c k (refuse b r)
  ask : frame_at b c k ≡ Ask → Delivered b c k (answer Handed (with_frame b c k (Reply (node_at b k).tag (node_at b k).value)))
  put : {u : Tag} {v : ℕ} → frame_at b c k ≡ Put u v → Delivered b c k (answer Handed (with_node (with_frame b c k Ack) k (taken (node_at b k) u v)))
  hear : {u : Tag} {v : ℕ} → frame_at b c k ≡ Reply u v → is_asking (console_at b c).state ≡ true → member (console_at b c).answered k ≡ false
      → size (insert (console_at b c).answered k) < ask_size b.setup
      → Delivered b c k (answer_with (Some (compared u (console_at b c).best)) Heard (with_console (with_frame b c k Nothing) c (hears (console_at b c) k u v)))
  turn : {u : Tag} {v : ℕ} → frame_at b c k ≡ Reply u v → is_asking (console_at b c).state ≡ true → member (console_at b c).answered k ≡ false
      → ask_size b.setup ≤ size (insert (console_at b c).answered k)
      → (writes (console_at b c).state ≡ true → (hears (console_at b c) k u v).best.ts < max_ts)
      → Delivered b c k (answer_with (Some (compared u (console_at b c).best)) Turned (turned b c (hears (console_at b c) k u v)))
  finish_early : {u : Tag} {v : ℕ} → frame_at b c k ≡ Reply u v → is_asking (console_at b c).state ≡ true → member (console_at b c).answered k ≡ false
      → ask_size b.setup ≤ size (insert (console_at b c).answered k)
      → finishes_early b.setup (hears (console_at b c) k u v) ≡ true
      → Delivered b c k (finished (Some (compared u (console_at b c).best)) b c k (hears (console_at b c) k u v))
  hear_ack : frame_at b c k ≡ Ack → is_telling (console_at b c).state ≡ true → member (console_at b c).answered k ≡ false
      → size (insert (console_at b c).answered k) < tell_size b.setup
      → Delivered b c k (answer Heard (with_console (with_frame b c k Nothing) c (acked (console_at b c) k)))
  finish : frame_at b c k ≡ Ack → is_telling (console_at b c).state ≡ true → member (console_at b c).answered k ≡ false
      → tell_size b.setup ≤ size (insert (console_at b c).answered k)
      → Delivered b c k (finished None b c k (acked (console_at b c) k))
  withdraw : not (is_up (console_at b c).state) ≡ true → Delivered b c k (answer Discarded (with_frame b c k Nothing))
  drop_reply : {u : Tag} {v : ℕ} → frame_at b c k ≡ Reply u v → (is_asking (console_at b c).state ≡ true → member (console_at b c).answered k ≡ true)
      → Delivered b c k (answer Discarded (with_frame b c k Nothing))
  drop_ack : frame_at b c k ≡ Ack → (is_telling (console_at b c).state ≡ true → member (console_at b c).answered k ≡ true)
      → Delivered b c k (answer Discarded (with_frame b c k Nothing))

-- every delivery is a refusal, or is in range and one of the above
pub data Ranged (b : Board) (c k : ℕ) : Answer → Type 0 where
  out : {r : Refusal} → Ranged b c k (refuse b r)
  into : {a : Answer} → c < b.setup.m → k < b.setup.n → Delivered b c k a → Ranged b c k a

module _ (b : Board) (c k : ℕ) where
  -- of a decision: what it comes to on the board
  abbrev P : Decision → Type 0
  P d = Delivered b c k (applied b c k d)

  view_frame : (f : Frame) → not (is_nothing f) ≡ true → frame_at b c k ≡ f → P (on_frame b.setup c k (console_at b c) (node_at b k) f)
  unfolding on_frame on_ask on_put on_reply on_ack replied acknowledged heard discards finishes turning finished turned awaits hears takes_in acked applied with_sent with_part
  view_frame Nothing n e = absurd (contra n refl)
  view_frame Ask n e = questions P (node_is_up (node_at b k) ∷ []) (λ _. no) (λ _. ask e)
  view_frame (Put u v) n e = questions P (node_is_up (node_at b k) ∷ []) (λ _. no) (λ _. put e)
  view_frame (Reply u v) n e = split_but P (is_asking (console_at b c).state) (member (console_at b c).answered k)
      (λ p i. split P (ltb (size (insert (console_at b c).answered k)) (ask_size b.setup))
      (λ l. hear e p i (omega (arith, ltb-true)))
      (λ l. split P (finishes_early b.setup (hears (console_at b c) k u v))
      (λ y. finish_early e p i (omega (arith, ltb-false)) y)
      (λ _. questions P (has_next_ts (hears (console_at b c) k u v) ∷ []) (λ _. no)
      (λ y. turn e p i (omega (arith, ltb-false))
      (λ w. ltb-true (hears (console_at b c) k u v).best.ts max_ts (implied (writes (console_at b c).state) _ (all_head y) w))))))
      (λ t. drop_reply e t)
  view_frame Ack n e = split_but P (is_telling (console_at b c).state) (member (console_at b c).answered k)
      (λ p i. split P (ltb (size (insert (console_at b c).answered k)) (tell_size b.setup))
      (λ l. hear_ack e p i (omega (arith, ltb-true)))
      (λ l. finish e p i (omega (arith, ltb-false))))
      (λ t. drop_ack e t)

  pub delivered : Ranged b c k (deliver b c k)
  unfolding deliver decided discards applied with_sent with_part
  delivered = questions (λ d. Ranged b c k (applied b c k d)) (is_well_formed (well_formed b) ∷ has_console b.setup c ∷ has_node b.setup k ∷ holds_frame (frame_at b c k) ∷ []) (λ _. out) yes
    where
      yes : All Yes (is_well_formed (well_formed b) ∷ has_console b.setup c ∷ has_node b.setup k ∷ holds_frame (frame_at b c k) ∷ [])
          → Ranged b c k (applied b c k (cond (is_withdrawn (console_at b c) (frame_at b c k)) discards (on_frame b.setup c k (console_at b c) (node_at b k) (frame_at b c k))))
      yes (_ also cm also kn also n also none) = into (ltb-true c b.setup.m cm) (ltb-true k b.setup.n kn)
          (split P (is_withdrawn (console_at b c) (frame_at b c k))
          (λ e. withdraw (and_right (goes_to_node (frame_at b c k)) _ e))
          (λ _. view_frame (frame_at b c k) n refl))

-- ---- the other steps

-- fresh makes the board, of an allowed setup
pub fresh_made : (σ : Setup) → Allowed σ → fresh σ ≡ answer Done (fresh_board σ)
unfolding fresh nodes_allowed consoles_allowed
fresh_made σ al = all_yes (λ a. a ≡ answer Done (fresh_board σ)) (has_allowed_nodes σ ∷ has_allowed_consoles σ ∷ []) (refuse (fresh_board smallest))
    (both (le-leb 1 σ.n al.n_1) (le-leb σ.n 5 al.n_5) also both (le-leb 1 σ.m al.m_1) (le-leb σ.m 8 al.m_8) also none) refl

-- the board on which console c has begun to ask
unfoldable pub begun : Board → ℕ → Kind → ℕ → Board
begun b c w v = with_console (with_row b c Ask) c (asks w v (console_at b c))

pub data Begun (b : Board) (c : ℕ) (w : Kind) (v : ℕ) : Answer → Type 0 where
  no_begin : {r : Refusal} → Begun b c w v (refuse b r)
  did_begin : c < b.setup.m → (console_at b c).state ≡ Idle → Begun b c w v (answer Done (begun b c w v))

pub begins : (b : Board) (c : ℕ) (w : Kind) (v : ℕ) → Begun b c w v (begin b c w v)
unfolding begin beginning applied with_sent with_part begun
begins b c w v = questions (λ d. Begun b c w v (applied b c 0 d)) _ (λ _. no_begin) yes
  where
    yes : All Yes (is_well_formed (well_formed b) ∷ has_console b.setup c ∷ console_is_up (console_at b c) ∷ console_is_idle (console_at b c) ∷ []) → Begun b c w v (answer Done (begun b c w v))
    yes (_ also cm also _ also i also none) = did_begin (ltb-true c b.setup.m cm) (idle_is (console_at b c).state i)

-- a node goes down or comes back
pub data Switched (u : Bool) (b : Board) (k : ℕ) : Answer → Type 0 where
  no_node : {r : Refusal} → Switched u b k (refuse b r)
  did_node : k < b.setup.n → Switched u b k (answer Done (with_node b k (with_up u (node_at b k))))

-- whatever the last question is
switches : (u : Bool) (b : Board) (k : ℕ) (q : Question)
    → Switched u b k (applied b 0 k (guarded (is_well_formed (well_formed b) ∷ has_node b.setup k ∷ q ∷ []) Err (accept None Done (NodeTo (with_up u (node_at b k))) Keep)))
unfolding applied with_sent with_part
switches u b k q = questions (λ d. Switched u b k (applied b 0 k d)) (is_well_formed (well_formed b) ∷ has_node b.setup k ∷ q ∷ []) (λ _. no_node) yes
  where
    yes : All Yes (is_well_formed (well_formed b) ∷ has_node b.setup k ∷ q ∷ []) → Switched u b k (answer Done (with_node b k (with_up u (node_at b k))))
    yes (_ also kn also _ also none) = did_node (ltb-true k b.setup.n kn)

pub nodes_down : (b : Board) (k : ℕ) → Switched false b k (node_down b k)
unfolding node_down falls
nodes_down b k = switches false b k (node_is_up (node_at b k))

pub nodes_up : (b : Board) (k : ℕ) → Switched true b k (node_up b k)
unfolding node_up rises
nodes_up b k = switches true b k (node_is_down (node_at b k))

pub data ConsolesDown (b : Board) (c : ℕ) : Answer → Type 0 where
  no_console : {r : Refusal} → ConsolesDown b c (refuse b r)
  did_console : c < b.setup.m → ConsolesDown b c (answer Done (with_console b c (rests Down (console_at b c))))

pub consoles_down : (b : Board) (c : ℕ) → ConsolesDown b c (console_down b c)
unfolding console_down ends applied with_sent with_part
consoles_down b c = questions (λ d. ConsolesDown b c (applied b c 0 d)) (is_well_formed (well_formed b) ∷ has_console b.setup c ∷ console_is_up (console_at b c) ∷ []) (λ _. no_console) yes
  where
    yes : All Yes (is_well_formed (well_formed b) ∷ has_console b.setup c ∷ console_is_up (console_at b c) ∷ []) → ConsolesDown b c (answer Done (with_console b c (rests Down (console_at b c))))
    yes (_ also cm also _ also none) = did_console (ltb-true c b.setup.m cm)

-- the board on which console c is restarted
unfoldable pub restarted_board : Board → ℕ → Board
restarted_board b c = with_console (with_row b c Nothing) c (restarted (console_at b c))

pub data Restarted (b : Board) (c : ℕ) : Answer → Type 0 where
  no_restart : {r : Refusal} → Restarted b c (refuse b r)
  did_restart : c < b.setup.m → (console_at b c).state ≡ Down → (console_at b c).life < max_life → Restarted b c (answer Done (restarted_board b c))

pub restarts : (b : Board) (c : ℕ) → Restarted b c (restart b c)
unfolding restart restarting applied with_sent with_part restarted_board
restarts b c = questions (λ d. Restarted b c (applied b c 0 d)) _ (λ _. no_restart) yes
  where
    yes : All Yes (is_well_formed (well_formed b) ∷ has_console b.setup c ∷ console_is_down (console_at b c) ∷ has_next_life (console_at b c) ∷ []) → Restarted b c (answer Done (restarted_board b c))
    yes (_ also cm also d also l also none) = did_restart (ltb-true c b.setup.m cm) (down_is (console_at b c).state d) (ltb-true (console_at b c).life max_life l)
