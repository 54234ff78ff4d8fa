-- Every delivery is a refusal, or has an effect.
use Prim.Native.Nat.{ℕ, ◌≤◌, ◌<◌}
use mathlib.Core.Bool.{true}
use mathlib.Core.Path.{ap, ◌≡◌}
use native.Mathlib.Omega.{arith}
use Rattle.parts.specs.Limits.{max_ts}
use Rattle.parts.specs.Parts.{is_asking, to_telling, writes}
use Rattle.parts.specs.Sizes.{ask_size, tell_size}
use Rattle.parts.specs.declared.Frame.TheVariants.{Reply}
use Rattle.parts.specs.declared.Setup.{Setup}
use Rattle.parts.specs.declared.Tag.{Tag}
use Rattle.decisions.specs.declared.refusals.Refusal.{Refusal}
use Rattle.decisions.specs.Changes.{hears, next_tag}
use Rattle.board.specs.Answers.{refuse}
use Rattle.board.specs.Boards.{console_at, frame_at}
use Rattle.board.specs.declared.Answer.{Answer}
use Rattle.board.specs.declared.Board.{Board}
use Rattle.guarantee.proofs.Board.Shapes.{m_is, n_is}
use Rattle.guarantee.proofs.Board.Views.{Delivered, Ranged, ask, drop_ack, drop_reply, finish, finish_early, hear, hear_ack, into, no, out, put, turn, withdraw}
use Rattle.guarantee.proofs.Board.Boards.{BoardOk, TagKind}
use Rattle.guarantee.proofs.Board.Consoles.{Fair}
use Rattle.guarantee.proofs.Delivery.Effects.{Delivery, Effect}
use Rattle.guarantee.proofs.Delivery.ToNode.{ask_effect, drop_ack_effect, drop_reply_effect, put_effect, withdraw_effect}
use Rattle.guarantee.proofs.Delivery.Replies.{early_effect, hear_effect, turn_effect, turn_state}
use Rattle.guarantee.proofs.Delivery.Acks.{hear_ack_effect, last_ack_effect}

pub data StepEffect (K : TagKind) (σ : Setup) (c : ℕ) (b : Board) : Answer → Type 0 where
  refusal : {r : Refusal} → StepEffect K σ c b (refuse b r)
  effect : {a : Answer} → c < σ.m → Effect K σ c b a → StepEffect K σ c b a

-- where a write turns, the tag that it chooses is of the kind K: the one thing that a step asks of a kind
abbrev pub Chooses : TagKind → Setup → Board → ℕ → ℕ → Answer → Type 0
Chooses K σ b c k a = c < σ.m → k < σ.n → (u : Tag) (v : ℕ) → frame_at b c k ≡ Reply u v → is_asking (console_at b c).state ≡ true → writes (console_at b c).state ≡ true
    → (console_at a.board c).state ≡ to_telling (console_at b c).state
    → (hears (console_at b c) k u v).best.ts < max_ts → K (next_tag c (hears (console_at b c) k u v)) (console_at b c).wanted

pub deliver_effect : {K : TagKind} {σ : Setup} → Fair K σ → (b : Board) (c k : ℕ) {a : Answer} → BoardOk K σ b
    → Chooses K σ b c k a → Ranged b c k a → StepEffect K σ c b a
deliver_effect {K} {σ} fair b c k h chosen out = refusal
deliver_effect {K} {σ} fair b c k h chosen (into cm kn v) = go v chosen
  where
    d : Delivery K σ b c k
    d = record { fair = fair; ok = h; c_m = omega (arith, m_is h.shape); k_n = omega (arith, n_is h.shape) }

    asked : {x : ℕ} → ask_size b.setup ≤ x → ask_size σ ≤ x
    asked l = omega (arith, l, ap ask_size h.shape.setup_is)

    told : {x : ℕ} → tell_size b.setup ≤ x → tell_size σ ≤ x
    told l = omega (arith, l, ap tell_size h.shape.setup_is)

    go : {a : Answer} → Delivered b c k a → Chooses K σ b c k a → StepEffect K σ c b a
    go no _ = refusal
    go (ask e) _ = effect d.c_m (ask_effect d e)
    go (put {u} {v} e) _ = effect d.c_m (put_effect d u v e)
    go (hear {u} {v} e p i l) _ = effect d.c_m (hear_effect d u v e p i l)
    go (turn {u} {v} e p i l t) chosen = effect d.c_m (turn_effect d u v e p i (λ w. chosen d.c_m d.k_n u v e p w (turn_state d u v e p i) (t w)) (asked l))
    go (finish_early {u} {v} e p i l y) _ = effect d.c_m (early_effect d u v e p i (asked l) y)
    go (hear_ack e p i l) _ = effect d.c_m (hear_ack_effect d e p i l)
    go (finish e p i l) _ = effect d.c_m (last_ack_effect d e p i (told l))
    go (withdraw e) _ = effect d.c_m (withdraw_effect d e)
    go (drop_reply e a) _ = effect d.c_m (drop_reply_effect d e a)
    go (drop_ack e a) _ = effect d.c_m (drop_ack_effect d e a)

pub effect_ok : {K : TagKind} {σ : Setup} {c : ℕ} {b : Board} {a : Answer} → BoardOk K σ b → StepEffect K σ c b a → BoardOk K σ a.board
effect_ok h (effect _ e) = e.ok
effect_ok h refusal = h
