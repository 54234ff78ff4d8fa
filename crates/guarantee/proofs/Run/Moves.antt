-- What a step does to one logged operation (Moves): what holds of an operation (OpOk) and what it knows of an earlier tag
-- (Above) are kept, whether the step is at its console or at another.
use Prim.Native.Nat.{ℕ, ◌+◌, ◌≤◌, ◌<◌}
use mathlib.Core.Bool.{Bool, true, false, cond, ◌&&◌}
use mathlib.Core.Logic.{inl, inr, ◌≢◌, ◌⊎◌}
use mathlib.Core.Path.{refl, sym, ap, subst, ◌≡◌, ◌∙◌}
use native.Mathlib.Omega.{arith}
use borrow.Author.Tests.{eqb-true, eqb-false}
use lib.Dec.{eqb}
use Rattle.parts.specs.AnsweredSet.{member}
use Rattle.parts.specs.Finite.{one}
use Rattle.parts.specs.Parts.{is_asking, is_telling, is_waiting, writes}
use Rattle.parts.specs.declared.Outcome.{Outcome}
use Rattle.parts.specs.declared.Outcome.TheVariants.{Discarded, Done, Finished, Handed, Heard, Refused, Turned}
use Rattle.parts.specs.declared.Setup.{Setup}
use Rattle.parts.specs.declared.State.TheVariants.{Down}
use Rattle.parts.specs.declared.Tag.{Tag}
use Rattle.board.specs.Boards.{console_at, frame_at}
use Rattle.board.specs.declared.Board.{Board}
use Rattle.guarantee.specs.Log.{Complete, Lost, Op, Open, Status, counted, delivering, finishing, is_open, losing, of_console, turning}
use Rattle.guarantee.proofs.Laws.Tags.{Small, key}
use Rattle.guarantee.proofs.Laws.States.{contra, not_both, telling_waits, turns}
use Rattle.guarantee.proofs.Board.Rows.{Held, grow_floor}
use Rattle.guarantee.proofs.Board.Boards.{Beside, BoardOk, TagKind, same_floor, tags}
use Rattle.guarantee.proofs.Delivery.Spent.{earlier, most, spent, sum_same, weight}
use Rattle.guarantee.proofs.Delivery.Effects.{Ending, Going, Own, RowFloor, Turning, ends_now, goes_on, going, spent_below, spent_at, turns_now}

pub record OpOk (σ : Setup) (place : ℕ) (b : Board) (x : Op) : Type 0 where
  pub earlier : x.began < place
  pub bound : x.took ≤ most σ
  pub console_m : x.console < σ.m
  -- open: its console waits, writes as logged, and has spent what was counted; it has turned exactly if it tells
  pub waits : x.status ≡ Open → is_waiting (console_at b x.console).state ≡ true
  pub writes : x.status ≡ Open → writes (console_at b x.console).state ≡ x.wrote
  pub spends : x.status ≡ Open → x.took ≤ spent_at σ b x.console
  pub asks : x.status ≡ Open → is_asking (console_at b x.console).state ≡ true → x.turned ≡ false
  pub tells : x.status ≡ Open → is_telling (console_at b x.console).state ≡ true → x.turned ≡ true
  -- complete: it ended before, and a telling group holds its tag
  pub past : x.status ≡ Complete → x.ended < place
  pub held : x.status ≡ Complete → Held σ (tags b) (key x.tag)
  pub small : x.status ≡ Complete → Small x.tag

-- the operation's tag is, or will be, no lower than t, and higher if it writes
pub record Above (σ : Setup) (b : Board) (x : Op) (t : ℕ) : Type 0 where
  pub while_open : x.status ≡ Open → RowFloor σ b x.console t
  pub once_complete : x.status ≡ Complete → t + one x.wrote ≤ key x.tag

pub record Moves (σ : Setup) (place : ℕ) (b b' : Board) (x x' : Op) : Type 0 where
  pub ok : OpOk σ (place + 1) b' x'
  pub same_began : x'.began ≡ x.began
  pub same_console : x'.console ≡ x.console
  pub same_wrote : x'.wrote ≡ x.wrote
  pub keeps : x.turned ≡ true → x'.turned ≡ true
  pub above : (t : ℕ) → Above σ b x t → Above σ b' x' t
  -- a complete operation was so before, as it is, or ended now
  pub old : x'.status ≡ Complete → ((x.status ≡ Complete) × (x'.ended ≡ x.ended) × (x'.tag ≡ x.tag)) ⊎ (x'.ended ≡ place)
  pub was_open : x'.status ≡ Open → x.status ≡ Open
  pub stays : x.status ≡ Open → is_waiting (console_at b' x.console).state ≡ true → x'.status ≡ Open

-- ---- statuses

pub open_is : (k : Status) → is_open k ≡ true → k ≡ Open
open_is Open e = refl
open_is Complete e = absurd (contra e refl)
open_is Lost e = absurd (contra e refl)

pub open_complete : {k : Status} → k ≡ Open → k ≡ Complete → ⊥
open_complete e f = let z : ◌≡◌ {A = ℕ} 0 1 = cc in omega arith

lost_open : {k : Status} → k ≡ Lost → k ≡ Open → ⊥
lost_open e f = let z : ◌≡◌ {A = ℕ} 0 1 = cc in omega arith

lost_complete : {k : Status} → k ≡ Lost → k ≡ Complete → ⊥
lost_complete e f = let z : ◌≡◌ {A = ℕ} 0 1 = cc in omega arith

-- ---- an operation of another console, or closed

held_grow : (σ : Setup) (tg tg' : ℕ → Tag) (t : ℕ) → ((k : ℕ) → k < σ.n → key (tg k) ≤ key (tg' k)) → Held σ tg t → Held σ tg' t
held_grow σ tg tg' t g h = (h.0, h.1, λ k l e. omega (arith, h.2 k l e, g k l))

spent_same : (σ : Setup) (c d : ℕ) (b b' : Board) → σ.n ≤ 5 → Beside σ c b b' → d ≢ c → spent_at σ b' d ≡ spent_at σ b d
unfolding spent
spent_same σ c d b b' five s h = rw (s.console d h) (ap (λ (z : ℕ). earlier σ (console_at b d).state + z)
    (sum_same σ.n (λ k. weight (member (console_at b d).answered k) (frame_at b d k)) (λ k. weight (member (console_at b d).answered k) (frame_at b' d k))
    (λ j l. rw (s.frame d h j (omega arith)))))

floor_beside : {σ : Setup} {c : ℕ} (d : ℕ) {b b' : Board} (t : ℕ) → σ.n ≤ 5 → Beside σ c b b' → d ≢ c → RowFloor σ b d t → RowFloor σ b' d t
floor_beside {σ} d {b} {b'} t five s h f = same_floor σ (s.console d h) (λ k l. s.frame d h k (omega arith))
    (grow_floor σ (console_at b d) (frame_at b d) (tags b) (tags b') s.grow t f)

pub apart_moves : {σ : Setup} {c place : ℕ} {b b' : Board} (x : Op) → σ.n ≤ 5 → Beside σ c b b' → (x.status ≡ Open → x.console ≢ c) → OpOk σ place b x → Moves σ place b b' x x
apart_moves {σ} {c} {place} {b} {b'} x five s a h = record {
  same_began = refl;
  same_console = refl;
  same_wrote = refl;
  keeps = λ e. e;
  old = λ e. inl (e, refl, refl);
  was_open = λ e. e;
  stays = λ e _. e;
  above = λ t g. record { while_open = λ e. floor_beside x.console t five s (a e) (g.while_open e); once_complete = g.once_complete };
  ok = record {
    earlier = omega (arith, h.earlier);
    bound = h.bound;
    console_m = h.console_m;
    waits = λ e. rw (s.console x.console (a e)) (h.waits e);
    writes = λ e. rw (s.console x.console (a e)) (h.writes e);
    spends = λ e. omega (arith, h.spends e, spent_same σ c x.console b b' five s (a e));
    asks = λ e. rw (s.console x.console (a e)) (h.asks e);
    tells = λ e. rw (s.console x.console (a e)) (h.tells e);
    past = λ e. omega (arith, h.past e);
    held = λ e. held_grow σ (tags b) (tags b') (key x.tag) s.grow (h.held e);
    small = h.small;
  };
}

-- ---- the open operation of a console, and all others

pub data Marked (c : ℕ) (f : Op → Op) (x : Op) : Op → Type 0 where
  hit : x.status ≡ Open → x.console ≡ c → Marked c f x (f x)
  miss : (x.status ≡ Open → x.console ≢ c) → Marked c f x x

marked : (c : ℕ) (f : Op → Op) (x : Op) → Marked c f x (of_console c f x)
unfolding of_console
marked c f x = go (is_open x.status) refl (eqb x.console c) refl
  where
    go : (p : Bool) → is_open x.status ≡ p → (q : Bool) → eqb x.console c ≡ q → Marked c f x (cond (p && q) (f x) x)
    go true e true g = hit (open_is x.status e) (eqb-true x.console c g)
    go true e false g = miss (λ _. eqb-false x.console c g)
    go false e q g = miss (λ o. absurd (contra (rw o) e))

goes_counts : (i : ℕ) (x : Op) (o : Outcome) → goes_on o ≡ true → delivering i o x ≡ counted x
goes_counts i x Refused e = absurd (contra e refl)
goes_counts i x Done e = refl
goes_counts i x Handed e = refl
goes_counts i x Heard e = refl
goes_counts i x Turned e = absurd (contra e refl)
goes_counts i x (Finished t v) e = absurd (contra e refl)
goes_counts i x Discarded e = refl

-- ---- the open operation of the console that is delivered to

module _ {K : TagKind} {σ : Setup} {place : ℕ} {b b' : Board} (x : Op) (e : x.status ≡ Open) (h : OpOk σ place b x) (k : BoardOk K σ b') where
  going_moves : Going σ x.console b b' → Moves σ place b b' x (counted x)
  going_moves g = record {
    same_began = refl;
    same_console = refl;
    same_wrote = refl;
    keeps = λ q. q;
    above = λ t r. record { while_open = λ _. g.floor t (r.while_open e); once_complete = r.once_complete };
    old = λ q. absurd (open_complete e q);
    was_open = λ _. e;
    stays = λ q _. q;
    ok = record {
      earlier = omega (arith, h.earlier);
      bound = omega (arith, spends, spent_below b' x.console k h.console_m waits_on);
      console_m = h.console_m;
      waits = λ _. waits_on;
      writes = λ _. ap writes g.state ∙ h.writes e;
      spends = λ _. spends;
      asks = λ q p. h.asks q (ap is_asking (sym g.state) ∙ p);
      tells = λ q p. h.tells q (ap is_telling (sym g.state) ∙ p);
      past = λ q. absurd (open_complete e q);
      held = λ q. absurd (open_complete e q);
      small = λ q. absurd (open_complete e q);
    };
  }
    where
      waits_on : is_waiting (console_at b' x.console).state ≡ true
      waits_on = ap is_waiting g.state ∙ h.waits e

      spends : x.took + 1 ≤ spent_at σ b' x.console
      spends = omega (arith, h.spends e, g.spends (h.waits e))

  turning_moves : Turning σ x.console b b' → Moves σ place b b' x (turning x)
  turning_moves g = record {
    same_began = refl;
    same_console = refl;
    same_wrote = refl;
    keeps = λ _. refl;
    above = λ t r. record { while_open = λ _. g.floor t (r.while_open e); once_complete = r.once_complete };
    old = λ q. absurd (open_complete e q);
    was_open = λ _. e;
    stays = λ q _. q;
    ok = record {
      earlier = omega (arith, h.earlier);
      bound = omega (arith, spends, spent_below b' x.console k h.console_m waits_on);
      console_m = h.console_m;
      waits = λ _. waits_on;
      writes = λ _. ap writes g.state ∙ (turns (console_at b x.console).state g.asked).1 ∙ h.writes e;
      spends = λ _. spends;
      asks = λ q p. absurd (not_both (console_at b' x.console).state p told);
      tells = λ _ _. refl;
      past = λ q. absurd (open_complete e q);
      held = λ q. absurd (open_complete e q);
      small = λ q. absurd (open_complete e q);
    };
  }
    where
      told : is_telling (console_at b' x.console).state ≡ true
      told = ap is_telling g.state ∙ (turns (console_at b x.console).state g.asked).0

      waits_on : is_waiting (console_at b' x.console).state ≡ true
      waits_on = telling_waits (console_at b' x.console).state told

      spends : x.took + 1 ≤ spent_at σ b' x.console
      spends = omega (arith, h.spends e, g.spends)

  ending_moves : (u : Tag) (v : ℕ) → Ending σ x.console b b' u → Moves σ place b b' x (finishing place u v x)
  ending_moves u v g = record {
    same_began = refl;
    same_console = refl;
    same_wrote = refl;
    keeps = λ q. q;
    above = λ t r. record { while_open = λ q. absurd (open_complete q refl); once_complete = λ _. omega (arith, g.floor t (r.while_open e), ap one (h.writes e)) };
    old = λ _. inr refl;
    was_open = λ _. e;
    stays = λ _ w. absurd (contra w (rw g.idle));
    ok = record {
      earlier = omega (arith, h.earlier);
      bound = omega (arith, h.spends e, g.spends);
      console_m = h.console_m;
      waits = λ q. absurd (open_complete q refl);
      writes = λ q. absurd (open_complete q refl);
      spends = λ q. absurd (open_complete q refl);
      asks = λ q. absurd (open_complete q refl);
      tells = λ q. absurd (open_complete q refl);
      past = λ _. omega arith;
      held = λ _. g.held;
      small = λ _. g.small;
    };
  }

  hit_moves : {o : Outcome} → Own σ x.console b b' o → Moves σ place b b' x (delivering place o x)
  hit_moves {o} (going z g) = rw (goes_counts place x o z) (going_moves g)
  hit_moves (turns_now g) = turning_moves g
  hit_moves (ends_now {u} {v} g) = ending_moves u v g

-- ---- deliver, and console down

pub deliver_moves : {K : TagKind} {σ : Setup} {c place : ℕ} {b b' : Board} {o : Outcome} (x : Op) → BoardOk K σ b' → Beside σ c b b' → Own σ c b b' o
    → OpOk σ place b x → Moves σ place b b' x (of_console c (delivering place o) x)
deliver_moves {K} {σ} {c} {place} {b} {b'} {o} x k s w h = go (marked c (delivering place o) x)
  where
    go : {y : Op} → Marked c (delivering place o) x y → Moves σ place b b' x y
    go (hit e q) = hit_moves x e h k (subst (λ c. Own σ c b b' o) (sym q) w)
    go (miss a) = apart_moves x k.shape.allowed.n_5 s a h

pub down_moves : {σ : Setup} {c place : ℕ} {b b' : Board} (x : Op) → σ.n ≤ 5 → Beside σ c b b' → (console_at b' c).state ≡ Down
    → OpOk σ place b x → Moves σ place b b' x (of_console c losing x)
down_moves {σ} {c} {place} {b} {b'} x five s w h = go (marked c losing x)
  where
    go : {y : Op} → Marked c losing x y → Moves σ place b b' x y
    go (miss a) = apart_moves x five s a h
    go (hit e q) = record {
      same_began = refl;
      same_console = refl;
      same_wrote = refl;
      keeps = λ p. p;
      above = λ t r. record { while_open = λ p. absurd (lost_open refl p); once_complete = λ p. absurd (lost_complete refl p) };
      old = λ p. absurd (lost_complete refl p);
      was_open = λ _. e;
      stays = λ _ z. absurd (contra z (rw (q, w)));
      ok = record {
        earlier = omega (arith, h.earlier);
        bound = h.bound;
        console_m = h.console_m;
        waits = λ p. absurd (lost_open refl p);
        writes = λ p. absurd (lost_open refl p);
        spends = λ p. absurd (lost_open refl p);
        asks = λ p. absurd (lost_open refl p);
        tells = λ p. absurd (lost_open refl p);
        past = λ p. absurd (lost_complete refl p);
        held = λ p. absurd (lost_complete refl p);
        small = λ p. absurd (lost_complete refl p);
      };
    }
