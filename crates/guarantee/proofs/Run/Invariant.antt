-- What holds after every run (Inv), each part with the reason why a step keeps it, and the two ways a step can move the log:
-- operations change, or nothing of the rows does.
use Prim.Native.Nat.{ℕ, ◌+◌, ◌≤◌, ◌<◌}
use mathlib.Core.Bool.{Bool, true, false}
use mathlib.Core.List.{List}
use mathlib.Core.Logic.{inl, inr, ◌≢◌, ◌⊎◌}
use mathlib.Core.Path.{refl, ap, ◌≡◌, ◌∙◌}
use native.Mathlib.Omega.{arith}
use borrow.Author.Tests.{eqb-true, eqb-false}
use lib.Dec.{eqb}
use Rattle.parts.proofs.FiniteLaws.{and_left, and_right}
use Rattle.parts.specs.Parts.{is_waiting}
use Rattle.parts.specs.declared.Setup.{Setup}
use Rattle.board.specs.Boards.{console_at, node_at}
use Rattle.board.specs.declared.Board.{Board}
use Rattle.guarantee.specs.Claim.{All, Any, OpenAt}
use Rattle.guarantee.specs.Log.{Complete, Op, Run, is_open, is_open_at, tally}
use Rattle.guarantee.proofs.Laws.Lists.{Each, all_both, all_each, any_each, each_flip, each_same}
use Rattle.guarantee.proofs.Laws.Tags.{key}
use Rattle.guarantee.proofs.Laws.States.{both}
use Rattle.guarantee.proofs.Board.Boards.{Beside, BoardOk, beside_same}
use Rattle.guarantee.proofs.Run.Moves.{Above, Moves, OpOk, apart_moves, open_is}
use Rattle.guarantee.proofs.Run.Known.{Known, tally_le}

-- two operations of the log
pub record PairOk (σ : Setup) (b : Board) (x y : Op) : Type 0 where
  -- x finished before y began: y's tag is or will be no lower, and higher if y writes
  pub above : x.status ≡ Complete → x.ended < y.began → Above σ b y (key x.tag)

abbrev pub Pairs : Setup → Board → List Op → Type 0
Pairs σ b l = All (λ y. All (λ x. PairOk σ b x y) l) l

pub record Inv (σ : Setup) (r : Run) : Type 0 where
  -- The board is well formed, every tag's timestamp is at most the writes that have turned, and a waiting console's row
  -- holds only frames of its phase: begin and the turn overwrite all n cells, and a reply copies its node's tag, which
  -- never falls. While an asking console's mark is on, every node that has answered it holds a tag no lower than its best,
  -- since the mark stays on only for a reply with best's tag.
  pub ok : BoardOk (Known σ r.ops) σ r.board
  -- Every operation is in order by itself. An open one has spent the weights of its row and what the earlier phase took at
  -- most; a complete one's tag is held by a telling group, since that many nodes acknowledged it, or replied with it where a read
  -- finished early, and no tag falls.
  pub ops : All (OpOk σ r.place r.board) r.ops
  -- Of two operations, one's finish before the other's begin, the later is above the earlier: when it began a telling group
  -- held the earlier tag, and its asking group meets that one.
  pub pairs : Pairs σ r.board r.ops
  -- Every waiting console has an operation open: it was begun, and what closes it ends the waiting.
  pub waits : (c : ℕ) → c < σ.m → is_waiting (console_at r.board c).state ≡ true → Any (OpenAt c) r.ops
  -- No console has two operations open: a begin finds its console idle, and no other step opens one.
  pub alone : (c : ℕ) → tally (is_open_at c) r.ops ≤ 1
  -- The nodes that are up are those that the log says: only node down and node up change either.
  pub ups : (j : ℕ) → j < σ.n → (node_at r.board j).up ≡ r.up j

-- ---- the pairs move with their operations

module _ {σ : Setup} {place : ℕ} {b b' : Board} where
  pair_move : (x x' y y' : Op) → Moves σ place b b' x x' → Moves σ place b b' y y' → OpOk σ place b y → PairOk σ b x y → PairOk σ b' x' y'
  pair_move x x' y y' mx my oy p = record { above = λ e l. go l (mx.old e) }
    where
      go : x'.ended < y'.began → ((x.status ≡ Complete) × (x'.ended ≡ x.ended) × (x'.tag ≡ x.tag)) ⊎ (x'.ended ≡ place) → Above σ b' y' (key x'.tag)
      go l (inl q) = rw q.2 (my.above (key x.tag) (p.above q.0 (omega (arith, my.same_began, q.1))))
      go l (inr q) = absurd (omega (arith, my.same_began, oy.earlier))

  pub pairs_move : {l r : List Op} → Each (Moves σ place b b') l r → All (OpOk σ place b) l → Pairs σ b l → Pairs σ b' r
  pairs_move {l} {r} es oks ps = all_each (λ y y' my q. all_each (λ x x' mx p. pair_move x x' y y' mx my q.0 p) es q.1) es (all_both oks ps)

  pub open_move : (c : ℕ) → is_waiting (console_at b' c).state ≡ true → (x y : Op) → Moves σ place b b' x y → OpenAt c x → OpenAt c y
  open_move c w x y mv o = (mv.stays o.0 (rw o.1 w), mv.same_console ∙ o.1)

  -- what is open now was so before
  open_before : (c : ℕ) (y x : Op) → Moves σ place b b' x y → is_open_at c y ≡ true → is_open_at c x ≡ true
  open_before c y x mv e = both (ap is_open (mv.was_open (open_is y.status (and_left (is_open y.status) _ e)))) (rw mv.same_console at (and_right (is_open y.status) _ e))

  alone_moves : {l r : List Op} → Each (Moves σ place b b') l r → (c : ℕ) → tally (is_open_at c) r ≤ tally (is_open_at c) l
  alone_moves es c = tally_le (is_open_at c) (is_open_at c) (open_before c) (each_flip es)

-- ---- a step after which the log's operations have moved, and none has begun

abbrev pub stepped : Run → Board → List Op → (ℕ → Bool) → Run
stepped r b' l u = record { place = r.place + 1; board = b'; ops = l; up = u }

pub inv_step : {σ : Setup} (r : Run) (b' : Board) (l : List Op) (u : ℕ → Bool) → Inv σ r → BoardOk (Known σ l) σ b' → Each (Moves σ r.place r.board b') r.ops l
    → ((c : ℕ) → c < σ.m → is_waiting (console_at b' c).state ≡ true → is_waiting (console_at r.board c).state ≡ true)
    → ((j : ℕ) → j < σ.n → (node_at b' j).up ≡ u j) → Inv σ (stepped r b' l u)
inv_step r b' l u h k es w v = record {
  ok = k;
  ops = all_each (λ x y mv _. mv.ok) es h.ops;
  pairs = pairs_move es h.ops h.pairs;
  waits = λ c cm z. any_each (open_move c z) es (h.waits c cm (w c cm z));
  alone = λ c. omega (arith, h.alone c, alone_moves es c);
  ups = v;
}

-- every open operation is of another console than c
pub all_apart : {σ : Setup} {place c : ℕ} {b b' : Board} {l : List Op} → σ.n ≤ 5 → Beside σ c b b' → ((d : ℕ) → d < σ.m → is_waiting (console_at b d).state ≡ true → d ≢ c)
    → All (OpOk σ place b) l → Each (Moves σ place b b') l l
all_apart five s a = each_same (λ x h. apart_moves x five s (λ e. a x.console h.console_m (h.waits e)) h)

-- a refused step
pub inv_refused : {σ : Setup} (r : Run) → Inv σ r → Inv σ (stepped r r.board r.ops r.up)
inv_refused {σ} r h = inv_step r r.board r.ops r.up h h.ok
    (all_apart h.ok.shape.allowed.n_5 (beside_same σ.m r.board) (λ d l _. omega arith) h.ops) (λ c _ w. w) h.ups

-- a waiting console other than c waits before as after
pub waits_beside : {σ : Setup} {c : ℕ} {b b' : Board} → Beside σ c b b' → (is_waiting (console_at b' c).state ≡ true → is_waiting (console_at b c).state ≡ true)
    → (d : ℕ) → is_waiting (console_at b' d).state ≡ true → is_waiting (console_at b d).state ≡ true
waits_beside {σ} {c} {b} {b'} s own d = go (eqb d c) refl
  where
    go : (x : Bool) → eqb d c ≡ x → is_waiting (console_at b' d).state ≡ true → is_waiting (console_at b d).state ≡ true
    go true e = rw (eqb-true d c e) own
    go false e = rw (s.console d (eqb-false d c e)) (λ w. w)
