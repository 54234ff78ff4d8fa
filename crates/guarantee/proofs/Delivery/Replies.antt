-- A reply is taken in by an asking console: heard below the asking size, and at it the console turns, or finishes early.
use Prim.Native.Nat.{ℕ, ◌+◌, ◌≤◌, ◌<◌}
use mathlib.Core.Bool.{true, false, not}
use mathlib.Core.Path.{refl, ap, ◌≡◌}
use native.Mathlib.Omega.{arith}
use borrow.Author.Tests.{not-true}
use lib.Dec.{eqb}
use Rattle.std.specs.Prelude.{Some}
use Rattle.parts.proofs.FiniteLaws.{and_left, and_right}
use Rattle.parts.specs.AnsweredSet.{insert, member, size}
use Rattle.parts.specs.Finite.{one}
use Rattle.parts.specs.Parts.{is_asking, is_two, to_telling, writes}
use Rattle.parts.specs.Sizes.{ask_size}
use Rattle.parts.specs.Tags.{compared}
use Rattle.parts.specs.declared.Console.{Console}
use Rattle.parts.specs.declared.Frame.{Frame}
use Rattle.parts.specs.declared.Frame.TheVariants.{Nothing, Put, Reply}
use Rattle.parts.specs.declared.Outcome.TheVariants.{Heard, Turned}
use Rattle.parts.specs.declared.Setup.{Setup}
use Rattle.parts.specs.declared.Tag.{Tag}
use Rattle.decisions.specs.Changes.{hears, next_tag, tells}
use Rattle.decisions.specs.Deliver.{finishes_early}
use Rattle.board.specs.Answers.{answer_with}
use Rattle.board.specs.Boards.{console_at, frame_at, node_at, with_console, with_frame, with_row}
use Rattle.board.specs.declared.Board.{Board}
use Rattle.guarantee.proofs.Laws.Sets.{insert_small}
use Rattle.guarantee.proofs.Laws.Tags.{Small, key}
use Rattle.guarantee.proofs.Laws.Sizes.{tell_le_ask}
use Rattle.guarantee.proofs.Laws.States.{ask_size_for, asking_waits, turns}
use Rattle.guarantee.proofs.Board.Shapes.{console_same, row_beyond, row_same, shape_row}
use Rattle.guarantee.proofs.Board.Views.{finished, turned}
use Rattle.guarantee.proofs.Board.Rows.{RowOk, early_held, heard_all, heard_backed, heard_floor, heard_row, turned_floor, turned_row}
use Rattle.guarantee.proofs.Board.Boards.{Beside, BoardOk, Passes, TagKind, beside_console, beside_row, beside_trans, kept, same_floor, same_row, tags}
use Rattle.guarantee.proofs.Board.Consoles.{WaitsOk, asking_zero, console_state, hears_kind, hears_ok, tells_kind, tells_ok}
use Rattle.guarantee.proofs.Delivery.Spent.{earlier, earlier_asking, earlier_telling, phase_le, spent, spent_heard}
use Rattle.guarantee.proofs.Delivery.Effects.{Delivery, Effect, RowFloor, c_8, change, console_going, console_ok_lem, console_side, console_ups, five, going, reply_kind, row_of, small_of, spent_at, turns_now, waiting}
use Rattle.guarantee.proofs.Delivery.Finishes.{finish_effect}

-- only a read finishes early, and only with the mark on; the release is of no account to what follows
early_reads : (σ : Setup) (x : Console) → finishes_early σ x ≡ true → writes x.state ≡ false
unfolding finishes_early
early_reads σ x e = not-true (writes x.state) (and_left (not (writes x.state)) x.alike (and_right (is_two σ.release) _ e))

early_alike : (σ : Setup) (x : Console) → finishes_early σ x ≡ true → x.alike ≡ true
unfolding finishes_early
early_alike σ x e = and_right (not (writes x.state)) x.alike (and_right (is_two σ.release) _ e)

module _ {K : TagKind} {σ : Setup} {b : Board} {c k : ℕ} (d : Delivery K σ b c k)
    (u : Tag) (v : ℕ) (e : frame_at b c k ≡ Reply u v) (p : is_asking (console_at b c).state ≡ true) (un : member (console_at b c).answered k ≡ false) where
  -- the console with the reply taken in
  abbrev x₁ : Console
  x₁ = hears (console_at b c) k u v

  abbrev row₁ : ℕ → Frame
  row₁ = frame_at (with_frame b c k Nothing) c

  was_waiting : WaitsOk σ (console_at b c).state (console_at b c)
  was_waiting = waiting d (asking_waits (console_at b c).state p)

  fewer : size (console_at b c).answered < ask_size σ
  fewer = omega (arith, was_waiting.fewer, ask_size_for σ (console_at b c).state p)

  best_small : Small (console_at b c).best
  best_small = small_of d (console_at b c).best (console_at b c).value (d.ok.tagged.best c d.c_m)

  reply_small : Small u
  reply_small = small_of d u v (reply_kind d e)

  none_yet : eqb (console_at b c).answered 0 ≡ true → key (console_at b c).best ≡ 0
  none_yet = asking_zero σ (console_at b c) (console_at b c).state p (d.ok.console_in_lem c d.c_m).state

  heard_kind : K x₁.best x₁.value
  heard_kind = hears_kind K (console_at b c) k u v (d.ok.tagged.best c d.c_m) (reply_kind d e)

  hear_spent : spent_at σ b c + 1 ≤ spent σ x₁ row₁
  unfolding spent hears
  hear_spent = omega (arith, spent_heard σ.n k (console_at b c).answered (frame_at b c) row₁ (five d) d.k_n was_waiting.small un (rw e) (change d Nothing))

  -- whether or not the asking ends with it
  hear_row : RowOk σ x₁ row₁ (tags b)
  hear_row = heard_row σ (five d) k d.k_n (console_at b c) u v (frame_at b c) row₁ (tags b) best_small reply_small was_waiting.small e (change d Nothing) none_yet p (row_of d)

  -- once an asking group has answered, the operation's floor is under best
  floor_heard : ask_size σ ≤ size (insert (console_at b c).answered k) → (t : ℕ) → RowFloor σ b c t → t ≤ key x₁.best
  unfolding hears
  floor_heard all t g = heard_all σ d.ok.shape.allowed x₁ row₁ (tags b) t (insert_small σ.n (console_at b c).answered k (five d) was_waiting.small d.k_n) all
      (heard_backed σ (five d) k d.k_n (console_at b c) u v (frame_at b c) row₁ (tags b) best_small reply_small was_waiting.small e (change d Nothing) t (g.asks p))

  -- ---- heard

  pub hear_effect : size (insert (console_at b c).answered k) < ask_size b.setup → Effect K σ c b (answer_with (Some (compared u (console_at b c).best)) Heard (with_console (with_frame b c k Nothing) c x₁))
  unfolding hears
  hear_effect few = record {
    ok = console_ok_lem d x₁ heard_kind (hears_ok σ (console_at b c) k u v (five d) d.k_n p was_waiting un (omega (arith, few, ap ask_size d.ok.shape.setup_is)) (d.ok.console_in_lem c d.c_m).life) hear_row;
    beside = console_side d x₁;
    ups = console_ups d x₁;
    own = going refl (console_going d x₁ refl
        (λ t. heard_floor σ (five d) k d.k_n (console_at b c) u v (frame_at b c) row₁ (tags b) best_small reply_small was_waiting.small e (change d Nothing) t p)
        hear_spent);
  }

  -- ---- finished early

  pub early_effect : ask_size σ ≤ size (insert (console_at b c).answered k) → finishes_early b.setup x₁ ≡ true → Effect K σ c b (finished (Some (compared u (console_at b c).best)) b c k x₁)
  unfolding hears
  early_effect all early = finish_effect d x₁ (Some (compared u (console_at b c).best)) (record {
    life = (d.ok.console_in_lem c d.c_m).life;
    waits = asking_waits (console_at b c).state p;
    held = early_held σ x₁ row₁ (tags b) (five d) p (early_alike b.setup x₁ early) (omega (arith, all, tell_le_ask σ)) hear_row;
    floor = λ t g. omega (arith, floor_heard all t g, ap one (early_reads b.setup x₁ early));
    tagged = heard_kind;
  })

  -- ---- turned

  abbrev x₂ : Console
  x₂ = tells c x₁

  abbrev told : Board
  told = with_row b c (Put x₂.best x₂.value)

  turn_console : console_at (turned b c x₁) c ≡ x₂
  unfolding turned
  turn_console = console_same told (shape_row b c (Put x₂.best x₂.value) d.ok.shape) c x₂ (c_8 d)

  -- its state on the next board
  pub turn_state : (console_at (turned b c x₁) c).state ≡ to_telling (console_at b c).state
  unfolding tells hears
  turn_state = ap (λ (y : Console). y.state) turn_console

  turn_side : Beside σ c b (turned b c x₁)
  unfolding turned
  turn_side = beside_trans (beside_row b c (Put x₂.best x₂.value) d.ok.shape) (beside_console told c x₂)

  turn_frame : (j : ℕ) → j < σ.n → frame_at (turned b c x₁) c j ≡ Put x₂.best x₂.value
  unfolding turned frame_at with_console
  turn_frame j l = row_same b d.ok.shape c j (Put x₂.best x₂.value) d.c_m l

  turn_beyond : (j : ℕ) → σ.n ≤ j → j < 5 → frame_at (turned b c x₁) c j ≡ frame_at b c j
  unfolding turned frame_at with_console
  turn_beyond j l i = row_beyond b d.ok.shape c j (Put x₂.best x₂.value) l

  module _ (chosen : writes (console_at b c).state ≡ true → K (next_tag c x₁) (console_at b c).wanted) (all : ask_size σ ≤ size (insert (console_at b c).answered k)) where
    turn_ok_state : Passes σ (to_telling (console_at b c).state) x₂
    unfolding hears
    turn_ok_state = tells_ok σ c x₁ d.ok.shape.allowed p was_waiting.want (d.ok.console_in_lem c d.c_m).life

    turn_kind : K x₂.best x₂.value
    unfolding hears
    turn_kind = tells_kind K c x₁ heard_kind chosen

    turn_row : RowOk σ x₂ (frame_at (turned b c x₁) c) (tags b)
    unfolding hears
    turn_row = turned_row σ c x₁ (frame_at (turned b c x₁) c) (tags b) (five d) p turn_frame

    turn_ok : BoardOk K σ (turned b c x₁)
    unfolding node_at with_console with_row tells turned hears
    turn_ok = kept c b (turned b c x₁) d.c_m turn_side d.ok d.ok.tagged.node (rw turn_console turn_kind) (console_state σ turn_console refl turn_ok_state)
        (λ j l. rw (turn_frame j l) turn_kind) turn_beyond (same_row σ turn_console (λ _ _. refl) turn_row)

    turn_floor : (t : ℕ) → RowFloor σ b c t → RowFloor σ (turned b c x₁) c t
    unfolding node_at with_console with_row turned hears
    turn_floor t g = same_floor σ turn_console (λ _ _. refl) (turned_floor σ c x₁ (frame_at (turned b c x₁) c) (tags b) t p (small_of d x₁.best x₁.value heard_kind) (floor_heard all t g))

    turn_spends : spent_at σ b c + 1 ≤ spent_at σ (turned b c x₁) c
    unfolding spent
    turn_spends = omega (
      arith,
      phase_le σ.n (console_at b c) (frame_at b c) (five d) was_waiting.small,
      fewer,
      earlier_asking σ (console_at b c).state p,
      ap (earlier σ) turn_state,
      earlier_telling σ (to_telling (console_at b c).state) (turns (console_at b c).state p).0,
    )

    turn_ups : (j : ℕ) → (node_at (turned b c x₁) j).up ≡ (node_at b j).up
    unfolding node_at with_console with_row turned
    turn_ups j = refl

    pub turn_effect : Effect K σ c b (answer_with (Some (compared u (console_at b c).best)) Turned (turned b c x₁))
    turn_effect = record {
      ok = turn_ok;
      beside = turn_side;
      ups = turn_ups;
      own = turns_now (record { asked = p; state = turn_state; floor = turn_floor; spends = turn_spends });
    }
