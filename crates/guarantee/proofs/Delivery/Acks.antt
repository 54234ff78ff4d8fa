-- An ack is taken in by a telling console: heard below the telling size, and at it the operation is finished.
use Prim.Native.Nat.{ℕ, ◌+◌, ◌≤◌, ◌<◌}
use mathlib.Core.Bool.{true, false}
use mathlib.Core.Path.{refl, ap, ◌≡◌}
use native.Mathlib.Omega.{arith}
use Rattle.parts.specs.AnsweredSet.{insert, member, size}
use Rattle.parts.specs.Parts.{is_telling}
use Rattle.parts.specs.Sizes.{tell_size}
use Rattle.std.specs.Prelude.{None}
use Rattle.parts.specs.declared.Console.{Console}
use Rattle.parts.specs.declared.Frame.{Frame}
use Rattle.parts.specs.declared.Frame.TheVariants.{Ack, Nothing}
use Rattle.parts.specs.declared.Outcome.TheVariants.{Heard}
use Rattle.parts.specs.declared.Setup.{Setup}
use Rattle.decisions.specs.Changes.{acked}
use Rattle.board.specs.Answers.{answer}
use Rattle.board.specs.Boards.{console_at, frame_at, with_console, with_frame}
use Rattle.board.specs.declared.Board.{Board}
use Rattle.guarantee.proofs.Laws.Tags.{key}
use Rattle.guarantee.proofs.Laws.States.{telling_waits}
use Rattle.guarantee.proofs.Board.Views.{finished}
use Rattle.guarantee.proofs.Board.Rows.{Held, RowOk, acked_floor, acked_row, finished_held}
use Rattle.guarantee.proofs.Board.Boards.{TagKind, tags}
use Rattle.guarantee.proofs.Board.Consoles.{WaitsOk, acked_ok}
use Rattle.guarantee.proofs.Delivery.Spent.{spent, spent_heard}
use Rattle.guarantee.proofs.Delivery.Effects.{Delivery, Effect, change, console_going, console_ok_lem, console_side, console_ups, five, going, row_of, spent_at, waiting}
use Rattle.guarantee.proofs.Delivery.Finishes.{finish_effect}

module _ {K : TagKind} {σ : Setup} {b : Board} {c k : ℕ} (d : Delivery K σ b c k)
    (e : frame_at b c k ≡ Ack) (p : is_telling (console_at b c).state ≡ true) (un : member (console_at b c).answered k ≡ false) where
  -- the console with the ack taken in
  abbrev x₁ : Console
  x₁ = acked (console_at b c) k

  abbrev row₁ : ℕ → Frame
  row₁ = frame_at (with_frame b c k Nothing) c

  was_waiting : WaitsOk σ (console_at b c).state (console_at b c)
  was_waiting = waiting d (telling_waits (console_at b c).state p)

  ack_row : RowOk σ x₁ row₁ (tags b)
  ack_row = acked_row σ (five d) k d.k_n (console_at b c) (frame_at b c) row₁ (tags b) p was_waiting.small e (change d Nothing) (row_of d)

  ack_spent : spent σ x₁ row₁ ≡ spent_at σ b c + 1
  unfolding spent acked
  ack_spent = omega (arith, spent_heard σ.n k (console_at b c).answered (frame_at b c) row₁ (five d) d.k_n was_waiting.small un (rw e) (change d Nothing))

  pub hear_ack_effect : size (insert (console_at b c).answered k) < tell_size b.setup → Effect K σ c b (answer Heard (with_console (with_frame b c k Nothing) c x₁))
  unfolding acked
  hear_ack_effect few = record {
    ok = console_ok_lem d x₁ (d.ok.tagged.best c d.c_m) (acked_ok σ (console_at b c) k (five d) d.k_n p was_waiting (d.ok.console_in_lem c d.c_m).mark (omega (arith, few, ap tell_size d.ok.shape.setup_is)) (d.ok.console_in_lem c d.c_m).life) ack_row;
    beside = console_side d x₁;
    ups = console_ups d x₁;
    own = going refl (console_going d x₁ refl
        (λ t. acked_floor σ (five d) k d.k_n (console_at b c) (frame_at b c) row₁ (tags b) p was_waiting.small e (change d Nothing) t)
        (omega (arith, ack_spent)));
  }

  ack_held : tell_size σ ≤ size (insert (console_at b c).answered k) → Held σ (tags b) (key (console_at b c).best)
  unfolding acked
  ack_held all = finished_held σ x₁ row₁ (tags b) (five d) p all ack_row

  pub last_ack_effect : tell_size σ ≤ size (insert (console_at b c).answered k) → Effect K σ c b (finished None b c k x₁)
  unfolding acked
  last_ack_effect all = finish_effect d x₁ None (record {
    life = (d.ok.console_in_lem c d.c_m).life;
    waits = telling_waits (console_at b c).state p;
    held = ack_held all;
    floor = λ t g. g.tells p;
    tagged = d.ok.tagged.best c d.c_m;
  })
