-- An operation finishes, by its last ack or early by its last reply: the cell empties, and the console is idle again.
use Prim.Native.Nat.{ℕ, ◌+◌, ◌≤◌}
use mathlib.Core.Bool.{true}
use mathlib.Core.Path.{refl, ap, ◌≡◌}
use native.Mathlib.Omega.{arith}
use Rattle.parts.specs.Limits.{max_life}
use Rattle.parts.specs.Finite.{one}
use Rattle.parts.specs.Parts.{is_waiting, writes}
use Rattle.std.specs.declared.cmp.Ordering.{Ordering}
use Rattle.std.specs.Prelude.{Option}
use Rattle.parts.specs.declared.Console.{Console}
use Rattle.parts.specs.declared.Frame.TheVariants.{Nothing}
use Rattle.parts.specs.declared.Setup.{Setup}
use Rattle.parts.specs.declared.State.TheVariants.{Idle}
use Rattle.decisions.specs.Changes.{rests}
use Rattle.board.specs.Boards.{console_at, frame_at, node_at, with_console, with_frame}
use Rattle.board.specs.declared.Board.{Board}
use Rattle.guarantee.proofs.Laws.Tags.{key}
use Rattle.guarantee.proofs.Board.Views.{finished}
use Rattle.guarantee.proofs.Board.Rows.{Held, RowOk, rest_row}
use Rattle.guarantee.proofs.Board.Boards.{BoardOk, TagKind, tags}
use Rattle.guarantee.proofs.Board.Consoles.{rests_ok}
use Rattle.guarantee.proofs.Delivery.Effects.{Delivery, Effect, RowFloor, console_is, console_ok_lem, console_side, console_ups, ends_now, five, small_of, spent_below}

-- what a finish needs; with the last answer taken in the console is x, and best is the operation's tag
pub record Finishes (K : TagKind) (σ : Setup) (b : Board) (c : ℕ) (x : Console) : Type 0 where
  pub life : x.life ≤ max_life
  pub waits : is_waiting (console_at b c).state ≡ true
  pub held : Held σ (tags b) (key x.best)
  pub floor : (t : ℕ) → RowFloor σ b c t → t + one (writes (console_at b c).state) ≤ key x.best
  pub tagged : K x.best x.value

module _ {K : TagKind} {σ : Setup} {b : Board} {c k : ℕ} (d : Delivery K σ b c k) (x : Console) where
  abbrev idle_again : Console
  idle_again = rests Idle x

  abbrev next : Board
  next = with_console (with_frame b c k Nothing) c idle_again

  idle_row : RowOk σ idle_again (frame_at (with_frame b c k Nothing) c) (tags b)
  unfolding rests
  idle_row = rest_row σ idle_again (frame_at (with_frame b c k Nothing) c) (tags b) (five d) refl refl

  idle_ok : x.life ≤ max_life → BoardOk K σ next
  unfolding rests
  idle_ok l = console_ok_lem d idle_again d.fair.zero_in (rests_ok σ x l).0 idle_row

  is_idle : (console_at next c).state ≡ Idle
  unfolding rests
  is_idle = ap (λ (y : Console). y.state) (console_is d idle_again)

  still_held : Held σ (tags b) (key x.best) → Held σ (tags next) (key x.best)
  unfolding node_at with_console with_frame
  still_held h = h

  pub finish_effect : (how : Option Ordering) → Finishes K σ b c x → Effect K σ c b (finished how b c k x)
  unfolding finished
  finish_effect how f = record {
    ok = idle_ok f.life;
    beside = console_side d idle_again;
    ups = console_ups d idle_again;
    own = ends_now (record {
      waits = f.waits;
      idle = is_idle;
      held = still_held f.held;
      floor = f.floor;
      small = small_of d x.best x.value f.tagged;
      spends = omega (arith, spent_below b c d.ok d.c_m f.waits);
    });
  }
