-- Laws of the calls.
use Prim.Native.Nat.{ℕ, ◌/◌, ◌≤◌, ◌<◌}
use mathlib.Core.Bool.{Bool, true, false, cond}
use mathlib.Core.List.{List}
use mathlib.Core.Path.{◌≡◌, refl, sym, ap, ◌∙◌}
use native.Mathlib.Omega.{arith}
use borrow.Author.Tests.{leb-true, leb-false, le-leb, lt-leb, ne_eqb, eq-eqb}
use lib.Dec.{eqb, leb}
use Rattle.board.specs.declared.Answer.{Answer}
use Rattle.board.specs.declared.Preview.{Preview}
use Rattle.layout.specs.Layout.{board_words}
use Rattle.hatukeno.specs.Lists.{list_short_by}
use Rattle.hatukeno.specs.Calls.{answer_words, put_answer, kept, returned_by, short_by, code, Called}
use Rattle.hatukeno.specs.Previews.{put_preview, Previewed}
use Rattle.hatukeno.specs.Turns.{put_turn, turn_in, TurnCalled}
use Rattle.std.specs.Prelude.{Err}
use Rattle.hatukeno.specs.declared.lengths.Short.{Short}
use Rattle.hatukeno.specs.declared.lengths.Short.TheVariants.{Board, Answers, Steps}

-- ---- lengths

pub short_board : (w s : ℕ) → w < board_words → 1 ≡ short_by w s
unfolding short_by
short_board w s l = go (leb board_words w) refl
  where
    go : (t : Bool) → leb board_words w ≡ t → 1 ≡ short_by w s
    go true e = absurd (omega (arith, leb-true board_words w e))
    go false e = rw e

pub short_answer : (w s : ℕ) → board_words ≤ w → s < answer_words → 2 ≡ short_by w s
unfolding short_by
short_answer w s g l = go (leb answer_words s) refl
  where
    go : (t : Bool) → leb answer_words s ≡ t → 2 ≡ short_by w s
    go true e = absurd (omega (arith, leb-true answer_words s e))
    go false e = rw (le-leb board_words w g, e)

pub long : (w s : ℕ) → board_words ≤ w → answer_words ≤ s → 0 ≡ short_by w s
unfolding short_by
long w s g h = rw (le-leb board_words w g, le-leb answer_words s h)

pub long_board : (w s : ℕ) → short_by w s ≡ 0 → board_words ≤ w
long_board w s e = go (leb board_words w) refl e
  where
    go : (t : Bool) → leb board_words w ≡ t → short_by w s ≡ 0 → board_words ≤ w
    go true f e = leb-true board_words w f
    go false f e = absurd (omega (arith, short_board w s (leb-false board_words w f), e))

pub long_answer : (w s : ℕ) → short_by w s ≡ 0 → answer_words ≤ s
long_answer w s e = go (leb answer_words s) refl e
  where
    go : (t : Bool) → leb answer_words s ≡ t → short_by w s ≡ 0 → answer_words ≤ s
    go true f e = leb-true answer_words s f
    go false f e = absurd (omega (arith, short_answer w s (long_board w s e) (leb-false answer_words s f), e))

-- a call of one step is a list of one
pub one_step : (w s : ℕ) → list_short_by w 3 s ≡ short_by w s
unfolding list_short_by short_by
one_step w s = ap (λ (x : Bool). cond (leb board_words w) (cond x 0 2) 1) (go (leb answer_words s) refl)
  where
    go : (t : Bool) → leb answer_words s ≡ t → leb 1 (s / answer_words) ≡ t
    go true e = le-leb 1 (s / answer_words) (omega (arith, leb-true answer_words s e))
    go false e = lt-leb 1 (s / answer_words) (omega (arith, leb-false answer_words s e))

-- what is short has a number
pub short_number : (x : Short) → returned_by (Err x) ≡ 0 → ⊥
short_number Board e = omega (arith, e)
short_number Answers e = omega (arith, e)
short_number Steps e = omega (arith, e)

-- ---- calls

-- whether anything is written, by what is returned
not_written : (w s : List ℕ) (r : ℕ) → r ≡ code w s → (r ≡ 0 → ⊥) → eqb (code w s) 0 ≡ false
not_written w s r e n = ne_eqb (code w s) 0 (λ d. n (e ∙ d))

is_written : (w s : List ℕ) → 0 ≡ code w s → eqb (code w s) 0 ≡ true
is_written w s e = eq-eqb (code w s) 0 (sym e)

-- if memory is short, nothing is written
pub not_called : (a : Answer) (w s : List ℕ) (r : ℕ) → r ≡ code w s → (r ≡ 0 → ⊥) → Called a w s r w s
not_called a w s r e n = record { returned = e; board = rw (not_written w s r e n); answer = rw (not_written w s r e n) }

pub called : (a : Answer) (w s : List ℕ) → 0 ≡ code w s → (w' s' : List ℕ) → w' ≡ kept w a → s' ≡ put_answer s 0 a → Called a w s 0 w' s'
called a w s e w' s' k t = record { returned = e; board = k ∙ rw (is_written w s e); answer = t ∙ rw (is_written w s e) }

pub not_previewed : (p : Preview) (w s : List ℕ) (r : ℕ) → r ≡ code w s → (r ≡ 0 → ⊥) → Previewed p w s r s
not_previewed p w s r e n = record { returned = e; answer = rw (not_written w s r e n) }

pub previewed : (p : Preview) (w s : List ℕ) → 0 ≡ code w s → (s' : List ℕ) → s' ≡ put_preview s p → Previewed p w s 0 s'
previewed p w s e s' t = record { returned = e; answer = t ∙ rw (is_written w s e) }

pub no_turn : (w s : List ℕ) (tile_waits r : ℕ) → r ≡ code w s → (r ≡ 0 → ⊥) → TurnCalled w s tile_waits r s
no_turn w s tile_waits r e n = record { returned = e; turn = rw (not_written w s r e n) }

pub turn_called : (w s : List ℕ) (tile_waits : ℕ) → 0 ≡ code w s → (s' : List ℕ) → s' ≡ put_turn s (turn_in w s tile_waits) → TurnCalled w s tile_waits 0 s'
turn_called w s tile_waits e s' t = record { returned = e; turn = t ∙ rw (is_written w s e) }
