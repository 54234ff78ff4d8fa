-- Laws of lists of steps.
use Prim.Native.Nat.{ℕ, zero, suc, ◌+◌, ◌*◌, ◌/◌, ◌≤◌, ◌<◌}
use mathlib.Core.Bool.{Bool, true, false, cond, ◌||◌}
use mathlib.Core.List.{List, []}
use mathlib.Core.Path.{◌≡◌, refl, sym, ap, ◌∙◌}
use native.Mathlib.Numerals.{add-one}
use native.Mathlib.Omega.{arith}
use borrow.Author.Tests.{leb-true, leb-false, le-leb, ne_eqb, eq-eqb}
use lib.Dec.{eqb, leb}
use lib.ListN.{length, get_or, drop}
use Rattle.std.specs.Simd.{first_chunks}
use Rattle.std.proofs.lemmas.List.{get_or-take, get_or-drop}
use Rattle.verbs.specs.Verbs.{step_of}
use Rattle.parts.specs.Outcomes.{accepted}
use Rattle.board.specs.declared.Answer.{Answer}
use Rattle.board.specs.declared.Board.{Board}
use Rattle.layout.specs.Layout.{board_words, word}
use Rattle.hatukeno.specs.declared.Midway.{Midway}
use Rattle.hatukeno.specs.Calls.{answer_words, put_answer}
use Rattle.hatukeno.specs.Lists.{step_words, step_at, go_on, midway, answers, kept_after, steps_in, last_of, answers_of, list_short_by, list_code, Ran}

-- ---- lengths

module _ (w q s : ℕ) where
  pub list_short_board : w < board_words → 1 ≡ list_short_by w q s
  unfolding list_short_by
  list_short_board l = go (leb board_words w) refl
    where
      go : (t : Bool) → leb board_words w ≡ t → 1 ≡ list_short_by w q s
      go true e = absurd (omega (arith, leb-true board_words w e))
      go false e = rw e

  pub list_short_answers : board_words ≤ w → s / answer_words < q / step_words → 2 ≡ list_short_by w q s
  unfolding list_short_by
  list_short_answers g l = go (leb (q / step_words) (s / answer_words)) refl
    where
      go : (t : Bool) → leb (q / step_words) (s / answer_words) ≡ t → 2 ≡ list_short_by w q s
      go true e = absurd (omega (arith, leb-true (q / step_words) (s / answer_words) e))
      go false e = rw (le-leb board_words w g, e)

  pub list_long_board : list_short_by w q s ≡ 0 → board_words ≤ w
  list_long_board e = go (leb board_words w) refl
    where
      go : (t : Bool) → leb board_words w ≡ t → board_words ≤ w
      go true f = leb-true board_words w f
      go false f = absurd (omega (arith, list_short_board (leb-false board_words w f), e))

  pub list_long_answers : list_short_by w q s ≡ 0 → steps_in q * answer_words ≤ s
  list_long_answers e = go (leb (q / step_words) (s / answer_words)) refl
    where
      go : (t : Bool) → leb (q / step_words) (s / answer_words) ≡ t → steps_in q * answer_words ≤ s
      go true f = omega (arith, leb-true (q / step_words) (s / answer_words) f)
      go false f = absurd (omega (arith, list_short_answers (list_long_board e) (leb-false (q / step_words) (s / answer_words) f), e))

-- ---- one step more

-- the words of a list's steps, three for each
three_of : (q : List ℕ) (n i j : ℕ) → i < n → j < step_words → get_or (get_or (first_chunks step_words n q) i []) j 0 ≡ word q (i * step_words + j)
three_of q zero i j l m = absurd (omega arith)
three_of q (suc n) zero j l m =
    let at : j ≡ 0 * step_words + j = omega arith in
    get_or-take step_words q j 0 m ∙ ap (word q) at
three_of q (suc n) (suc i) j l m =
    let at : step_words + (i * step_words + j) ≡ suc i * step_words + j = omega arith in
    three_of (drop step_words q) n i j (omega arith) m ∙ get_or-drop step_words q (i * step_words + j) 0 ∙ ap (word q) at

pub step_is : (q : List ℕ) (steps : List (List ℕ)) (i : ℕ) (b : Board) → steps ≡ first_chunks step_words (steps_in (length q)) q → i < steps_in (length q)
    → step_of (word (get_or steps i []) 0) (word (get_or steps i []) 1) (word (get_or steps i []) 2) b ≡ step_at q i b
unfolding step_at
step_is q steps i b e l =
    let at : i * step_words + 0 ≡ i * step_words = omega arith in
    rw (e, three_of q (steps_in (length q)) i 0 l (omega arith), three_of q (steps_in (length q)) i 1 l (omega arith), three_of q (steps_in (length q)) i 2 l (omega arith), at)

-- the board after a step, and whether one was accepted so far
pub went_on : (x : Midway) (a : Answer) (b : Board) (m : Bool) → b ≡ cond (accepted a.outcome) a.board x.board → m ≡ (x.moved || accepted a.outcome)
    → ◌≡◌ {A = Midway} (record { board = b; moved = m }) (go_on x a)
unfolding go_on
went_on x a b m e f = go (accepted a.outcome) x.moved refl e f
  where
    go : (y z : Bool) → z ≡ x.moved → b ≡ cond y a.board x.board → m ≡ (z || y)
        → ◌≡◌ {A = Midway} (record { board = b; moved = m }) (cond y (record { board = a.board; moved = true }) x)
    go true true g e f = rw (e, f)
    go true false g e f = rw (e, f)
    go false true g e f = rw (e, f, g)
    go false false g e f = rw (e, f, g)

pub midway_more : (q : List ℕ) (b : Board) (k : ℕ) → go_on (midway q b k) (step_at q k (midway q b k).board) ≡ midway q b (k + 1)
unfolding midway
midway_more q b k = rw add-one

pub answers_more : (q : List ℕ) (b : Board) (s : List ℕ) (k : ℕ) → put_answer (answers q b s k) (k * answer_words) (step_at q k (midway q b k).board) ≡ answers q b s (k + 1)
unfolding answers
answers_more q b s k = rw add-one

-- ---- calls

-- if a length does not fit, nothing is written
pub not_ran : (w q s : List ℕ) (r : ℕ) → r ≡ list_code w q s → (r ≡ 0 → ⊥) → Ran w q s r w s
not_ran w q s r e n = record { returned = e; board = rw off; answered = rw off }
  where
    off : eqb (list_code w q s) 0 ≡ false
    off = ne_eqb (list_code w q s) 0 (λ d. n (e ∙ d))

pub ran : (w q s : List ℕ) (r : ℕ) → r ≡ list_code w q s → r ≡ 0 → (w' s' : List ℕ) → w' ≡ kept_after w (last_of w q) → s' ≡ answers_of w q s → Ran w q s 0 w' s'
ran w q s r e z w' s' k t = record { returned = sym z ∙ e; board = k ∙ rw on; answered = t ∙ rw on }
  where
    on : eqb (list_code w q s) 0 ≡ true
    on = eq-eqb (list_code w q s) 0 (sym e ∙ z)
