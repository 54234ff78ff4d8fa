-- A list of steps put to one board that stands in lent words (Ran): three words a step, seven words an answer.
use Rattle.std.specs.Prelude.{ℕ, zero, suc, ◌+◌, ◌*◌, ◌/◌, ◌%◌, true, false, cond, List, ◌≡◌, eqb, leb, length}
use Rattle.parts.specs.Outcomes.{accepted}
use Rattle.board.specs.declared.Answer.{Answer}
use Rattle.board.specs.declared.Board.{Board}
use Rattle.verbs.specs.Verbs.{step_of}
use Rattle.layout.specs.Layout.{board_words, word, encoded}
use Rattle.layout.specs.Standing.{decoded}
use Rattle.hatukeno.specs.declared.Midway.{Midway}
use Rattle.hatukeno.specs.Calls.{answer_words, put_answer}

-- the words of a step
abbrev pub step_words : ℕ
step_words = 3

-- the step at place i of the list q: its verb and its two numbers
unfoldable pub step_at : List ℕ → ℕ → Board → Answer
step_at q i = step_of (word q (i * step_words)) (word q (i * step_words + 1)) (word q (i * step_words + 2))

-- a refused step leaves the board as it was, a refused fresh too
unfoldable pub go_on : Midway → Answer → Midway
go_on x a = cond (accepted a.outcome) (record { board = a.board; moved = true }) x

-- the board after the first k steps, and whether one of them was accepted
unfoldable pub midway : List ℕ → Board → ℕ → Midway
midway q b zero = record { board = b; moved = false }
midway q b (suc k) = go_on (midway q b k) (step_at q k (midway q b k).board)

-- the answers of the first k steps, each at its place in s
unfoldable pub answers : List ℕ → Board → List ℕ → ℕ → List ℕ
answers q b s zero = s
answers q b s (suc k) = put_answer (answers q b s k) (k * answer_words) (step_at q k (midway q b k).board)

-- if every step was refused nothing of the lent board is written
unfoldable pub kept_after : List ℕ → Midway → List ℕ
kept_after w x = cond x.moved (encoded w x.board) w

-- the steps in so many words
abbrev pub steps_in : ℕ → ℕ
steps_in q = q / step_words

-- the board after the whole list q, if the words are w, and all its answers
abbrev pub last_of : List ℕ → List ℕ → Midway
last_of w q = midway q (decoded w) (steps_in (length q))

abbrev pub answers_of : List ℕ → List ℕ → List ℕ → List ℕ
answers_of w q s = answers q (decoded w) s (steps_in (length q))

-- by the lengths, 0: the steps were put to the board; 1: there are too few words for a board; 2: too few for the answers;
-- 3: the words of the steps are not three for each
unfoldable pub list_short_by : ℕ → ℕ → ℕ → ℕ
list_short_by w q s = cond (leb board_words w) (cond (leb (steps_in q) (s / answer_words)) (cond (eqb (q % step_words) 0) 0 3) 2) 1

abbrev pub list_code : List ℕ → List ℕ → List ℕ → ℕ
list_code w q s = list_short_by (length w) (length q) (length s)

-- a call with a list of steps: what it returns, and the words of the board and of the answers after it. If a length does not
-- fit, nothing is written
pub record Ran (w q s : List ℕ) (r : ℕ) (w' s' : List ℕ) : Type 0 where
  pub returned : r ≡ list_code w q s
  pub board : w' ≡ cond (eqb (list_code w q s) 0) (kept_after w (last_of w q)) w
  pub answered : s' ≡ cond (eqb (list_code w q s) 0) (answers_of w q s) s
