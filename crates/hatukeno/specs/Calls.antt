-- Steps on a board that stands in lent words: one step a call (Called). The answer goes into seven words lent beside
-- it.
use Rattle.std.specs.Prelude.{ℕ, cond, List, [], ◌∷◌, ◌≡◌, eqb, leb, length, Result, Ok, Err}
use Rattle.std.proofs.lemmas.List.Edits.{sets}
use Rattle.parts.specs.Outcomes.{accepted, outcome_number, outcome_tag, outcome_value, compared_number}
use Rattle.decisions.specs.Refusals.{refusal_number}
use Rattle.parts.specs.declared.Outcome.{Outcome}
use Rattle.board.specs.declared.Answer.{Answer}
use Rattle.layout.specs.Layout.{board_words, encoded}
use Rattle.hatukeno.specs.declared.lengths.Short.{Short}
use Rattle.hatukeno.specs.declared.lengths.Short.TheVariants.{Board, Answers, Steps}

-- the words of an answer
abbrev pub answer_words : ℕ
answer_words = 7

-- outcome, refusal, the tag's ts and console, value, a sixth word, and the tag's life
unfoldable pub said_fields : Outcome → ℕ → ℕ → List ℕ
said_fields o r x =
    outcome_number o
    ∷ r
    ∷ (outcome_tag o).ts ∷ (outcome_tag o).console
    ∷ outcome_value o
    ∷ x
    ∷ (outcome_tag o).life
    ∷ []

-- an answer says sixth how a reply compared
unfoldable pub answer_fields : Answer → List ℕ
answer_fields a = said_fields a.outcome (refusal_number a.refusal) (compared_number a.compared)

-- in the words from p on
unfoldable pub put_answer : List ℕ → ℕ → Answer → List ℕ
put_answer s p a = sets s p (answer_fields a)

-- on a refusal nothing of the lent board is written
unfoldable pub kept : List ℕ → Answer → List ℕ
kept w a = cond (accepted a.outcome) (encoded w a.board) w

-- by the lengths, 0: the step was put to the board; 1: there are too few words for a board; 2: too few for an answer
unfoldable pub short_by : ℕ → ℕ → ℕ
short_by w s = cond (leb board_words w) (cond (leb answer_words s) 0 2) 1

-- what a call returns of what is lent to it: why it is short, or that it is not
abbrev pub returned_by : Result (Unit {0}) Short → ℕ
returned_by (Ok u) = 0
returned_by (Err Board) = 1
returned_by (Err Answers) = 2
returned_by (Err Steps) = 3

abbrev pub code : List ℕ → List ℕ → ℕ
code w s = short_by (length w) (length s)

-- a call of a step that answers a: what it returns, and the words of the board and of the answer after it. If memory is
-- short, nothing is written
pub record Called (a : Answer) (w s : List ℕ) (r : ℕ) (w' s' : List ℕ) : Type 0 where
  pub returned : r ≡ code w s
  pub board : w' ≡ cond (eqb (code w s) 0) (kept w a) w
  pub answer : s' ≡ cond (eqb (code w s) 0) (put_answer s 0 a) s
