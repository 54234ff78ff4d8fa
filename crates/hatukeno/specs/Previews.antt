-- The preview of a delivery on the board in lent words (document 02, Paper 8). The words of the board are read and not
-- written.
use Rattle.std.specs.Prelude.{ℕ, cond, List, ◌≡◌, eqb}
use Rattle.std.proofs.lemmas.List.Edits.{sets}
use Rattle.decisions.specs.Refusals.{refusal_number}
use Rattle.board.specs.declared.Preview.{Preview}
use Rattle.hatukeno.specs.Calls.{said_fields, code}

-- the frames in flight stand where an answer has the comparison
unfoldable pub preview_fields : Preview → List ℕ
preview_fields p = said_fields p.outcome (refusal_number p.refusal) p.in_flight

unfoldable pub put_preview : List ℕ → Preview → List ℕ
put_preview s p = sets s 0 (preview_fields p)

-- a call of a preview that gives p: what it returns, and the words of the answer after it. If memory is short, nothing
-- is written
pub record Previewed (p : Preview) (w s : List ℕ) (r : ℕ) (s' : List ℕ) : Type 0 where
  pub returned : r ≡ code w s
  pub answer : s' ≡ cond (eqb (code w s) 0) (put_preview s p) s
