-- What is claimed of every step on every board, reached by a run or not: demand 1, and that a well-formed board stays so.
-- proofs/Refusals.antt and proofs/KeepsFormed.antt prove it.
use Rattle.std.specs.Prelude.{ℕ, true, false, List, [], ◌∷◌, ◌≡◌, None, Some}
use Rattle.parts.specs.declared.Setup.{Setup}
use Rattle.parts.specs.Outcomes.{accepted}
use Rattle.decisions.specs.Refusals.{refusal_number, refusal_of}
use Rattle.board.specs.declared.Board.{Board}
use Rattle.board.specs.declared.Answer.{Answer}
use Rattle.board.specs.Boards.{fresh_board}
use Rattle.board.specs.WellFormed.{well_formed}
use Rattle.board.specs.Steps.{fresh, smallest}
use Rattle.board.specs.Runs.{Step, BeginRead, BeginWrite, Deliver, NodeDown, ConsoleDown, NodeUp, Restart, step}
use Rattle.guarantee.specs.Claim.{Any}

-- ---- demand 1

-- the refusals that a step may give (document 01, 'Questions put before each step'; node up's: document 02, Paper 2;
-- restart's: Paper 7), written out, so that the claim does not go by the steps' own lists. That each of them is given
-- is seen in board's OrderRuns and RestartRuns
abbrev pub may_refuse : Step → List ℕ
may_refuse (BeginRead c) = 1 ∷ 4 ∷ 6 ∷ 7 ∷ []
may_refuse (BeginWrite c v) = 1 ∷ 4 ∷ 6 ∷ 7 ∷ []
may_refuse (Deliver c k) = 1 ∷ 4 ∷ 5 ∷ 8 ∷ 9 ∷ 10 ∷ []
may_refuse (NodeDown k) = 1 ∷ 5 ∷ 9 ∷ []
may_refuse (ConsoleDown c) = 1 ∷ 4 ∷ 6 ∷ []
may_refuse (NodeUp k) = 1 ∷ 5 ∷ 14 ∷ []
may_refuse (Restart c) = 1 ∷ 4 ∷ 15 ∷ 16 ∷ []

-- the answer of a step whose refusals hand back b and have one of these numbers
pub record Numbered (b : Board) (numbers : List ℕ) (a : Answer) : Type 0 where
  -- 'a refused step hands back, unchanged, the board it was given'
  pub refused_board : accepted a.outcome ≡ false → a.board ≡ b
  -- 'every step .. ends with a result or one of the numbered refusals'
  pub refused_number : accepted a.outcome ≡ false → Any (λ r. refusal_number a.refusal ≡ r) numbers
  pub accepted_number : accepted a.outcome ≡ true → refusal_number a.refusal ≡ 0
  -- and the refusal is the one of that number in the papers, none where the step is accepted
  pub refused_case : accepted a.outcome ≡ false → Any (λ r. a.refusal ≡ Some (refusal_of r)) numbers
  pub accepted_case : accepted a.outcome ≡ true → a.refusal ≡ None

-- 'every step on every input, a mangled board included'; of fresh, which is given no board, below
abbrev pub Demand1 : Type 0
Demand1 = (b : Board) (s : Step) → Numbered b (may_refuse s) (step b s)

-- 'fresh refused hands back the fresh board of one node and one console'
abbrev pub FreshNumbered : Type 0
FreshNumbered = (σ : Setup) → Numbered (fresh_board smallest) (2 ∷ 3 ∷ []) (fresh σ)

-- ---- well formed stays well formed

abbrev pub StaysFormed : Type 0
StaysFormed = (b : Board) (s : Step) → well_formed b ≡ true → well_formed (step b s).board ≡ true

-- accepted or refused
abbrev pub FreshFormed : Type 0
FreshFormed = (σ : Setup) → well_formed (fresh σ).board ≡ true
