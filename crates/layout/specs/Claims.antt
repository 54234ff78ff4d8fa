-- What is claimed of a board in words; proved in proofs/RoundTrip.antt, WrittenBack.antt and Damaged.antt.
use Rattle.std.specs.Prelude.{ℕ, ◌≤◌, true, false, List, ◌≡◌, length, Some}
use Rattle.parts.specs.declared.Outcome.TheVariants.{Refused}
use Rattle.decisions.specs.declared.refusals.Refusal.TheVariants.{NotWellFormed}
use Rattle.board.specs.declared.Board.{Board}
use Rattle.board.specs.Answers.{refuse}
use Rattle.board.specs.Boards.{no_board}
use Rattle.board.specs.Preview.{preview}
use Rattle.board.specs.Runs.{Step, step}
use Rattle.layout.specs.Layout.{board_words, encoded, Typed}
use Rattle.layout.specs.Standing.{stands, decoded}

-- a board that was written is read as it was
abbrev pub ReadBack : Type 0
ReadBack = (w : List ℕ) (b : Board) → board_words ≤ length w → Typed b → decoded (encoded w b) ≡ b

-- words that stand for a board are those that it is written as: no bit of them goes unread
abbrev pub WrittenBack : Type 0
WrittenBack = (w : List ℕ) → stands w ≡ true → encoded w (decoded w) ≡ w

-- all other words are refused with 1 by every step but fresh
abbrev pub DamageRefused : Type 0
DamageRefused = (w : List ℕ) → stands w ≡ false → (s : Step) → step (decoded w) s ≡ refuse no_board NotWellFormed

-- and a preview of them gives that too, with no frame
abbrev pub DamageForeseen : Type 0
DamageForeseen = (w : List ℕ) → stands w ≡ false → (c k : ℕ) → preview (decoded w) c k ≡ record { outcome = Refused; refusal = Some NotWellFormed; in_flight = 0 }
