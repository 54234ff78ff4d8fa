-- A run over an input that comes in chunks: where it stands between two bytes, and what it writes at each. The theorem
-- `whole` says that it writes the output for the whole input, wherever the chunks end.
use Rattle.std.specs.Prelude.{ℕ, ◌+◌, ◌≤◌, cond, List, [], ◌∷◌, ◌++◌, ◌≡◌, eqb, length, take}
use Rattle.std.proofs.lemmas.List.Edits.{sets}
use Rattle.board.specs.declared.Board.{Board}
use Rattle.board.specs.Boards.{fresh_board}
use Rattle.board.specs.Steps.{smallest}
use Rattle.csv_lines.specs.Reading.{lf_byte}
use Rattle.csv_lines.specs.Splitting.{chop, held_bytes}
use Rattle.schedule.specs.declared.Position.{Position}
use Rattle.schedule.specs.Schedule.{Effect, effect_of, first_number, next_number}

-- the line so far, as much of it as is held; the board, and the number of the line
pub record Session : Type 0 where
  pub held : List ℕ
  pub board : Board
  pub number : ℕ

-- before the first byte
abbrev pub at_start : Session
at_start = record { held = []; board = fresh_board smallest; number = first_number }

-- a byte that ends no line is held, if there is room
abbrev pub with_byte : Session → ℕ → Session
with_byte s x = record { held = take held_bytes (s.held ++ (x ∷ [])); board = s.board; number = s.number }

-- what the line comes to that an LF ends
abbrev pub line_effect : Session → Effect
line_effect s = effect_of s.board s.number (chop s.held)

-- and where the run goes on
abbrev pub after_line : Session → Session
after_line s = record { held = []; board = (line_effect s).board; number = next_number s.number }

-- after one byte more
unfoldable pub after_byte : Session → ℕ → Session
after_byte s x = cond (eqb x lf_byte) (after_line s) (with_byte s x)

-- what is written at a byte: the output line, if it is an LF
unfoldable pub text_at : Session → ℕ → List ℕ
text_at s x = cond (eqb x lf_byte) (line_effect s).text []

unfoldable pub after_bytes : Session → List ℕ → Session
after_bytes s [] = s
after_bytes s (x ∷ xs) = after_bytes (after_byte s x) xs

unfoldable pub text_of : Session → List ℕ → List ℕ
text_of s [] = []
text_of s (x ∷ xs) = text_at s x ++ text_of (after_byte s x) xs

-- what is written at the end of the input
unfoldable pub text_at_end : List ℕ → Board → ℕ → List ℕ
text_at_end [] b n = []
text_at_end (x ∷ xs) b n = (effect_of b n (x ∷ xs)).text

abbrev pub last_text : Session → List ℕ
last_text s = text_at_end s.held s.board s.number

-- what is written in all, if the input comes in these chunks
unfoldable pub printed : Session → List (List ℕ) → List ℕ
printed s [] = last_text s
printed s (c ∷ cs) = text_of s c ++ printed (after_bytes s c) cs

-- the input that the chunks make
unfoldable pub input_of : List (List ℕ) → List ℕ
input_of [] = []
input_of (c ∷ cs) = c ++ input_of cs

-- the session that stands in a position and its lent line
abbrev pub session_of : Position → List ℕ → Session
session_of r line = record { held = take r.held line; board = r.board; number = r.number }

-- a position before the first byte
unfoldable pub started : Position
started = record { board = at_start.board; number = at_start.number; held = 0; consumed = 0; wrote = 0 }

-- the run s has consumed these bytes, from place t of the chunk on: where it stands after them as r, how many bytes are
-- consumed and held, and what it has written into the output from place p on. The line that holds what is held was
-- line, and is line'; what stands there beyond it is left open. The output was out, and is out'
pub record Consumed (t p : ℕ) (s : Position) (line out bytes : List ℕ) (r : Position) (line' out' : List ℕ) : Type 0 where
  pub session : session_of r line' ≡ after_bytes (session_of s line) bytes
  pub held : r.held ≡ length (after_bytes (session_of s line) bytes).held
  pub consumed : r.consumed ≡ t + length bytes
  pub written : out' ≡ sets out p (text_of (session_of s line) bytes)
  pub wrote : r.wrote ≡ p + length (text_of (session_of s line) bytes)
  pub room : r.wrote ≤ length out'
