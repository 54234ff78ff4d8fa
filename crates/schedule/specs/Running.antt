-- A run under way, in the code's own struct: what a line, or some bytes, make of it.
use Rattle.std.specs.Prelude.{ℕ, ◌+◌, ◌*◌, ◌≤◌, ◌==◌, false, List, ◌≡◌, All, length, take}
use Rattle.std.proofs.lemmas.List.Edits.{sets}
use Rattle.csv_lines.specs.Reading.{lf_byte}
use Rattle.csv_lines.specs.Writing.{line_bytes}
use Rattle.schedule.specs.declared.running.Run.{Run}
use Rattle.schedule.specs.Schedule.{effect_of, next_number}
use Rattle.schedule.specs.Chunks.{Session, after_bytes, text_of}

-- the output has room for n lines at the running place
abbrev pub HasRoom : Run → ℕ → Type 0
HasRoom r n = r.wrote + n * line_bytes ≤ length r.out.now

-- none of the bytes is an LF
abbrev pub NoLf : List ℕ → Type 0
NoLf bytes = All (λ x. (x == lf_byte) ≡ false) bytes

-- the session that stands in a run
abbrev pub session_in : Run → Session
session_in r = record { held = take r.held r.line.now; board = r.checked.board; number = r.number }

-- the run p answered the line, and is q then, in the same lent memory
pub record Answered (p q : Run) (line : List ℕ) : Type 0 where
  pub same_line : q.line.ghost_name ≡ p.line.ghost_name
  pub same_out : q.out.ghost_name ≡ p.out.ghost_name
  pub len : length q.out.now ≡ length p.out.now
  pub held : q.held ≡ 0
  pub board : q.checked.board ≡ (effect_of p.checked.board p.number line).board
  pub number : q.number ≡ next_number p.number
  pub wrote : q.wrote ≡ p.wrote + length (effect_of p.checked.board p.number line).text
  pub out : q.out.now ≡ sets p.out.now p.wrote (effect_of p.checked.board p.number line).text
  pub short : q.wrote ≤ p.wrote + line_bytes

-- the run p took the bytes, and is q then, in the same lent memory
pub record Took (p q : Run) (bytes : List ℕ) : Type 0 where
  pub same_line : q.line.ghost_name ≡ p.line.ghost_name
  pub same_out : q.out.ghost_name ≡ p.out.ghost_name
  pub len : length q.out.now ≡ length p.out.now
  pub held : q.held ≡ length (session_in q).held
  pub session : session_in q ≡ after_bytes (session_in p) bytes
  pub wrote : q.wrote ≡ p.wrote + length (text_of (session_in p) bytes)
  pub out : q.out.now ≡ sets p.out.now p.wrote (text_of (session_in p) bytes)
  pub short : q.wrote ≤ p.wrote + length bytes * line_bytes
