-- Whatever the line, its refusal is the papers' one of the number that is written.
use mathlib.Core.List.{List}
use Prim.Native.Nat.{ℕ}
use mathlib.Core.Path.{refl}
use Rattle.std.specs.Prelude.{Ok, Err}
use Rattle.board.specs.declared.Board.{Board}
use Rattle.csv_lines.specs.Reading.{Line, line_of}
use Rattle.csv_lines.specs.declared.BadLine.TheVariants.{TooLong, NotThree}
use Rattle.verbs.specs.Named.{Named}
use Rattle.verbs.proofs.VerbsLaws.{verb_named}
use Rattle.schedule.specs.Schedule.{answer_of, answer_to}

read_named : (l : Line) (b : Board) → Named (answer_of l b).refusal
unfolding answer_of
read_named (Err TooLong) b = refl
read_named (Err NotThree) b = refl
read_named (Ok (v, x, y)) b = verb_named v x y b

pub line_named : (line : List ℕ) (b : Board) → Named (answer_to line b).refusal
line_named line b = read_named (line_of line) b
