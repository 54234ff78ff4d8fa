-- Pens: a lent output and its running place.
use Rattle.std.specs.Prelude.{ℕ, List, ◌≡◌, ◌+◌, ◌≤◌, length}
use Rattle.std.proofs.lemmas.List.Edits.{sets}
use Rattle.csv_lines.specs.declared.writing.Pen.{Pen}

-- the output has room for n bytes at the pen's place
abbrev pub HasRoom : Pen → ℕ → Type 0
HasRoom p n = p.at + n ≤ length p.out.now

-- the pen p wrote the text, and is q then, at the place after it in the same output
pub record Wrote (p q : Pen) (text : List ℕ) : Type 0 where
  pub same : q.out.ghost_name ≡ p.out.ghost_name
  pub len : length q.out.now ≡ length p.out.now
  pub at : q.at ≡ p.at + length text
  pub out : q.out.now ≡ sets p.out.now p.at text
