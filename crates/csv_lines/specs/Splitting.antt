-- The lines of an input (document 01, 'Lines that programs read and write'): 'A line ends in CR LF, LF or the end of
-- the input; the end is no part of it, and nothing after the last LF is no line.'
use Rattle.std.specs.Prelude.{ℕ, ◌+◌, cond, List, [], ◌∷◌, ◌++◌, eqb}
use Rattle.csv_lines.specs.Reading.{cr_byte, lf_byte, max_line}

-- what stands before an LF, without the CR of a CR LF
unfoldable pub chop : List ℕ → List ℕ
chop [] = []
chop (x ∷ []) = cond (eqb x cr_byte) [] (x ∷ [])
chop (x ∷ y ∷ s) = x ∷ chop (y ∷ s)

-- the line that the end of the input ends: all that stands after the last LF, a CR too, and no line if that is nothing
abbrev pub last_line : List ℕ → List (List ℕ)
last_line [] = []
last_line (x ∷ s) = (x ∷ s) ∷ []

-- the lines of an input s, if what stands before s in its first line is cur
unfoldable pub lines_after : List ℕ → List ℕ → List (List ℕ)
lines_after cur [] = last_line cur
lines_after cur (x ∷ s) = cond (eqb x lf_byte) (chop cur ∷ lines_after [] s) (lines_after (cur ++ (x ∷ [])) s)

abbrev pub lines_of : List ℕ → List (List ℕ)
lines_of s = lines_after [] s

-- how many bytes of a line are held: those of a line, its CR and one more
abbrev pub held_bytes : ℕ
held_bytes = max_line + 2
