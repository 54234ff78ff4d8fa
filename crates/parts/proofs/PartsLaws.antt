-- Laws of the parts in their lists.
use mathlib.Core.Path.{◌≡◌}
use mathlib.Core.List.{List}
use Prim.Native.Nat.{ℕ, ◌+◌}
use native.Mathlib.Numerals.{add-one}
use Rattle.parts.specs.declared.Frame.{Frame}
use Rattle.parts.specs.declared.Cell.{Cell}
use Rattle.parts.specs.Parts.{set_frame, set_row}

-- one cell more of a row
pub row_more : (xs : List Cell) (c k : ℕ) (f : Frame) → set_frame (set_row xs c k f) c k f ≡ set_row xs c (k + 1) f
unfolding set_row
row_more xs c k f = rw add-one
