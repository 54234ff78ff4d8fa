-- Frames are counted part by part: of cells into some of which a frame goes, those before, the new ones and those
-- after. What a delivery sends is such a part: one cell, or a row of n.
use Prim.Native.Nat.{ℕ, zero, suc, ◌+◌, ◌-◌, ◌*◌, ◌≤◌, ◌<◌}
use mathlib.Core.Bool.{Bool, true, false, cond, not}
use mathlib.Core.List.{List, [], ◌∷◌, ◌++◌}
use mathlib.Core.Path.{sym, ap, ◌≡◌, ◌∙◌}
use native.Mathlib.Omega.{arith}
use Rattle.std.specs.Prelude.{length, take, drop, replicate, set, filter}
use Rattle.std.specs.List.{splice}
use Rattle.std.proofs.Math.Nat.{add-zero}
use Rattle.std.proofs.Math.Seq.{take-length}
use Rattle.std.proofs.lemmas.List.{set_split, set-append_right, take-append-drop, length-append, length-replicate, length-take-le, length-drop, append_assoc, drop-drop, replicate_more}
use Rattle.std.proofs.lemmas.List.Elements.{filter-append}
use Rattle.std.proofs.lemmas.List.Folds.{sum_by-replicate}
use Rattle.std.proofs.lemmas.List.Sums.{length-filter, count_by-le-length}
use Rattle.parts.specs.declared.Cell.{Cell}
use Rattle.parts.specs.declared.Frame.{Frame}
use Rattle.parts.specs.Parts.{is_nothing, cell_of, cell_index, set_frame, set_row}
use Rattle.board.specs.Preview.{has_frame, frames_in}

pub at_most : (xs : List Cell) → frames_in xs ≤ length xs
unfolding frames_in
at_most xs = rw (length-filter has_frame xs) (count_by-le-length has_frame xs)

frames_append : (xs ys : List Cell) → frames_in (xs ++ ys) ≡ frames_in xs + frames_in ys
unfolding frames_in
frames_append xs ys = ap length (filter-append has_frame xs ys) ∙ length-append (filter has_frame xs) (filter has_frame ys)

-- so many cells that hold f
frames_of : (n : ℕ) (f : Frame) → frames_in (replicate n (cell_of f)) ≡ cond (is_nothing f) 0 n
unfolding frames_in
frames_of n f =
    length-filter has_frame (replicate n (cell_of f))
    ∙ sum_by-replicate (λ x. cond (has_frame x) 1 0) n (cell_of f)
    ∙ times (is_nothing f)
  where
    times : (y : Bool) → n * cond (not y) 1 0 ≡ cond y 0 n
    times true = omega arith
    times false = omega arith

-- the cells from a place on, so many, become x
abbrev pub fills : List Cell → ℕ → ℕ → Cell → List Cell
fills xs i n x = splice xs i (i + n) (replicate n x)

-- counted part by part
pub filled : (xs : List Cell) (i n : ℕ) (f : Frame) → frames_in (fills xs i n (cell_of f)) ≡ frames_in (take i xs) + cond (is_nothing f) 0 n + frames_in (drop (i + n) xs)
filled xs i n f = rw (frames_append (take i xs) (replicate n (cell_of f) ++ drop (i + n) xs), frames_append (replicate n (cell_of f)) (drop (i + n) xs), frames_of n f) (omega arith)

-- all cells that follow a place, of m
pub rest_all : (xs : List Cell) (m i : ℕ) → length xs ≡ m → take (m - i) (drop i xs) ≡ drop i xs
rest_all xs m i z = ap (λ j. take j (drop i xs)) (ap (λ j. j - i) (sym z) ∙ sym (length-drop i xs)) ∙ take-length (drop i xs)

-- one cell more
module _ (xs : List Cell) (i n : ℕ) (x : Cell) (h : i + n < length xs) where
  rest : List Cell
  rest = drop (i + n) xs

  first_set : set rest 0 x ≡ x ∷ drop (i + (n + 1)) xs
  unfolding rest
  first_set = set_split (drop (i + n) xs) 0 x (rw (length-drop (i + n) xs) (omega arith))
      ∙ ap (λ ys. x ∷ ys) (drop-drop 1 (i + n) xs ∙ ap (λ j. drop j xs) {x = i + n + 1} {y = i + (n + 1)} (omega arith))

  after_row : set (replicate n x ++ rest) n x ≡ replicate (n + 1) x ++ drop (i + (n + 1)) xs
  after_row =
      set-append_right (replicate n x) rest n n x (length-replicate n x) (omega arith)
      ∙ ap (λ j. replicate n x ++ set rest j x) {x = n - n} {y = 0} (omega arith)
      ∙ ap (λ ys. replicate n x ++ ys) first_set
      ∙ sym (append_assoc (replicate n x) (x ∷ []) (drop (i + (n + 1)) xs))
      ∙ ap (λ ys. ys ++ drop (i + (n + 1)) xs) (replicate_more n x)

  fills_more : set (fills xs i n x) (i + n) x ≡ fills xs i (n + 1) x
  unfolding rest
  fills_more =
      set-append_right (take i xs) (replicate n x ++ rest) i (i + n) x (length-take-le i xs (omega (arith, h))) (omega arith)
      ∙ ap (λ j. take i xs ++ set (replicate n x ++ rest) j x) {x = i + n - i} {y = n} (omega arith)
      ∙ ap (λ ys. take i xs ++ ys) after_row

fills_none : (xs : List Cell) (i : ℕ) (x : Cell) → fills xs i 0 x ≡ xs
fills_none xs i x = rw (add-zero i) (take-append-drop i xs)

pub cell_filled : (xs : List Cell) (c k : ℕ) (f : Frame) → cell_index c k < length xs → set_frame xs c k f ≡ fills xs (cell_index c k) 1 (cell_of f)
unfolding set_frame
cell_filled xs c k f h = set_split xs (cell_index c k) (cell_of f) h
    ∙ ap (λ j. take (cell_index c k) xs ++ (cell_of f ∷ drop j xs)) {x = suc (cell_index c k)} {y = cell_index c k + 1} (omega arith)

pub row_filled : (xs : List Cell) (c n : ℕ) (f : Frame) → cell_index c 0 + n ≤ length xs → set_row xs c n f ≡ fills xs (cell_index c 0) n (cell_of f)
unfolding set_row set_frame cell_index
row_filled xs c zero f h = sym (fills_none xs (cell_index c 0) (cell_of f))
row_filled xs c (suc n) f h =
    ap (λ ys. set ys (cell_index c n) (cell_of f)) (row_filled xs c n f (omega (arith, h)))
    ∙ ap (λ j. set (fills xs (cell_index c 0) n (cell_of f)) j (cell_of f)) {x = cell_index c n} {y = cell_index c 0 + n} (omega arith)
    ∙ fills_more xs (cell_index c 0) n (cell_of f) (omega (arith, h))
    ∙ ap (λ j. fills xs (cell_index c 0) j (cell_of f)) {x = n + 1} {y = suc n} (omega arith)
