-- Laws of rows.
use Prim.Native.Nat.{ℕ, ◌+◌, ◌≤◌, ◌<◌}
use mathlib.Core.Bool.{Bool, true, false, cond}
use mathlib.Core.List.{List, [], ◌∷◌, ◌++◌, append_assoc}
use mathlib.Core.Path.{◌≡◌, refl, sym, ap, ◌∙◌}
use borrow.Author.Tests.{ne_eqb}
use native.Mathlib.Omega.{arith}
use lib.Dec.{eqb}
use Rattle.std.specs.Prelude.{length, take, set, Result, Ok, Err}
use Rattle.std.proofs.lemmas.List.{append-nil, take_more_set}
use Rattle.std.proofs.lemmas.List.Sums.{count_by-le-length}
use Rattle.csv_lines.specs.Reading.{count_of}
use Rattle.csv_lines.specs.Splitting.{lines_after, lines_of}
use Rattle.shift.specs.declared.Row.{Row}
use Rattle.shift.specs.Faults.{max_records}
use Rattle.rows.specs.declared.BadRow.{BadRow}
use Rattle.rows.specs.declared.Report.{Report}
use Rattle.rows.specs.declared.Report.TheVariants.{NotARow, TooMany}
use Rattle.rows.specs.Rows.{◌then◌, row_of}
use Rattle.rows.specs.Audit.{rows_from}

-- a line has no more commas than bytes
pub count_few : (b : ℕ) (s : List ℕ) → count_of b s ≤ length s
unfolding count_of
count_few b [] = omega arith
count_few b (x ∷ s) = go (eqb x b) (count_few b s)
  where
    go : (c : Bool) → count_of b s ≤ length s → (cond c 1 0) + count_of b s ≤ length (x ∷ s)
    go true h = omega (arith, h)
    go false h = omega (arith, h)

-- ---- rows, one after the other

-- the rows before, and those that come
abbrev pub prepend : List Row → Result (List Row) Report → Result (List Row) Report
prepend xs (Ok rows) = Ok (xs ++ rows)
prepend xs (Err x) = Err x

module _ (rows : List Row) (i : ℕ) where
  pub rows_done : (s : List ℕ) → s ≡ [] → prepend (take i rows) (rows_from i (lines_of s)) ≡ Ok (take i rows)
  unfolding rows_from lines_after
  rows_done s e = rw e (ap (λ (x : List Row). Ok x) (append-nil (take i rows)))

  module _ (s line after : List ℕ) (e : lines_of s ≡ line ∷ lines_of after) where
    pub rows_full : max_records ≤ i → i ≤ max_records → prepend (take i rows) (rows_from i (lines_of s)) ≡ Err TooMany
    unfolding rows_from
    rows_full h g = let z : i ≡ max_records = omega arith in rw (e, z)

    module _ (h : i < max_records) where
      pub rows_bad : (why : BadRow) → row_of line ≡ Err why → prepend (take i rows) (rows_from i (lines_of s)) ≡ Err (NotARow (record { number = i + 1; why = why }))
      unfolding rows_from
      rows_bad why f = rw (e, ne_eqb i max_records (λ z. omega (arith, z)), f)

      pub rows_more : (r : Row) → length rows ≡ max_records → row_of line ≡ Ok r
          → prepend (take i rows) (rows_from i (lines_of s)) ≡ prepend (take (i + 1) (set rows i r)) (rows_from (i + 1) (lines_of after))
      unfolding rows_from
      rows_more r n f = rw (e, ne_eqb i max_records (λ z. omega (arith, z)), f) (go (rows_from (i + 1) (lines_of after)))
        where
          go : (x : Result (List Row) Report) → prepend (take i rows) (x then λ rs. Ok (r ∷ rs)) ≡ prepend (take (i + 1) (set rows i r)) x
          go (Err x) = refl
          go (Ok rs) = ap (λ (l : List Row). Ok l) (sym (append_assoc (take i rows) (r ∷ []) rs) ∙ ap (λ (l : List Row). l ++ rs) (sym (take_more_set rows i r (omega (arith, n, h)))))

pub ruleset read_rows_laws = (rows_done, rows_full, rows_bad, rows_more)

-- no more rows are writes than there are
pub ruleset report_laws = (count_by-le-length)
