-- Numbers and lines written by way of example, by computation, so that the definitions themselves are tried.
use Prim.Native.Nat.{ℕ}
use mathlib.Core.List.{[], ◌∷◌, map}
use mathlib.Core.Path.{◌≡◌, refl}
use lib.ListN.{length}
use Rattle.csv_lines.specs.Quoted.{bytes}
use Rattle.csv_lines.specs.declared.Output.{Output}
use Rattle.csv_lines.specs.Writing.{line_bytes, digits, decimal, joined, line_text}

-- numbers of one digit and more, with zeros inside and at the end; the greatest of 32 bits and of 64 bits
pub numbers_written : map decimal (0 ∷ 9 ∷ 10 ∷ 907 ∷ 4294967295 ∷ 18446744073709551615 ∷ [])
    ≡ map bytes ("0" ∷ "9" ∷ "10" ∷ "907" ∷ "4294967295" ∷ "18446744073709551615" ∷ [])
unfolding bytes digits decimal
numbers_written = refl

-- the line of a number and six fields
abbrev pub line : ℕ → ℕ → ℕ → ℕ → ℕ → ℕ → ℕ → Output
line n r o t c v l = record { number = n; fields = r ∷ o ∷ t ∷ c ∷ v ∷ l ∷ [] }

-- Paper 1: 'input 0,1,1 and then 3,0,0 prints 1,0,1,0,0,0 and 2,8,0,0,0,0', with Paper 7's life after them; and a write
-- of 7 by console 1 in its last life that finishes
pub lines_written : map line_text (line 1 0 1 0 0 0 0 ∷ line 2 8 0 0 0 0 0 ∷ line 30 0 5 1 1 7 1000 ∷ [])
    ≡ map bytes ("1,0,1,0,0,0,0\n" ∷ "2,8,0,0,0,0,0\n" ∷ "30,0,5,1,1,7,1000\n" ∷ [])
unfolding bytes digits decimal joined line_text
lines_written = refl

-- the longest line has the most bytes of a line
pub longest_line : length (line_text (line 18446744073709551615 4294967295 4294967295 4294967295 4294967295 4294967295 4294967295)) ≡ line_bytes
unfolding digits decimal joined line_text
longest_line = refl

pub line_bytes_lem : line_bytes ≡ 87
line_bytes_lem = refl
