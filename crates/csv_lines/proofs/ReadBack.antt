-- A number written in decimal is read back (decimal_read): its digits are digits, and they make the number again.
use mathlib.Core.Path.{◌≡◌, ap, ◌∙◌}
use mathlib.Core.Bool.{true}
use Prim.Native.Nat.{ℕ, ◌^◌, ◌<◌}
use lib.ListN.{length}
use native.Mathlib.Omega.{arith}
use borrow.Author.Tests.{lt-ltb}
use Rattle.std.specs.Prelude.{Some}
use Rattle.std.proofs.Common.{rules}
use Rattle.std.proofs.lemmas.Fmt.{decimal_nonempty, digits_decimal, digits_value-decimal}
use Rattle.std.proofs.lemmas.Str.Parse.{IsNumeralModel, numerals_by_fold}
use Rattle.csv_lines.specs.Reading.{all_digits, value_from, num_of}
use Rattle.csv_lines.specs.Writing.{decimal}
use Rattle.csv_lines.proofs.ReadingLaws.{num_some}
use Rattle.csv_lines.proofs.WritingLaws.{decimal_is}

-- digits and their value are as std has them
numerals : IsNumeralModel (λ s. all_digits s ≡ true) (value_from 0)
unfolding all_digits value_from
numerals = numerals_by_fold _ (search rules) value_from (search rules)

pub decimal_digits : (n : ℕ) → n < 2 ^ 64 → all_digits (decimal n) ≡ true
decimal_digits n h = rw (decimal_is n h) (digits_decimal numerals n h)

pub decimal_value : (n : ℕ) → n < 2 ^ 64 → value_from 0 (decimal n) ≡ n
decimal_value n h = rw (decimal_is n h) (digits_value-decimal numerals n h)

pub decimal_read : (n : ℕ) → n < 2 ^ 32 → num_of (decimal n) ≡ Some n
decimal_read n h =
    let g : n < 2 ^ 64 = omega arith in
    let some : length (decimal n) ≡ 0 → ⊥ = λ e. omega (arith, e, ap length (decimal_is n g), decimal_nonempty n g) in
    num_some (decimal n) some ∙ rw (decimal_digits n g, decimal_value n g, lt-ltb n (2 ^ 32) h)
