-- Lines read by way of example, by computation, so that the definitions themselves are tried.
use Prim.Native.String.{String}
use mathlib.Core.List.{List, [], ◌∷◌, map}
use mathlib.Core.Path.{◌≡◌, refl}
use Rattle.std.specs.Prelude.{Ok, Err}
use Rattle.csv_lines.specs.declared.BadLine.TheVariants.{TooLong, NotThree}
use Rattle.csv_lines.specs.Quoted.{bytes}
use Rattle.csv_lines.specs.Reading.{Line, comma_byte, quote_byte, zero_byte, nine_byte, index_of, count_of, from_field, quoted, unquoted, field_of, field_start, all_digits, value_from, num_of, line_of}

pub bytes_named : bytes ",\"09" ≡ comma_byte ∷ quote_byte ∷ zero_byte ∷ nine_byte ∷ []
unfolding bytes
bytes_named = refl

-- ---- lines

pub record Example : Type 0 where
  pub text : String
  pub must : Line

infix 20 ◌reads◌
abbrev pub ◌reads◌ : String → Line → Example
s reads l = record { text = s; must = l }

unfoldable pub examples : List Example
examples =
    ("1,2,3" reads Ok (1, 2, 3))
    -- leading zeros, quotes, the greatest number of 32 bits, and the next
    ∷ ("\"007\",3,\"4294967295\"" reads Ok (7, 3, 4294967295))
    ∷ ("1,2,4294967296" reads Err NotThree)
    -- a quote on one side only, a lone quote, nothing between two quotes, and two pairs of quotes
    ∷ ("\"1,2,3" reads Err NotThree)
    ∷ ("1,2\",3" reads Err NotThree)
    ∷ ("1,2,\"" reads Err NotThree)
    ∷ ("\"\",2,3" reads Err NotThree)
    ∷ ("\"\"1\"\",2,3" reads Err NotThree)
    -- a comma inside quotes
    ∷ ("\"1,2\",3" reads Err NotThree)
    ∷ ("\"1,2\",3,4" reads Err NotThree)
    -- no digit, the bytes next to the digits, a sign, a blank
    ∷ ("1,,3" reads Err NotThree)
    ∷ ("1,/,3" reads Err NotThree)
    ∷ ("1,:,3" reads Err NotThree)
    ∷ ("1,+2,3" reads Err NotThree)
    ∷ ("1, 2,3" reads Err NotThree)
    -- nothing, one field, two, four
    ∷ ("" reads Err NotThree)
    ∷ ("1" reads Err NotThree)
    ∷ ("1,2" reads Err NotThree)
    ∷ ("1,2,3,4" reads Err NotThree)
    -- 64 bytes, and 65, of numbers and of commas
    ∷ ("000000000000000000000000000000000000000000000000000000000001,2,3" reads Ok (1, 2, 3))
    ∷ ("0000000000000000000000000000000000000000000000000000000000001,2,3" reads Err TooLong)
    ∷ (",,,,,,,,,,,,,,,,,,,,,,,,,,,,,,,,,,,,,,,,,,,,,,,,,,,,,,,,,,,,,,,," reads Err NotThree)
    ∷ (",,,,,,,,,,,,,,,,,,,,,,,,,,,,,,,,,,,,,,,,,,,,,,,,,,,,,,,,,,,,,,,,," reads Err TooLong)
    ∷ []

pub lines_read : map (λ x. line_of (bytes x.text)) examples ≡ map (λ x. x.must) examples
unfolding bytes index_of count_of from_field quoted unquoted field_of all_digits value_from num_of line_of examples
lines_read = refl

-- ---- fields: the first, the second, and one that the line does not have

pub fields_read : map (field_of (bytes "\"12\",3")) (0 ∷ 1 ∷ 2 ∷ []) ≡ map bytes ("12" ∷ "3" ∷ "" ∷ [])
unfolding bytes index_of from_field quoted unquoted field_of
fields_read = refl

pub fields_start : map (field_start (bytes "\"12\",3")) (0 ∷ 1 ∷ 2 ∷ []) ≡ 1 ∷ 5 ∷ 6 ∷ []
unfolding bytes index_of from_field quoted field_start
fields_start = refl
