-- Inputs cut into lines by way of example, by computation, so that the definitions themselves are tried.
use Prim.Native.String.{String}
use mathlib.Core.List.{List, [], ◌∷◌, map}
use mathlib.Core.Path.{◌≡◌, refl}
use Rattle.csv_lines.specs.Quoted.{bytes}
use Rattle.csv_lines.specs.Splitting.{chop, lines_after, lines_of, held_bytes}

pub record Example : Type 0 where
  pub input : String
  pub must : List String

infix 20 ◌has◌
abbrev pub ◌has◌ : String → List String → Example
i has ls = record { input = i; must = ls }

unfoldable pub examples : List Example
examples =
    -- 'nothing after the last LF is no line'
    ("" has [])
    ∷ ("\n" has ("" ∷ []))
    ∷ ("a\n" has ("a" ∷ []))
    -- 'A line ends in CR LF, LF or the end of the input'
    ∷ ("a\r\nb\nc" has ("a" ∷ "b" ∷ "c" ∷ []))
    -- one CR belongs to the end, and none where no LF follows
    ∷ ("a\r\r\n\r\nb\rc\r" has ("a\r" ∷ "" ∷ "b\rc\r" ∷ []))
    ∷ []

pub inputs_cut : map (λ x. lines_of (bytes x.input)) examples ≡ map (λ x. map bytes x.must) examples
unfolding bytes chop lines_after examples
inputs_cut = refl

pub held_bytes_lem : held_bytes ≡ 66
held_bytes_lem = refl
