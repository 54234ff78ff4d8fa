-- What the tests of a comparison say goes by its number: 3 is higher, 2 the same, and none is neither.
use mathlib.Core.Path.{◌≡◌, refl}
use lib.Dec.{eqb}
use Rattle.std.specs.Prelude.{Option, None, Some}
use Rattle.std.specs.declared.cmp.Ordering.{Ordering}
use Rattle.std.specs.declared.cmp.Ordering.TheVariants.{Less, Equal, Greater}
use Rattle.parts.specs.Outcomes.{compared_number}
use Rattle.parts.specs.Tags.{is_higher, is_same}

pub higher_is_3 : (x : Option Ordering) → is_higher x ≡ eqb (compared_number x) 3
higher_is_3 None = refl
higher_is_3 (Some Less) = refl
higher_is_3 (Some Equal) = refl
higher_is_3 (Some Greater) = refl

pub same_is_2 : (x : Option Ordering) → is_same x ≡ eqb (compared_number x) 2
same_is_2 None = refl
same_is_2 (Some Less) = refl
same_is_2 (Some Equal) = refl
same_is_2 (Some Greater) = refl
