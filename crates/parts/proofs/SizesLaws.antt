-- The five values of q that document 01 gives.
use mathlib.Core.List.{[], ◌∷◌, map}
use mathlib.Core.Path.{◌≡◌, refl}
use Rattle.parts.specs.Sizes.{majority}

-- 'for n = 1, 2, 3, 4, 5 it is 1, 2, 2, 3, 3'
pub majority_values : map majority (1 ∷ 2 ∷ 3 ∷ 4 ∷ 5 ∷ []) ≡ 1 ∷ 2 ∷ 2 ∷ 3 ∷ 3 ∷ []
unfolding majority
majority_values = refl
