-- Laws of the first place at which a test passes, and of the search for it from place i on.
use Prim.Native.Nat.{ℕ, suc, ◌+◌, ◌≤◌, ◌<◌}
use mathlib.Core.Bool.{Bool, true, false, cond, ◌||◌}
use mathlib.Core.List.{List, [], ◌∷◌}
use mathlib.Core.Path.{◌≡◌, refl, ap, ◌∙◌}
use native.Mathlib.Omega.{arith}
use lib.ListN.{drop_of_length-le}
use lib.Seq.{drop-cons}
use Rattle.std.specs.Prelude.{get_or, drop, length, Some, None, is_some, position}
use Rattle.std.specs.List.{list_any, position_from}
use Rattle.std.proofs.lemmas.Iterator.Adapters.{position_from-zero}

module _ {X : Type 0} (p : X → Bool) where
  pub position_start : (l : List X) → position p l ≡ position_from p 0 (drop 0 l)
  position_start l = position_from-zero p l

  pub position_step : (l : List X) (i : ℕ) (d : X) → i < length l
      → position_from p i (drop i l) ≡ cond (p (get_or l i d)) (Some i) (position_from p (i + 1) (drop (i + 1) l))
  position_step l i d h =
      let next : suc i ≡ i + 1 = omega arith in
      ap (position_from p i) (drop-cons l i d h) ∙ ap (λ j. cond (p (get_or l i d)) (Some i) (position_from p (i + 1) (drop j l))) next

  pub position_end : (l : List X) (i : ℕ) → length l ≤ i → position_from p i (drop i l) ≡ None
  position_end l i h = ap (position_from p i) (drop_of_length-le l h)

  from_any : (l : List X) (i : ℕ) → is_some (position_from p i l) ≡ list_any p l
  from_any [] i = refl
  from_any (x ∷ l) i = go (p x) (from_any l (i + 1))
    where
      go : (b : Bool) → is_some (position_from p (i + 1) l) ≡ list_any p l → is_some (cond b (Some i) (position_from p (i + 1) l)) ≡ (b || list_any p l)
      go true rest = refl
      go false rest = rest

  pub position_any : (l : List X) → is_some (position p l) ≡ list_any p l
  position_any l = ap is_some (position_start l) ∙ from_any l 0
