-- The order of tags by their keys: all order arguments from here on are about keys, and left to arithmetic.
use Prim.Native.Nat.{◌≤◌, ◌<◌}
use mathlib.Core.Bool.{Bool, true, false, ◌&&◌, ◌||◌}
use mathlib.Core.Logic.{inl, inr}
use mathlib.Core.Path.{refl, sym, ◌≡◌, ◌∙◌}
use native.Mathlib.Omega.{arith}
use borrow.Author.Tests.{ltb-true, ltb-false, eqb-true, eqb-false, lt-ltb}
use lib.Dec.{ltb, eqb}
pub use Rattle.parts.proofs.TagsLaws.{Small, greater_key}
use Rattle.parts.proofs.TagsLaws.{same_neither}
pub use Rattle.parts.specs.Tags.{key}
use Rattle.std.specs.Ordering.{is_eq}
use Rattle.parts.specs.Tags.{compared, greater}
use Rattle.parts.specs.declared.Tag.{Tag}
use Rattle.guarantee.specs.Claim.{Higher, HigherIsGreater}
use Rattle.guarantee.proofs.Laws.States.{contra}

pub greater_true : (a b : Tag) → Small a → Small b → greater a b ≡ true → key b < key a
greater_true a b h i e = ltb-true (key b) (key a) (sym (greater_key a b h i) ∙ e)

pub greater_false : (a b : Tag) → Small a → Small b → greater a b ≡ false → key a ≤ key b
greater_false a b h i e = ltb-false (key b) (key a) (sym (greater_key a b h i) ∙ e)

-- tags that compare the same have one key
pub same_key : (a b : Tag) → Small a → Small b → is_eq (compared a b) ≡ true → key a ≡ key b
same_key a b h i e = omega (arith, greater_false a b h i (same_neither a b e).0, greater_false b a i h (same_neither a b e).1)

-- the claim's order goes by the keys
pub lower_not_higher : (a b : Tag) → Small b → key a ≤ key b → Higher a b → ⊥
lower_not_higher a b h l (inl m) = omega (arith, h.console_8, h.life_fits)
lower_not_higher a b h l (inr (e, inl m)) = omega (arith, h.life_fits)
lower_not_higher a b h l (inr (e, inr m)) = omega (arith, m.0, m.1)

-- test for test it is the register's order
pub higher_is_greater : HigherIsGreater
unfolding greater
higher_is_greater a b = (
  higher (ltb b.ts a.ts) refl (eqb a.ts b.ts) refl (ltb b.console a.console) refl (eqb a.console b.console) refl (ltb b.life a.life) refl,
  is_so (ltb b.ts a.ts) refl (eqb a.ts b.ts) refl (ltb b.console a.console) refl (eqb a.console b.console) refl (ltb b.life a.life) refl,
)
  where
    higher : (x : Bool) → ltb b.ts a.ts ≡ x → (y : Bool) → eqb a.ts b.ts ≡ y → (z : Bool) → ltb b.console a.console ≡ z
        → (v : Bool) → eqb a.console b.console ≡ v → (w : Bool) → ltb b.life a.life ≡ w
        → (x || y && z || y && v && w) ≡ true → Higher a b
    higher true e y f z g v i w j h = inl (ltb-true b.ts a.ts e)
    higher false e true f true g v i w j h = inr (eqb-true a.ts b.ts f, inl (ltb-true b.console a.console g))
    higher false e true f false g true i true j h =
        inr (eqb-true a.ts b.ts f, inr (eqb-true a.console b.console i, ltb-true b.life a.life j))
    higher false e false f z g v i w j h = absurd (contra h refl)
    higher false e true f false g false i w j h = absurd (contra h refl)
    higher false e true f false g true i false j h = absurd (contra h refl)

    is_so : (x : Bool) → ltb b.ts a.ts ≡ x → (y : Bool) → eqb a.ts b.ts ≡ y → (z : Bool) → ltb b.console a.console ≡ z
        → (v : Bool) → eqb a.console b.console ≡ v → (w : Bool) → ltb b.life a.life ≡ w
        → Higher a b → (x || y && z || y && v && w) ≡ true
    is_so true e y f z g v i w j m = refl
    is_so false e true f true g v i w j m = refl
    is_so false e true f false g true i true j m = refl
    is_so false e y f z g v i w j (inl l) = absurd (omega (arith, l, ltb-false b.ts a.ts e))
    is_so false e false f z g v i w j (inr (p, q)) = absurd (eqb-false a.ts b.ts f p)
    is_so false e true f false g v i w j (inr (p, inl l)) = absurd (omega (arith, l, ltb-false b.console a.console g))
    is_so false e true f false g false i w j (inr (p, inr (q, l))) = absurd (eqb-false a.console b.console i q)
    is_so false e true f false g true i false j (inr (p, inr (q, l))) = absurd (omega (arith, l, ltb-false b.life a.life j))

pub higher_of_key : (a b : Tag) → Small a → Small b → key b < key a → Higher a b
higher_of_key a b h i l = (higher_is_greater a b).0 (greater_key a b h i ∙ lt-ltb (key b) (key a) l)
