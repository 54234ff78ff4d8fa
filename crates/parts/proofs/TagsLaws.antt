-- Laws of the order of tags by their keys, and of how one tag compares with another.
use Prim.Native.Nat.{◌<◌, ◌≤◌}
use mathlib.Core.Path.{◌≡◌, refl, sym}
use mathlib.Core.Bool.{Bool, true, false, cond, ◌&&◌, ◌||◌}
use native.Mathlib.Omega.{arith}
use borrow.Author.Tests.{ltb-true, ltb-false, eqb-true, eqb-false, lt-ltb, le-ltb}
use lib.Dec.{ltb, eqb}
use Rattle.std.specs.declared.cmp.Ordering.TheVariants.{Less, Equal, Greater}
use Rattle.std.specs.Cmp.{nat_cmp_is}
use Rattle.std.specs.Ordering.{MatchOrdering, is_eq, is_gt, nat_cmp}
use Rattle.parts.specs.declared.Tag.{Tag}
use Rattle.parts.specs.Limits.{max_consoles, max_ts, max_life}
use Rattle.parts.specs.Tags.{zero_tag, greater, life_room, key, compared}

-- a tag whose key can be compared: 'only where both console numbers are below 8'. Every life of a tag's type fits
pub record Small (t : Tag) : Type 0 where
  pub console_8 : t.console < max_consoles
  pub life_fits : t.life < life_room

-- of two such tags a is greater than b exactly if its key is
pub greater_key : (a b : Tag) → Small a → Small b → greater a b ≡ ltb (key b) (key a)
unfolding greater
greater_key a b ha hb =
    go (ltb b.ts a.ts) refl (eqb a.ts b.ts) refl (ltb b.console a.console) refl (eqb a.console b.console) refl (ltb b.life a.life) refl
  where
    lt : key b < key a → true ≡ ltb (key b) (key a)
    lt h = sym (lt-ltb (key b) (key a) h)

    ge : key a ≤ key b → false ≡ ltb (key b) (key a)
    ge h = sym (le-ltb (key b) (key a) h)

    go : (x : Bool) → ltb b.ts a.ts ≡ x → (y : Bool) → eqb a.ts b.ts ≡ y → (z : Bool) → ltb b.console a.console ≡ z
        → (v : Bool) → eqb a.console b.console ≡ v → (w : Bool) → ltb b.life a.life ≡ w
        → (x || y && z || y && v && w) ≡ ltb (key b) (key a)
    go true e y f z g v i w j = lt (omega (arith, ltb-true, ha.console_8, hb.console_8, ha.life_fits, hb.life_fits))
    go false e false f z g v i w j =
        ge (omega (arith, ltb-false, eqb-false a.ts b.ts f, ha.console_8, hb.console_8, ha.life_fits, hb.life_fits))
    go false e true f true g v i w j = lt (omega (arith, eqb-true, ltb-true, ha.life_fits, hb.life_fits))
    go false e true f false g false i w j =
        ge (omega (arith, eqb-true, ltb-false, eqb-false a.console b.console i, ha.life_fits, hb.life_fits))
    go false e true f false g true i true j = lt (omega (arith, eqb-true, ltb-true))
    go false e true f false g true i false j = ge (omega (arith, eqb-true, ltb-false))

-- two such tags compare as their keys do
pub compared_key : (t b : Tag) → Small t → Small b → compared t b ≡ nat_cmp (key t) (key b)
unfolding compared
compared_key t b ht hb =
    nat_cmp_is (key t) (key b) (compared t b) (go (greater t b) (greater_key t b ht hb) (greater b t) (greater_key b t hb ht))
  where
    go : (x : Bool) → x ≡ ltb (key b) (key t) → (y : Bool) → y ≡ ltb (key t) (key b)
        → MatchOrdering (cond x Greater (cond y Less Equal)) (key t < key b) (key t ≡ key b) (key b < key t)
    go true e y f = ltb-true (key b) (key t) (sym e)
    go false e true f = ltb-true (key t) (key b) (sym f)
    go false e false f = omega (arith, ltb-false (key b) (key t) (sym e), ltb-false (key t) (key b) (sym f))

-- the keys of (0, 0), of (1, 1) in life 2, and of the highest tag
pub key_values : (key zero_tag ≡ 0) × (key (record { ts = 1; console = 1; life = 2 }) ≡ 589826) × (key (record { ts = max_ts; console = 7; life = max_life }) ≡ 2097152000459752)
key_values = (refl, refl, refl)

-- a tag that compares higher is the greater one
pub higher_greater : (t b : Tag) → is_gt (compared t b) ≡ greater t b
unfolding compared
higher_greater t b = go (greater t b) refl (greater b t) refl
  where
    go : (x : Bool) → greater t b ≡ x → (y : Bool) → greater b t ≡ y → is_gt (compared t b) ≡ x
    go true e y f = rw e
    go false e true f = rw (e, f)
    go false e false f = rw (e, f)

-- of two tags that compare the same neither is greater
pub same_neither : (t b : Tag) → is_eq (compared t b) ≡ true → (greater t b ≡ false) × (greater b t ≡ false)
unfolding compared
same_neither t b h = go (greater t b) refl (greater b t) refl
  where
    go : (x : Bool) → greater t b ≡ x → (y : Bool) → greater b t ≡ y → (x ≡ false) × (y ≡ false)
    go true e y f = let z : ◌≡◌ {A = Bool} false true = rw e at h in (cc, cc)
    go false e true f = let z : ◌≡◌ {A = Bool} false true = rw (e, f) at h in (refl, cc)
    go false e false f = (refl, refl)
