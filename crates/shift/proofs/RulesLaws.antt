-- The tests of two records, and the rules that they are tests of.
use Prim.Native.Nat.{ℕ}
use mathlib.Core.Bool.{Bool, true, false, not, ◌&&◌, ◌||◌}
use mathlib.Core.List.{List}
use mathlib.Core.Logic.{◌⊎◌, inl, inr}
use mathlib.Core.Path.{◌≡◌, refl, ap}
use native.Mathlib.Omega.{arith}
use borrow.Author.Tests.{not-true, eqb-true, ltb-true, eq-eqb, lt-ltb}
use lib.Dec.{eqb, ltb}
use Rattle.std.specs.List.{list_any}
use Rattle.std.proofs.lemmas.List.Folds.{Any-from_list_any, list_any-from_Any}
use Rattle.parts.specs.declared.Kind.{Kind}
use Rattle.parts.specs.declared.Kind.TheVariants.{Read, Write}
use Rattle.parts.specs.declared.Tag.{Tag}
use Rattle.parts.specs.Parts.{is_write}
use Rattle.parts.specs.Tags.{zero_tag, greater}
use Rattle.parts.proofs.FiniteLaws.{and_left, and_right}
use Rattle.well_formed.specs.Clauses.{is_zero}
use Rattle.shift.specs.declared.Record.{Record}
use Rattle.shift.specs.declared.Rule.TheVariants.{NoSuchWrite}
use Rattle.shift.specs.InOrder.{ShareTag, IsWritten, IsInitial, EndsBefore, NoLower, OutOfTime, Breaks}
use Rattle.shift.specs.Faults.{same_tag, share_tag, is_source, no_such_write, ends_before, is_too_low, out_of_order}

-- ---- tests

pub contra : {a : Bool} → a ≡ true → a ≡ false → ⊥
contra e f = let z : ◌≡◌ {A = ℕ} 0 1 = cc in omega arith

both : {x y : Bool} → x ≡ true → y ≡ true → (x && y) ≡ true
both e f = cc

refuted : (x : Bool) → (x ≡ true → ⊥) → x ≡ false
refuted true h = absurd (h refl)
refuted false h = refl

write_is : (k : Kind) → is_write k ≡ true → k ≡ Write
write_is Read h = absurd (cc h)
write_is Write h = refl

is_writes : (k : Kind) → k ≡ Write → is_write k ≡ true
is_writes Read h = absurd (cc h)
is_writes Write h = refl

tags_same : (a b : Tag) → same_tag a b ≡ true → a ≡ b
tags_same a b h =
    let e : a.ts ≡ b.ts = eqb-true a.ts b.ts (and_left (eqb a.ts b.ts) _ (and_left (eqb a.ts b.ts && eqb a.console b.console) _ h)) in
    let f : a.console ≡ b.console = eqb-true a.console b.console (and_right (eqb a.ts b.ts) _ (and_left (eqb a.ts b.ts && eqb a.console b.console) _ h)) in
    let g : a.life ≡ b.life = eqb-true a.life b.life (and_right (eqb a.ts b.ts && eqb a.console b.console) _ h) in
    λ i. record { ts = e i; console = f i; life = g i }

same_tags : (a b : Tag) → a ≡ b → same_tag a b ≡ true
same_tags a b e = both (both (eq-eqb a.ts b.ts (ap (λ (t : Tag). t.ts) e)) (eq-eqb a.console b.console (ap (λ (t : Tag). t.console) e))) (eq-eqb a.life b.life (ap (λ (t : Tag). t.life) e))

-- ---- two writes of one tag

pub is_share : (x y : Record) → share_tag x y ≡ true → ShareTag x y
unfolding share_tag
is_share x y h =
    let writes = and_left (is_write x.kind && is_write y.kind) _ h in (
      write_is x.kind (and_left (is_write x.kind) _ writes),
      write_is y.kind (and_right (is_write x.kind) _ writes),
      tags_same x.tag y.tag (and_right (is_write x.kind && is_write y.kind) _ h),
    )

pub share_is : (x y : Record) → ShareTag x y → share_tag x y ≡ true
unfolding share_tag
share_is x y h = both (both (is_writes x.kind h.0) (is_writes y.kind h.1)) (same_tags x.tag y.tag h.2)

-- ---- what a read returns

source : (x y : Record) → is_source x y ≡ true → (x.kind ≡ Write) × (x.tag ≡ y.tag) × (x.value ≡ y.value)
unfolding is_source
source x y h =
    let before = and_left (is_write x.kind && same_tag x.tag y.tag) _ h in (
      write_is x.kind (and_left (is_write x.kind) _ before),
      tags_same x.tag y.tag (and_right (is_write x.kind) _ before),
      eqb-true x.value y.value (and_right (is_write x.kind && same_tag x.tag y.tag) _ h),
    )

is_of_source : (x y : Record) → (x.kind ≡ Write) × (x.tag ≡ y.tag) × (x.value ≡ y.value) → is_source x y ≡ true
unfolding is_source
is_of_source x y h = both (both (is_writes x.kind h.0) (same_tags x.tag y.tag h.1)) (eq-eqb x.value y.value h.2)

written_is : (l : List Record) (y : Record) → list_any (λ x. is_source x y) l ≡ true → IsWritten l y
written_is l y h =
    let a = Any-from_list_any (λ x. is_source x y) l h in
    (a.0, a.1, a.2, a.3, source a.1 y a.4)

is_written : (l : List Record) (y : Record) → IsWritten l y → list_any (λ x. is_source x y) l ≡ true
is_written l y a = list_any-from_Any (λ x. is_source x y) l (a.0, a.1, a.2, a.3, is_of_source a.1 y a.4)

initial_is : (y : Record) → is_zero y.tag y.value ≡ true → IsInitial y
unfolding is_zero
initial_is y h =
    (tags_same y.tag zero_tag (and_left (same_tag y.tag zero_tag) _ h), eqb-true y.value 0 (and_right (same_tag y.tag zero_tag) _ h))

is_initial : (y : Record) → IsInitial y → is_zero y.tag y.value ≡ true
unfolding is_zero
is_initial y h = both (same_tags y.tag zero_tag h.0) (eq-eqb y.value 0 h.1)

pub read_is : (l : List Record) (y : Record) → no_such_write l y ≡ false → y.kind ≡ Read → IsWritten l y ⊎ IsInitial y
unfolding no_such_write
read_is l y h r = go y.kind r (is_zero y.tag y.value) refl (list_any (λ x. is_source x y) l) refl h
  where
    go : (k : Kind) → k ≡ Read → (a : Bool) → is_zero y.tag y.value ≡ a → (b : Bool) → list_any (λ x. is_source x y) l ≡ b
        → (not (is_write k) && not a && not b) ≡ false → IsWritten l y ⊎ IsInitial y
    go Write e a f b g p = absurd (cc e)
    go Read e true f b g p = inr (initial_is y f)
    go Read e false f true g p = inl (written_is l y g)
    go Read e false f false g p = absurd (cc p)

pub read_kind : (l : List Record) (y : Record) → no_such_write l y ≡ true → y.kind ≡ Read
unfolding no_such_write
read_kind l y h = go y.kind h
  where
    go : (k : Kind) → (not (is_write k) && not (is_zero y.tag y.value) && not (list_any (λ x. is_source x y) l)) ≡ true → k ≡ Read
    go Read e = refl
    go Write e = absurd (cc e)

pub is_read : (l : List Record) (y : Record) → (y.kind ≡ Read → IsWritten l y ⊎ IsInitial y) → no_such_write l y ≡ false
unfolding no_such_write
is_read l y h = go y.kind h
  where
    go : (k : Kind) → (k ≡ Read → IsWritten l y ⊎ IsInitial y) → (not (is_write k) && not (is_zero y.tag y.value) && not (list_any (λ x. is_source x y) l)) ≡ false
    go Write q = refl
    go Read q = by (q refl)
      where
        by : IsWritten l y ⊎ IsInitial y → (not (is_zero y.tag y.value) && not (list_any (λ x. is_source x y) l)) ≡ false
        by (inl w) = refuted _ (λ e. contra (is_written l y w) (not-true _ (and_right (not (is_zero y.tag y.value)) _ e)))
        by (inr z) = rw (is_initial y z)

-- ---- tags and time

pub ends_is : (x y : Record) → ends_before x y ≡ true → EndsBefore x y
ends_is x y h = (ltb-true 0 x.end (and_left (ltb 0 x.end) _ h), ltb-true x.end y.begin (and_right (ltb 0 x.end) _ h))

is_ends : (x y : Record) → EndsBefore x y → ends_before x y ≡ true
is_ends x y h = both (lt-ltb 0 x.end h.0) (lt-ltb x.end y.begin h.1)

low_is : (x y : Record) → is_too_low x y ≡ false → NoLower x y
low_is x y h = go (greater x.tag y.tag) y.kind (greater y.tag x.tag) h
  where
    go : (a : Bool) (k : Kind) (b : Bool) → (a || is_write k && not b) ≡ false → (a ≡ false) × (k ≡ Write → b ≡ true)
    go true k b e = absurd (cc e)
    go false Read b e = (refl, λ w. absurd (cc w))
    go false Write true e = (refl, λ w. refl)
    go false Write false e = absurd (cc e)

is_low : (x y : Record) → NoLower x y → is_too_low x y ≡ false
is_low x y h = go (greater x.tag y.tag) h.0 y.kind (greater y.tag x.tag) h.1
  where
    go : (a : Bool) → a ≡ false → (k : Kind) (b : Bool) → (k ≡ Write → b ≡ true) → (a || is_write k && not b) ≡ false
    go true e k b f = cc
    go false e Read b f = refl
    go false e Write true f = refl
    go false e Write false f = absurd (cc (f refl))

-- the later of the two
pub order_is : (x y : Record) → out_of_order x y ≡ false → EndsBefore x y → NoLower x y
unfolding out_of_order
order_is x y h e = low_is x y (go (ends_before x y) (is_ends x y e) (is_too_low x y) (ends_before y x && is_too_low y x) h)
  where
    go : (a : Bool) → a ≡ true → (b c : Bool) → (a && b || c) ≡ false → b ≡ false
    go true f true c p = absurd (cc p)
    go true f false c p = refl
    go false f b c p = absurd (cc f)

pub order_other : (x y : Record) → out_of_order x y ≡ false → EndsBefore y x → NoLower y x
unfolding out_of_order
order_other x y h e = low_is y x (go (ends_before x y && is_too_low x y) (ends_before y x) (is_ends y x e) (is_too_low y x) h)
  where
    go : (c a : Bool) → a ≡ true → (b : Bool) → (c || a && b) ≡ false → b ≡ false
    go true a f b p = absurd (cc p)
    go false true f true p = absurd (cc p)
    go false true f false p = refl
    go false false f b p = absurd (cc f)

pub is_order : (x y : Record) → (EndsBefore x y → NoLower x y) → (EndsBefore y x → NoLower y x) → out_of_order x y ≡ false
unfolding out_of_order
is_order x y h k = go (ends_before x y) (is_too_low x y) (ends_before y x) (is_too_low y x) (λ e. is_low x y (h (ends_is x y e))) (λ e. is_low y x (k (ends_is y x e)))
  where
    go : (a b c d : Bool) → (a ≡ true → b ≡ false) → (c ≡ true → d ≡ false) → (a && b || c && d) ≡ false
    go true true c d f g = absurd (cc (f refl))
    go true false true true f g = absurd (cc (g refl))
    go true false true false f g = refl
    go true false false d f g = refl
    go false b true true f g = absurd (cc (g refl))
    go false b true false f g = refl
    go false b false d f g = refl

-- ---- a record at fault

-- a read of what no record wrote
pub read_not : (l : List Record) (y : Record) → no_such_write l y ≡ false → Breaks l 0 y NoSuchWrite → ⊥
read_not l y h b = b.1 (read_is l y h b.0)

pub not_read : (l : List Record) (y : Record) → no_such_write l y ≡ true → Breaks l 0 y NoSuchWrite
not_read l y h = (read_kind l y h, λ w. contra h (is_read l y (λ _. w)))

-- the tags of two are the wrong way round
pub time_is : (x y : Record) → out_of_order x y ≡ true → OutOfTime x y ⊎ OutOfTime y x
unfolding out_of_order
time_is x y h = go (ends_before x y) refl (is_too_low x y) refl (ends_before y x) refl (is_too_low y x) refl h
  where
    go : (a : Bool) → ends_before x y ≡ a → (b : Bool) → is_too_low x y ≡ b → (c : Bool) → ends_before y x ≡ c → (d : Bool) → is_too_low y x ≡ d
        → (a && b || c && d) ≡ true → OutOfTime x y ⊎ OutOfTime y x
    go true e true f c g d i q = inl (ends_is x y e, λ n. contra f (is_low x y n))
    go a e b f true g true i q = inr (ends_is y x g, λ n. contra i (is_low y x n))
    go true e false f true g false i q = absurd (cc q)
    go true e false f false g d i q = absurd (cc q)
    go false e b f true g false i q = absurd (cc q)
    go false e b f false g d i q = absurd (cc q)

pub is_time : (x y : Record) → OutOfTime x y ⊎ OutOfTime y x → out_of_order x y ≡ true
is_time x y w = go (out_of_order x y) refl w
  where
    go : (b : Bool) → out_of_order x y ≡ b → OutOfTime x y ⊎ OutOfTime y x → out_of_order x y ≡ true
    go true e w = e
    go false e (inl t) = absurd (t.1 (order_is x y e t.0))
    go false e (inr t) = absurd (t.1 (order_other x y e t.0))
