-- The check finds no fault exactly in the lists that are in order (specs/Claims.antt). A search from place i on finds nothing exactly where no record from
-- there on is at fault, and no record is exactly in the lists that are in order: of two places one comes first, and the
-- tests of a pair go both ways.
use Prim.Native.Nat.{ℕ, zero, suc, ◌+◌, ◌≤◌, ◌<◌}
use mathlib.Core.Bool.{Bool, true, false, cond, ◌||◌}
use mathlib.Core.List.{List, [], ◌∷◌}
use mathlib.Core.Logic.{◌⊎◌, inl, inr, ◌≢◌}
use mathlib.Core.Path.{◌≡◌, refl, sym, ◌∙◌}
use native.Mathlib.Omega.{arith}
use borrow.Author.Tests.{ltb-true, ltb-false, eqb-true, eqb-false}
use lib.Dec.{ltb, eqb}
use Rattle.std.specs.Prelude.{length, take, slice_get, Option, Some, None}
use Rattle.std.specs.List.{list_any}
use Rattle.std.proofs.lemmas.Option.{slice_get_within}
use Rattle.shift.specs.declared.Record.{Record}
use Rattle.shift.specs.declared.Rule.{Rule}
use Rattle.shift.specs.declared.Rule.TheVariants.{SharedTag, NoSuchWrite, TagTooLow}
use Rattle.shift.specs.declared.Fault.{Fault}
use Rattle.shift.specs.InOrder.{At, ShareTag, EndsBefore, NoLower, InOrder}
use Rattle.shift.specs.Faults.{share_tag, no_such_write, out_of_order, rule_of, rule_at, fault_or, first_from, first_fault}
use Rattle.shift.specs.Claims.{NoFaultInOrder}
use Rattle.shift.proofs.RulesLaws.{contra, is_share, share_is, read_is, is_read, order_is, order_other, is_order}

-- ---- a test of the elements before place i

or_false : (x y : Bool) → (x || y) ≡ false → (x ≡ false) × (y ≡ false)
or_false true y h = absurd (cc h)
or_false false y h = (refl, h)

module _ {X : Type 0} (p : X → Bool) where
  pub any_no : (l : List X) (i j : ℕ) (x : X) → list_any p (take i l) ≡ false → j < i → slice_get l j ≡ Some x → p x ≡ false
  any_no [] i j x h k g = absurd (cc g)
  any_no (y ∷ l) zero j x h k g = absurd (omega arith)
  any_no (y ∷ l) (suc i) zero x h k g =
      let e : y ≡ x = cc in
      rw (sym e) (or_false (p y) (list_any p (take i l)) h).0
  any_no (y ∷ l) (suc i) (suc j) x h k g = any_no l i j x (or_false (p y) (list_any p (take i l)) h).1 (omega arith) g

  no_any : (l : List X) (i : ℕ) → ((j : ℕ) (x : X) → j < i → slice_get l j ≡ Some x → p x ≡ false) → list_any p (take i l) ≡ false
  no_any l zero h = refl
  no_any [] (suc i) h = refl
  no_any (y ∷ l) (suc i) h = rw (h 0 y (omega arith) refl) (no_any l i (λ j x k g. h (suc j) x (omega arith) g))

-- ---- the rules of one record

module _ (l before : List Record) (y : Record) where
  pub record NoRule : Type 0 where
    pub shared : list_any (λ x. share_tag x y) before ≡ false
    pub read : no_such_write l y ≡ false
    pub order : list_any (λ x. out_of_order x y) before ≡ false

  pub none_is : rule_of l before y ≡ None → NoRule
  unfolding rule_of
  none_is h = go (list_any (λ x. share_tag x y) before) refl (no_such_write l y) refl (list_any (λ x. out_of_order x y) before) refl h
    where
      go : (a : Bool) → list_any (λ x. share_tag x y) before ≡ a → (b : Bool) → no_such_write l y ≡ b → (c : Bool) → list_any (λ x. out_of_order x y) before ≡ c
          → ◌≡◌ {A = Option Rule} (cond a (Some SharedTag) (cond b (Some NoSuchWrite) (cond c (Some TagTooLow) None))) None → NoRule
      go true e b f c g q = absurd (cc q)
      go false e true f c g q = absurd (cc q)
      go false e false f true g q = absurd (cc q)
      go false e false f false g q = record { shared = e; read = f; order = g }

  is_none_of : NoRule → rule_of l before y ≡ None
  unfolding rule_of
  is_none_of r = rw (r.shared, r.read, r.order)

-- ---- the earliest of a search from place i on

-- no record of the first n from place i on is at fault
abbrev pub NoneFrom : List Record → ℕ → ℕ → Type 0
NoneFrom l i n = (k : ℕ) → i ≤ k → k < i + n → rule_at l k ≡ None

-- what a search finds
data Found (l : List Record) (i n : ℕ) : Option Fault → Type 0 where
  nothing : NoneFrom l i n → Found l i n None
  fault : (f : Fault) → i ≤ f.place → f.place < i + n → rule_at l f.place ≡ Some f.rule → ((k : ℕ) → i ≤ k → k < f.place → rule_at l k ≡ None) → Found l i n (Some f)

search_finds : (l : List Record) (i n : ℕ) → Found l i n (first_from l i n)
unfolding first_from
search_finds l i zero = nothing (λ k a b. absurd (omega (arith, a, b)))
search_finds l i (suc n) = go (rule_at l i) refl (first_from l (i + 1) n) (search_finds l (i + 1) n)
  where
    here : rule_at l i ≡ None → (k : ℕ) → (i + 1 ≤ k → rule_at l k ≡ None) → i ≤ k → rule_at l k ≡ None
    here e k h a = at (eqb i k) refl
      where
        at : (x : Bool) → eqb i k ≡ x → rule_at l k ≡ None
        at true q = rw (sym (eqb-true i k q)) e
        at false q = h (omega (arith, a, eqb-false i k q))

    go : (r : Option Rule) → rule_at l i ≡ r → (rest : Option Fault) → Found l (i + 1) n rest → Found l i (suc n) (fault_or i r rest)
    go (Some r) e rest q = fault (record { place = i; rule = r }) (omega arith) (omega arith) e (λ k a b. absurd (omega (arith, a, b)))
    go None e None (nothing h) = nothing (λ k a b. here e k (λ c. h k c (omega (arith, b))) a)
    go None e (Some f) (fault _ a b q h) = fault f (omega (arith, a)) (omega (arith, b)) q (λ k c d. here e k (λ u. h k u d) c)

found_first : (l : List Record) (i n : ℕ) (o : Option Fault) (f : Fault) → Found l i n o → o ≡ Some f
    → (rule_at l f.place ≡ Some f.rule) × ((k : ℕ) → i ≤ k → k < f.place → rule_at l k ≡ None)
found_first l i n None f q e = absurd (cc e)
found_first l i n (Some g) f (fault _ a b q h) e =
    let s : g ≡ f = cc in
    rw (sym s) (q, h)

-- the earliest of the whole list
pub earliest_is : (l : List Record) (f : Fault) → first_fault l ≡ Some f
    → (rule_at l f.place ≡ Some f.rule) × ((i : ℕ) → i < f.place → rule_at l i ≡ None)
earliest_is l f e =
    let found = found_first l 0 (length l) (first_fault l) f (search_finds l 0 (length l)) e in
    (found.0, λ i k. found.1 i (omega arith) k)

-- ---- in order exactly when no record is at fault

none_found : (l : List Record) (i n : ℕ) (o : Option Fault) → Found l i n o → o ≡ None → NoneFrom l i n
none_found l i n None (nothing h) e = h
none_found l i n (Some f) q e = absurd (cc e)

found_none : (l : List Record) (i n : ℕ) (o : Option Fault) → Found l i n o → NoneFrom l i n → o ≡ None
found_none l i n None q h = refl
found_none l i n (Some f) (fault _ a b q g) h = absurd (cc (sym q ∙ h f.place a b))

-- two places: one comes first
places : (i j : ℕ) → i ≢ j → (i < j) ⊎ (j < i)
places i j ne = go (ltb i j) refl
  where
    go : (x : Bool) → ltb i j ≡ x → (i < j) ⊎ (j < i)
    go true e = inl (ltb-true i j e)
    go false e = inr (omega (arith, ltb-false i j e, ne))

pub at_place : (l : List Record) (i : ℕ) (y : Record) → At l i y → rule_at l i ≡ rule_of l (take i l) y
unfolding rule_at
at_place l i y g = rw g

pub past_end : (l : List Record) (i : ℕ) → slice_get l i ≡ None → rule_at l i ≡ None
unfolding rule_at
past_end l i g = rw g

module _ (l : List Record) (h : NoneFrom l 0 (length l)) where
  no_rule : (i : ℕ) (y : Record) → At l i y → NoRule l (take i l) y
  no_rule i y g = none_is l (take i l) y (sym (at_place l i y g) ∙ h i (omega arith) (omega (arith, slice_get_within l i y g)))

  in_order : InOrder l
  in_order = record {
    one_write = λ i j x y ne a b s. two i j x y a b s (places i j ne);
    written = λ i y a r. read_is l y (no_rule i y a).read r;
    in_time = λ i j x y ne a b e. timed i j x y a b e (places i j ne);
  }
    where
      two : (i j : ℕ) (x y : Record) → At l i x → At l j y → ShareTag x y → (i < j) ⊎ (j < i) → ⊥
      two i j x y a b s (inl k) = contra (share_is x y s) (any_no (λ z. share_tag z y) l j i x (no_rule j y b).shared k a)
      two i j x y a b s (inr k) = contra (share_is y x (s.1, s.0, sym s.2)) (any_no (λ z. share_tag z x) l i j y (no_rule i x a).shared k b)

      timed : (i j : ℕ) (x y : Record) → At l i x → At l j y → EndsBefore x y → (i < j) ⊎ (j < i) → NoLower x y
      timed i j x y a b e (inl k) = order_is x y (any_no (λ z. out_of_order z y) l j i x (no_rule j y b).order k a) e
      timed i j x y a b e (inr k) = order_other y x (any_no (λ z. out_of_order z x) l i j y (no_rule i x a).order k b) e

module _ (l : List Record) (h : InOrder l) where
  no_fault_at : (i : ℕ) (o : Option Record) → slice_get l i ≡ o → rule_at l i ≡ None
  no_fault_at i None g = past_end l i g
  no_fault_at i (Some y) g = at_place l i y g ∙ is_none_of l (take i l) y (record {
    shared = no_any (λ x. share_tag x y) l i (λ j x k a. not_shared j x k a (share_tag x y) refl);
    read = is_read l y (h.written i y g);
    order = no_any (λ x. out_of_order x y) l i (λ j x k a. is_order x y (h.in_time j i x y (λ e. omega (arith, e, k)) a g) (h.in_time i j y x (λ e. omega (arith, e, k)) g a));
  })
    where
      not_shared : (j : ℕ) (x : Record) → j < i → At l j x → (b : Bool) → share_tag x y ≡ b → share_tag x y ≡ false
      not_shared j x k a true e = absurd (h.one_write j i x y (λ q. omega (arith, q, k)) a g (is_share x y e))
      not_shared j x k a false e = e

  none_at_fault : NoneFrom l 0 (length l)
  none_at_fault i a b = no_fault_at i (slice_get l i) refl

pub no_fault_in_order : NoFaultInOrder
no_fault_in_order l = (
  λ e. in_order l (none_found l 0 (length l) (first_fault l) (search_finds l 0 (length l)) e),
  λ h. found_none l 0 (length l) (first_fault l) (search_finds l 0 (length l)) (none_at_fault l h),
)
