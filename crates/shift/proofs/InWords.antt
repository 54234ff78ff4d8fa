-- What the check finds is the earliest record at fault, in words, and the whole check passes the lists that are in order
-- (specs/Claims.antt).
use Prim.Native.Nat.{ℕ, zero, suc, ◌≤◌, ◌<◌}
use mathlib.Core.Bool.{Bool, true, false, cond, not}
use mathlib.Core.List.{List, [], ◌∷◌}
use mathlib.Core.Path.{◌≡◌, refl, sym, ◌∙◌}
use native.Mathlib.Omega.{arith}
use borrow.Author.Tests.{ltb-false, le-ltb}
use lib.Dec.{ltb}
use Rattle.std.specs.Prelude.{length, take, slice_get, Option, Some, None, Result, Ok, Err}
use Rattle.std.specs.List.{list_any, list_all}
use Rattle.decisions.specs.declared.refusals.Refusal.{Refusal}
use Rattle.decisions.specs.declared.refusals.Refusal.TheVariants.{TooManyRecords, UnsoundRecord}
use Rattle.shift.specs.declared.Record.{Record}
use Rattle.shift.specs.declared.Rule.{Rule}
use Rattle.shift.specs.declared.Rule.TheVariants.{SharedTag, NoSuchWrite, TagTooLow}
use Rattle.shift.specs.declared.Fault.{Fault}
use Rattle.shift.specs.InOrder.{At, Breaks, AtFault, InOrder}
use Rattle.shift.specs.Faults.{share_tag, no_such_write, out_of_order, rule_of, rule_at, rule_number, first_fault, max_records, is_sound, checked}
use Rattle.shift.specs.Claims.{IsFirst, FaultIsFirst, CheckPasses}
use Rattle.shift.proofs.RulesLaws.{contra, is_share, share_is, read_not, not_read, time_is, is_time}
use Rattle.shift.proofs.Theorems.{any_no, NoRule, none_is, at_place, past_end, earliest_is, no_fault_in_order}

-- ---- a test of the elements before place i

module _ {X : Type 0} (p : X → Bool) where
  any_some : (l : List X) (i : ℕ) → list_any p (take i l) ≡ true → (j : ℕ) × (x : X) × (j < i) × (slice_get l j ≡ Some x) × (p x ≡ true)
  any_some l zero h = absurd (cc h)
  any_some [] (suc i) h = absurd (cc h)
  any_some (y ∷ l) (suc i) h = go (p y) refl (any_some l i)
    where
      go : (b : Bool) → p y ≡ b → (list_any p (take i l) ≡ true → (j : ℕ) × (x : X) × (j < i) × (slice_get l j ≡ Some x) × (p x ≡ true))
          → (j : ℕ) × (x : X) × (j < suc i) × (slice_get (y ∷ l) j ≡ Some x) × (p x ≡ true)
      go true e rest = (0, y, omega arith, refl, e)
      go false e rest = let r = rest (rw e at h) in (suc r.0, r.1, omega (arith, r.2), r.3, r.4)

  some_any : (l : List X) (i j : ℕ) (x : X) → j < i → slice_get l j ≡ Some x → p x ≡ true → list_any p (take i l) ≡ false → ⊥
  some_any l i j x k g e h = contra e (any_no p l i j x h k g)

-- ---- the rule that puts a record at fault

module _ (l : List Record) (i : ℕ) (y : Record) where
  -- the tests that it passed over, and the one that it stopped at
  StopsAt : Rule → Type 0
  StopsAt SharedTag = list_any (λ x. share_tag x y) (take i l) ≡ true
  StopsAt NoSuchWrite = (list_any (λ x. share_tag x y) (take i l) ≡ false) × (no_such_write l y ≡ true)
  StopsAt TagTooLow = (list_any (λ x. share_tag x y) (take i l) ≡ false) × (no_such_write l y ≡ false) × (list_any (λ x. out_of_order x y) (take i l) ≡ true)

  stops : (r : Rule) → rule_of l (take i l) y ≡ Some r → StopsAt r
  unfolding rule_of StopsAt
  stops r h = go (list_any (λ x. share_tag x y) (take i l)) refl (no_such_write l y) refl (list_any (λ x. out_of_order x y) (take i l)) refl r h
    where
      go : (a : Bool) → list_any (λ x. share_tag x y) (take i l) ≡ a → (b : Bool) → no_such_write l y ≡ b → (c : Bool) → list_any (λ x. out_of_order x y) (take i l) ≡ c
          → (r : Rule) → ◌≡◌ {A = Option Rule} (cond a (Some SharedTag) (cond b (Some NoSuchWrite) (cond c (Some TagTooLow) None))) (Some r) → StopsAt r
      go true e b f c g SharedTag q = e
      go true e b f c g NoSuchWrite q = absurd (cc q)
      go true e b f c g TagTooLow q = absurd (cc q)
      go false e true f c g SharedTag q = absurd (cc q)
      go false e true f c g NoSuchWrite q = (e, f)
      go false e true f c g TagTooLow q = absurd (cc q)
      go false e false f true g SharedTag q = absurd (cc q)
      go false e false f true g NoSuchWrite q = absurd (cc q)
      go false e false f true g TagTooLow q = (e, f, g)
      go false e false f false g r q = absurd (cc q)

  shares : list_any (λ x. share_tag x y) (take i l) ≡ true → Breaks l i y SharedTag
  shares h = let s = any_some (λ x. share_tag x y) l i h in (s.0, s.1, s.2, s.3, is_share s.1 y s.4)

  late : list_any (λ x. out_of_order x y) (take i l) ≡ true → Breaks l i y TagTooLow
  late h = let s = any_some (λ x. out_of_order x y) l i h in (s.0, s.1, s.2, s.3, time_is s.1 y s.4)

  breaks : (r : Rule) → StopsAt r → Breaks l i y r
  unfolding StopsAt
  breaks SharedTag h = shares h
  breaks NoSuchWrite h = not_read l y h.1
  breaks TagTooLow h = late h.2

  not_shared : list_any (λ x. share_tag x y) (take i l) ≡ false → Breaks l i y SharedTag → ⊥
  not_shared h b = some_any (λ x. share_tag x y) l i b.0 b.1 b.2 b.3 (share_is b.1 y b.4) h

  not_late : list_any (λ x. out_of_order x y) (take i l) ≡ false → Breaks l i y TagTooLow → ⊥
  not_late h b = some_any (λ x. out_of_order x y) l i b.0 b.1 b.2 b.3 (is_time b.1 y b.4) h

  not_before : (r s : Rule) → StopsAt r → rule_number s < rule_number r → Breaks l i y s → ⊥
  unfolding StopsAt
  not_before SharedTag SharedTag h k b = absurd (omega arith)
  not_before SharedTag NoSuchWrite h k b = absurd (omega arith)
  not_before SharedTag TagTooLow h k b = absurd (omega arith)
  not_before NoSuchWrite SharedTag h k b = not_shared h.0 b
  not_before NoSuchWrite NoSuchWrite h k b = absurd (omega arith)
  not_before NoSuchWrite TagTooLow h k b = absurd (omega arith)
  not_before TagTooLow SharedTag h k b = not_shared h.0 b
  not_before TagTooLow NoSuchWrite h k b = read_not l y h.1 b
  not_before TagTooLow TagTooLow h k b = absurd (omega arith)

  none_breaks : NoRule l (take i l) y → (r : Rule) → Breaks l i y r → ⊥
  none_breaks h SharedTag b = not_shared h.shared b
  none_breaks h NoSuchWrite b = read_not l y h.read b
  none_breaks h TagTooLow b = not_late h.order b

-- the record in place i is the only one there
the_same : (l : List Record) (i : ℕ) (x y : Record) → At l i x → At l i y → x ≡ y
the_same l i x y a b = let e : ◌≡◌ {A = Option Record} (Some x) (Some y) = sym a ∙ b in cc

none_at : (l : List Record) (i : ℕ) → rule_at l i ≡ None → (r : Rule) → AtFault l i r → ⊥
none_at l i h r a = none_breaks l i a.0 (none_is l (take i l) a.0 (sym (at_place l i a.0 a.1) ∙ h)) r a.2

module _ (l : List Record) (f : Fault) (e : first_fault l ≡ Some f) where
  first_of : (o : Option Record) → slice_get l f.place ≡ o → IsFirst l f
  first_of None g = absurd (cc (sym (past_end l f.place g) ∙ (earliest_is l f e).0))
  first_of (Some y) g =
      let s = stops l f.place y f.rule (sym (at_place l f.place y g) ∙ (earliest_is l f e).0) in
      record {
        at_fault = (y, g, breaks l f.place y f.rule s);
        by_no_rule_before = λ r k a. not_before l f.place y f.rule r s k (rw (the_same l f.place a.0 y a.1 g) at a.2);
        none_before = λ i r k a. none_at l i ((earliest_is l f e).1 i k) r a;
      }

pub fault_is_first : FaultIsFirst
fault_is_first l f e = first_of l f e (slice_get l f.place) refl

-- ---- the whole check

pub check_passes : CheckPasses
unfolding checked
check_passes l = (there (ltb max_records (length l)) refl (list_all is_sound l) refl, back)
  where
    there : (x : Bool) → ltb max_records (length l) ≡ x → (y : Bool) → list_all is_sound l ≡ y
        → ◌≡◌ {A = Result (Option Fault) Refusal} (cond x (Err TooManyRecords) (cond (not y) (Err UnsoundRecord) (Ok (first_fault l)))) (Ok None)
        → (length l ≤ max_records) × (list_all is_sound l ≡ true) × InOrder l
    there true e y f q = absurd (cc q)
    there false e false f q = absurd (cc q)
    there false e true f q = (ltb-false max_records (length l) e, f, (no_fault_in_order l).0 cc)

    back : (length l ≤ max_records) × (list_all is_sound l ≡ true) × InOrder l → cond (ltb max_records (length l)) (Err TooManyRecords) (cond (not (list_all is_sound l)) (Err UnsoundRecord) (Ok (first_fault l))) ≡ Ok None
    back h = rw (le-ltb max_records (length l) h.0, h.1, (no_fault_in_order l).1 h.2)
