-- Laws of the answered set, computed over all the sets of five nodes: its size is the count of its members, and what
-- inserting a node does to each bit.
use Prim.Native.Nat.{ℕ, ◌^◌, ◌≤◌, ◌<◌}
use mathlib.Core.Bool.{Bool, true, false, not, ◌&&◌, ◌||◌}
use mathlib.Core.Logic.{◌≢◌}
use mathlib.Core.Path.{refl, sym, ◌≡◌}
use native.Mathlib.Omega.{arith}
use borrow.Author.Tests.{ltb-true, eqb-true, ne_eqb, leb-true, not-true}
use lib.Dec.{ltb, leb, eqb}
use Rattle.parts.proofs.FiniteLaws.{and_left, and_right, every_at}
use Rattle.parts.specs.AnsweredSet.{insert, member, size}
use Rattle.parts.specs.Finite.{count, every}

eq_bool : Bool → Bool → Bool
eq_bool true y = y
eq_bool false y = not y

eq_bool_true : (x y : Bool) → eq_bool x y ≡ true → x ≡ y
unfolding eq_bool
eq_bool_true true y h = sym h
eq_bool_true false true h = h
eq_bool_true false false h = refl

or_right : (x y : Bool) → x ≡ false → (x || y) ≡ true → y ≡ true
or_right true y e h = cc
or_right false y e h = h

-- the size is the count of members, for every number of nodes up to 5
size_test : every 6 (λ n. every (2 ^ n) (λ a. eqb (size a) (count n (member a)))) ≡ true
unfolding every size member count
size_test = refl

pub size_count : (n a : ℕ) → n ≤ 5 → a < 2 ^ n → size a ≡ count n (member a)
size_count n a h l = eqb-true (size a) (count n (member a)) (every_at _ (2 ^ n) (every_at _ 6 size_test n (omega arith)) a l)

insert_small_test : every 6 (λ n. every (2 ^ n) (λ a. every n (λ k. ltb (insert a k) (2 ^ n)))) ≡ true
unfolding every member insert
insert_small_test = refl

pub insert_small : (n a k : ℕ) → n ≤ 5 → a < 2 ^ n → k < n → insert a k < 2 ^ n
insert_small n a k h l i = ltb-true (insert a k) (2 ^ n) (every_at _ n (every_at _ (2 ^ n) (every_at _ 6 insert_small_test n (omega arith)) a l) k i)

keeps : ℕ → ℕ → ℕ → Bool
keeps a k j = eqb j k || eq_bool (member (insert a k) j) (member a j)

insert_bits : ℕ → ℕ → Bool
insert_bits a k = member (insert a k) k && every 5 (keeps a k)

insert_test : every 32 (λ a. every 5 (insert_bits a)) ≡ true
unfolding every member insert eq_bool keeps insert_bits
insert_test = refl

module _ (a k : ℕ) (ha : a < 32) (hk : k < 5) where
  inserted : insert_bits a k ≡ true
  inserted = every_at (insert_bits a) 5 (every_at (λ a. every 5 (insert_bits a)) 32 insert_test a ha) k hk

  pub insert_same : member (insert a k) k ≡ true
  unfolding insert_bits
  insert_same = and_left _ _ inserted

  pub insert_other : (j : ℕ) → j < 5 → j ≢ k → member (insert a k) j ≡ member a j
  unfolding keeps insert_bits
  insert_other j l h = eq_bool_true _ _ (or_right (eqb j k) _ (ne_eqb j k h) (every_at (keeps a k) 5 (and_right (member (insert a k) k) _ inserted) j l))

insert_some_test : every 32 (λ a. every 5 (λ k. not (eqb (insert a k) 0))) ≡ true
unfolding every member insert
insert_some_test = refl

-- a set with an answer in it is not empty
pub insert_some : (a k : ℕ) → a < 32 → k < 5 → eqb (insert a k) 0 ≡ false
insert_some a k h l = not-true (eqb (insert a k) 0) (every_at (λ k. not (eqb (insert a k) 0)) 5 (every_at (λ a. every 5 (λ k. not (eqb (insert a k) 0))) 32 insert_some_test a h) k l)

-- if k joins a and is alone then, a was empty
first : ℕ → ℕ → Bool
first a k = member a k || not (eqb (size (insert a k)) 1) || eqb a 0

first_test : every 32 (λ a. every 5 (first a)) ≡ true
unfolding every member insert size count first
first_test = refl

-- an answer that is the only one is the first
pub insert_first : (a k : ℕ) → a < 32 → k < 5 → member a k ≡ false → eqb (size (insert a k)) 1 ≡ true → a ≡ 0
unfolding first
insert_first a k h l un e = eqb-true a 0 (or_right (member a k || not (eqb (size (insert a k)) 1)) _ (rw (un, e))
    (every_at (first a) 5 (every_at (λ a. every 5 (first a)) 32 first_test a h) k l))

power_test : every 6 (λ n. ltb 0 (2 ^ n) && leb (2 ^ n) 32) ≡ true
unfolding every
power_test = refl

power : (n : ℕ) → n ≤ 5 → ltb 0 (2 ^ n) && leb (2 ^ n) 32 ≡ true
power n h = every_at (λ n. ltb 0 (2 ^ n) && leb (2 ^ n) 32) 6 power_test n (omega arith)

pub power_pos : (n : ℕ) → n ≤ 5 → 0 < 2 ^ n
power_pos n h = ltb-true 0 (2 ^ n) (and_left _ _ (power n h))

pub small_32 : (n a : ℕ) → n ≤ 5 → a < 2 ^ n → a < 32
small_32 n a h l = omega (arith, leb-true (2 ^ n) 32 (and_right (ltb 0 (2 ^ n)) _ (power n h)))

empty_test : every 5 (λ k. not (member 0 k)) ≡ true
unfolding every member
empty_test = refl

pub member_empty : (k : ℕ) → k < 5 → member 0 k ≡ false
member_empty k l = not-true (member 0 k) (every_at (λ k. not (member 0 k)) 5 empty_test k l)

pub size_empty : size 0 ≡ 0
unfolding size count member
size_empty = refl
