-- Laws of tests: what branch facts say of them, of 'and' and 'implies', and of a test over the numbers below n.
-- The loop that tests each number (crates/well_formed/src/every.rt) cites every_none, every_more and every_fails.
use mathlib.Core.Path.{◌≡◌, refl}
use mathlib.Core.Bool.{Bool, true, false, ◌&&◌}
use Prim.Native.Nat.{ℕ, zero, suc, ◌+◌, ◌<◌}
use native.Mathlib.Numerals.{add-one}
use native.Mathlib.Omega.{arith}
use borrow.Author.Tests.{not-true, not-false, eqb-true, eqb-false, le-ltb, lt-ltb, le-leb, lt-leb, eq-eqb, ne_eqb}
use lib.Dec.{eqb}
use Rattle.parts.specs.Finite.{◌implies◌, every}

-- a test of numbers from the fact that a branch knows
pub ruleset tests = (le-ltb, lt-ltb, le-leb, lt-leb, eq-eqb, ne_eqb)

pub and_left : (x y : Bool) → (x && y) ≡ true → x ≡ true
and_left true y h = refl
and_left false y h = h

pub and_right : (x y : Bool) → (x && y) ≡ true → y ≡ true
and_right true y h = h
and_right false y h = cc

and_false : (x y : Bool) → y ≡ false → (x && y) ≡ false
and_false true y h = h
and_false false y h = refl

pub implied : (x y : Bool) → (x implies y) ≡ true → x ≡ true → y ≡ true
implied true y h e = h
implied false y h e = cc

pub every_none : (p : ℕ → Bool) → every 0 p ≡ true
unfolding every
every_none p = refl

pub every_more : (p : ℕ → Bool) (i : ℕ) → every i p ≡ true → p i ≡ true → every (i + 1) p ≡ true
unfolding every
every_more p i h g = rw (add-one, h, g)

pub every_fails : (p : ℕ → Bool) (n i : ℕ) → i < n → p i ≡ false → every n p ≡ false
unfolding every
every_fails p zero i h e = absurd (omega arith)
every_fails p (suc n) i h e = go (every_fails p n i) (eqb i n) refl
  where
    go : (i < n → p i ≡ false → every n p ≡ false) → (x : Bool) → eqb i n ≡ x → every (suc n) p ≡ false
    go rest true f = and_false (every n p) (p n) (rw (eqb-true i n f) at e)
    go rest false f = rw (rest (omega (arith, eqb-false i n f)) e)

-- what a test over all the numbers below n says of one of them
pub every_at : (p : ℕ → Bool) (n : ℕ) → every n p ≡ true → (k : ℕ) → k < n → p k ≡ true
unfolding every
every_at p zero h k l = absurd (omega arith)
every_at p (suc n) h k l = go (every_at p n (and_left (every n p) (p n) h) k) (eqb k n) refl
  where
    go : (k < n → p k ≡ true) → (x : Bool) → eqb k n ≡ x → p k ≡ true
    go rest true e = rw (eqb-true k n e) (and_right (every n p) (p n) h)
    go rest false e = rest (omega (arith, eqb-false k n e))
