-- Laws of the picker's state: the one that a turn goes by is in range, and the place that comes next.
use Prim.Native.Nat.{ℕ, ◌+◌, ◌≤◌, ◌<◌}
use mathlib.Core.Bool.{Bool, true, false, cond, ◌&&◌}
use mathlib.Core.Path.{◌≡◌, refl}
use native.Mathlib.Omega.{arith}
use borrow.Author.Tests.{lt-ltb, le-ltb, ltb-true}
use lib.Dec.{ltb}
use Rattle.parts.proofs.FiniteLaws.{and_left, and_right}
use Rattle.picker.specs.declared.Picker.{Picker}
use Rattle.picker.specs.Picking.{start, in_range, current, next_place}
use Rattle.picker.proofs.PairsLaws.{Within}

-- a state in range, as what the test says
pub record InRange (n m : ℕ) (s : Picker) : Type 0 where
  pub place_4 : s.place < 4
  pub last_within : Within n m s.last

module _ (n m : ℕ) (s : Picker) where
  pub range_tested : InRange n m s → in_range n m s ≡ true
  range_tested h = rw (lt-ltb s.place 4 h.place_4, lt-ltb s.last.console.0 m h.last_within.0, lt-ltb s.last.node.0 n h.last_within.1) refl

  pub test_passed : in_range n m s ≡ true → InRange n m s
  test_passed e =
      let place_and_console = and_left (ltb s.place 4 && ltb s.last.console.0 m) (ltb s.last.node.0 n) e in
      let place = and_left (ltb s.place 4) (ltb s.last.console.0 m) place_and_console in
      let console = and_right (ltb s.place 4) (ltb s.last.console.0 m) place_and_console in
      let node = and_right (ltb s.place 4 && ltb s.last.console.0 m) (ltb s.last.node.0 n) e in
      record {
        place_4 = ltb-true s.place 4 place;
        last_within = (ltb-true s.last.console.0 m console, ltb-true s.last.node.0 n node);
      }

-- ---- the state that a turn goes by

pub start_within : (n m : ℕ) → 1 ≤ n → 1 ≤ m → InRange n m (start n m)
start_within n m h i = record { place_4 = omega arith; last_within = (omega arith, omega arith) }

module _ (n m : ℕ) (s : Picker) where
  pub current_within : 1 ≤ n → 1 ≤ m → InRange n m (current n m s)
  unfolding current
  current_within h i = go (in_range n m s) refl
    where
      go : (x : Bool) → in_range n m s ≡ x → InRange n m (cond x s (start n m))
      go true e = test_passed n m s e
      go false e = start_within n m h i

  pub current_in_range : 1 ≤ n → 1 ≤ m → in_range n m (current n m s) ≡ true
  current_in_range h i = range_tested n m (current n m s) (current_within h i)

  pub current_same : InRange n m s → current n m s ≡ s
  unfolding current
  current_same h = rw (range_tested n m s h) refl

  -- what counts as the start is at an earlier place
  pub current_place : (current n m s).place ≤ s.place
  unfolding current
  current_place = go (in_range n m s)
    where
      go : (x : Bool) → (cond x s (start n m)).place ≤ s.place
      go true = omega arith
      go false = omega arith

-- ---- the place after

pub place_next : (w : ℕ) → w < 4 → (next_place w < 4) × (next_place w ≤ w + 1)
place_next w h = go (ltb w 3) refl
  where
    go : (x : Bool) → ltb w 3 ≡ x → (cond x (w + 1) 0 < 4) × (cond x (w + 1) 0 ≤ w + 1)
    go true e = omega (arith, ltb-true w 3 e)
    go false e = omega arith

pub place_fourth : (w : ℕ) → 3 ≤ w → next_place w ≡ 0
place_fourth w h = rw (le-ltb w 3 h) refl
