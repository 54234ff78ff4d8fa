-- Laws of the search for the earliest record at fault.
use Prim.Native.Nat.{ℕ, suc, ◌+◌, ◌-◌, ◌≤◌, ◌<◌}
use mathlib.Core.List.{List}
use mathlib.Core.Path.{◌≡◌, ap}
use native.Mathlib.Omega.{arith}
use Rattle.std.specs.Prelude.{None}
use Rattle.shift.specs.declared.Record.{Record}
use Rattle.shift.specs.Faults.{rule_at, fault_or, first_from}

-- ---- the search from place i of t places

module _ (l : List Record) where
  pub first_none : (t i : ℕ) → t ≤ i → first_from l i (t - i) ≡ None
  unfolding first_from
  first_none t i h =
      let z : t - i ≡ 0 = omega arith in
      ap (first_from l i) z

  pub first_more : (t i : ℕ) → i < t → first_from l i (t - i) ≡ fault_or i (rule_at l i) (first_from l (i + 1) (t - (i + 1)))
  unfolding first_from
  first_more t i h =
      let z : t - i ≡ suc (t - (i + 1)) = omega arith in
      ap (first_from l i) z
