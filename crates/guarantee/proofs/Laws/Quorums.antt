-- Sets of nodes by their counts. Any two sets whose sizes add up to more than n share a node (meet): this is the one law
-- on quorums, for all n together. A larger set has a member that a smaller one lacks (differ).
use Prim.Native.Nat.{ℕ, zero, suc, ◌+◌, ◌<◌}
use mathlib.Core.Bool.{Bool, true, false}
use mathlib.Core.Path.{refl, ap, ◌≡◌}
use native.Mathlib.Omega.{arith}
use Rattle.parts.specs.Finite.{count, one}

abbrev pub Meet : ℕ → (ℕ → Bool) → (ℕ → Bool) → Type 0
Meet n s t = (k : ℕ) × (k < n) × (s k ≡ true) × (t k ≡ true)

pub meet : (n : ℕ) (s t : ℕ → Bool) → n < count n s + count n t → Meet n s t
unfolding count
meet zero s t h = absurd (omega arith)
meet (suc n) s t h = go (meet n s t) (s n) refl (t n) refl
  where
    up : Meet n s t → Meet (suc n) s t
    up r = (r.0, omega arith, r.2, r.3)

    go : (n < count n s + count n t → Meet n s t) → (x : Bool) → s n ≡ x → (y : Bool) → t n ≡ y → Meet (suc n) s t
    go rest true e true f = (n, omega arith, e, f)
    go rest true e false f = up (rest (omega (arith, ap one e, ap one f)))
    go rest false e true f = up (rest (omega (arith, ap one e, ap one f)))
    go rest false e false f = up (rest (omega (arith, ap one e, ap one f)))

abbrev pub Differ : ℕ → (ℕ → Bool) → (ℕ → Bool) → Type 0
Differ n s t = (k : ℕ) × (k < n) × (t k ≡ true) × (s k ≡ false)

pub differ : (n : ℕ) (s t : ℕ → Bool) → count n s < count n t → Differ n s t
unfolding count
differ zero s t h = absurd (omega arith)
differ (suc n) s t h = go (differ n s t) (s n) refl (t n) refl
  where
    up : Differ n s t → Differ (suc n) s t
    up r = (r.0, omega arith, r.2, r.3)

    go : (count n s < count n t → Differ n s t) → (x : Bool) → s n ≡ x → (y : Bool) → t n ≡ y → Differ (suc n) s t
    go rest false e true f = (n, omega arith, f, e)
    go rest true e true f = up (rest (omega (arith, ap one e, ap one f)))
    go rest true e false f = up (rest (omega (arith, ap one e, ap one f)))
    go rest false e false f = up (rest (omega (arith, ap one e, ap one f)))
