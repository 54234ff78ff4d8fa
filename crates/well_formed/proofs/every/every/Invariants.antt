-- The test holds of every number below k.
use Rattle.std.proofs.Common.{◌≡◌, ◌<◌, ℕ, Bool, true}
use Rattle.parts.specs.Finite.{every}
use Rattle.well_formed.proofs.every.every.Given as goal

abbrev pub invariant-loop-k : goal.invariant-loop-k
invariant-loop-k g l = (p : ℕ → Bool) → ((k : ℕ) (yes : Bool) → k < l.n → goal.F-post g l.test k yes → yes ≡ p k) → every l.k p ≡ true
