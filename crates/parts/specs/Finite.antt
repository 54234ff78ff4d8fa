-- Tests and counts over the numbers below n, and 'implies' between tests.
-- The other definitions are written in these; their laws are in proofs/FiniteLaws.antt.
use Rattle.std.specs.Prelude.{ℕ, zero, suc, ◌+◌, Bool, true, false, ◌&&◌}

infixr 25 ◌implies◌
-- if the first test holds, so does the second
abbrev pub ◌implies◌ : Bool → Bool → Bool
true implies y = y
false implies y = true

-- the test holds of each number below n
unfoldable pub every : ℕ → (ℕ → Bool) → Bool
every zero p = true
every (suc n) p = every n p && p n

-- 1 for a test that holds, 0 for one that does not
abbrev pub one : Bool → ℕ
one true = 1
one false = 0

-- how many of the numbers below n the test holds of
unfoldable pub count : ℕ → (ℕ → Bool) → ℕ
count zero p = 0
count (suc n) p = one (p n) + count n p
