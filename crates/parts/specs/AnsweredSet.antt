-- The set of nodes that have answered in this phase (document 01, 'The board': console), one bit for each node of a byte.
use Rattle.std.specs.Prelude.{ℕ, ◌+◌, ◌/◌, ◌%◌, ◌^◌, Bool, cond, ltb, eqb}
use Rattle.parts.specs.Finite.{count}

-- node k is in the set: bit k is 1
unfoldable pub member : ℕ → ℕ → Bool
member s k = eqb (s / 2 ^ k % 2) 1

-- 'the node joins the answered set'
unfoldable pub insert : ℕ → ℕ → ℕ
insert s k = cond (member s k) s (s + 2 ^ k)

-- how many nodes are in the set
unfoldable pub size : ℕ → ℕ
size s = count 8 (member s)

-- 'names only nodes below n': no bit at n or above is 1
unfoldable pub only_below : ℕ → ℕ → Bool
only_below n s = ltb s (2 ^ n)
