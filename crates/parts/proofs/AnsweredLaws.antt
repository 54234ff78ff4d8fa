-- Laws of the answered set as a byte, each computed over all 256 sets and the eight bits.
use mathlib.Core.Path.{◌≡◌, refl, ap}
use mathlib.Core.Bool.{Bool, false}
use Prim.Native.Nat.{ℕ, ◌+◌, ◌*◌, ◌%◌, ◌^◌, ◌≤◌, ◌<◌}
use native.Mathlib.Nat.{pow-le-pow_right}
use native.Mathlib.Omega.{arith}
use borrow.Author.Tests.{eqb-true}
use lib.Dec.{eqb, lit<}
use lib.Arith.{digits_div}
use lib.Bits.{bit_or}
use lib.Count.{ones, ones_in}
use Rattle.parts.specs.Finite.{every, count}
use Rattle.parts.specs.AnsweredSet.{member, insert, size}
use Rattle.parts.proofs.FiniteLaws.{every_at}

-- the count of ones is the size of the set
ones_is_size : ℕ → Bool
ones_is_size s = eqb (ones s) (size s)

pub ones_size : (s : ℕ) → s < 256 → ones s ≡ size s
unfolding every ones_is_size ones ones_in size count member
ones_size s h = eqb-true (ones s) (size s) (every_at ones_is_size 256 refl s h)

-- 'or' with bit k puts node k into the set
or_is_insert : ℕ → ℕ → Bool
or_is_insert s k = eqb (bit_or s (2 ^ k)) (insert s k)

pub or_insert : (s k : ℕ) → s < 256 → k < 8 → bit_or s (2 ^ k) ≡ insert s k
unfolding every or_is_insert insert member
or_insert s k h g =
    eqb-true (bit_or s (2 ^ k)) (insert s k)
    (every_at (or_is_insert s) 8 (every_at (λ (x : ℕ). every 8 (or_is_insert x)) 256 refl s h) k g)

-- a byte names no node at 8 or above
pub byte_below : (n s : ℕ) → s < 256 → 8 ≤ n → s < 2 ^ n
byte_below n s h g = omega (arith, pow-le-pow_right {n = 2} (lit< tt) {i = 8} {j = n} g)

pub byte_no_member : (k s : ℕ) → s < 256 → 8 ≤ k → member s k ≡ false
unfolding member
byte_no_member k s h g =
    let e : 0 * 2 ^ k + s ≡ s = omega arith in
    ap (λ (x : ℕ). eqb (x % 2) 1) (rw e at (digits_div 0 {m = 2 ^ k} {r = s} (byte_below k s h g)))
