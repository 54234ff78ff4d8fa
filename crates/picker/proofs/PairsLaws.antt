-- Laws of the pairs in their order and of the search.
use Prim.Native.Nat.{ℕ, suc, ◌+◌, ◌-◌, ◌*◌, ◌≤◌, ◌<◌}
use mathlib.Core.Bool.{Bool, true, false, cond}
use mathlib.Core.Path.{◌≡◌, refl, ap}
use native.Mathlib.Nat.{mul-le-mul}
use native.Mathlib.Omega.{arith}
use borrow.Author.Tests.{ltb-true}
use lib.Dec.{ltb}
use Rattle.std.specs.Prelude.{Some, None}
use Rattle.board.specs.WellFormed.{well_formed}
use Rattle.board.specs.declared.Board.{Board}
use Rattle.board.proofs.WellFormedLaws.{n_at_most, m_at_most}
use Rattle.picker.specs.declared.Pair.{Pair}
use Rattle.picker.specs.Picking.{pair, pair_after, first_of}

-- a pair of n nodes and m consoles
abbrev pub Within : ℕ → ℕ → Pair → Type 0
Within n m p = (p.console.0 < m) × (p.node.0 < n)

pub after_within : (n m : ℕ) (p : Pair) → Within n m p → Within n m (pair_after n m p)
unfolding pair_after
after_within n m p h = go (ltb (p.node.0 + 1) n) refl (ltb (p.console.0 + 1) m) refl
  where
    go : (x : Bool) → ltb (p.node.0 + 1) n ≡ x → (y : Bool) → ltb (p.console.0 + 1) m ≡ y
        → Within n m (cond x (pair p.console.0 (p.node.0 + 1)) (cond y (pair (p.console.0 + 1) 0) (pair 0 0)))
    go true e y f = (h.0, ltb-true (p.node.0 + 1) n e)
    go false e true f = (ltb-true (p.console.0 + 1) m f, omega arith)
    go false e false f = (omega arith, omega arith)

-- a board has forty pairs at most
pub pairs_at_most : (b : Board) → well_formed b ≡ true → b.setup.n * b.setup.m ≤ 40
pairs_at_most b w = mul-le-mul (n_at_most b w) (m_at_most b w)

-- ---- the search after i of t tries

module _ (n m : ℕ) (qualifies : Pair → Bool) where
  pub first_none : (t i : ℕ) (p : Pair) → t ≤ i → first_of n m qualifies (t - i) p ≡ None
  unfolding first_of
  first_none t i p h =
      let z : t - i ≡ 0 = omega arith in
      ap (λ x. first_of n m qualifies x p) z

  pub first_more : (t i : ℕ) (p : Pair) → i < t
      → first_of n m qualifies (t - i) p
      ≡ cond (qualifies (pair_after n m p)) (Some (pair_after n m p)) (first_of n m qualifies (t - (i + 1)) (pair_after n m p))
  unfolding first_of
  first_more t i p h =
      let z : t - i ≡ suc (t - (i + 1)) = omega arith in
      ap (λ x. first_of n m qualifies x p) z
