-- Walking from pair to pair in the picker's order. From any pair every other is reached in fewer than n × m steps
-- (reach), since steps from (0, 0) pass every pair, and n × m of them come back to it; and the search stops at the
-- first pair that qualifies (first_found). What the first claim counts is the number of these steps.
use Prim.Native.Nat.{ℕ, zero, suc, ◌+◌, ◌*◌, ◌-◌, ◌≤◌, ◌<◌}
use mathlib.Core.Bool.{Bool, true, false}
use mathlib.Core.Path.{◌≡◌, refl, sym, ap, ◌∙◌}
use native.Mathlib.Nat.{mul-le-mul_left, mul-suc}
use native.Mathlib.Numerals.{add-one}
use native.Mathlib.Omega.{arith}
use borrow.Author.Tests.{lt-ltb, le-ltb, leb-true, leb-false}
use lib.Dec.{leb}
use Rattle.std.specs.Prelude.{Option, Some}
use Rattle.picker.specs.declared.Pair.{Pair}
use Rattle.picker.specs.Picking.{pair, pair_after, first_of}
use Rattle.picker.proofs.PairsLaws.{Within}

module _ (n m : ℕ) where
  -- the pair d steps after p
  unfoldable pub walk : ℕ → Pair → Pair
  walk zero p = p
  walk (suc d) p = walk d (pair_after n m p)

  -- equal counts of steps
  count_as : (d e : ℕ) (p : Pair) → d ≡ e → walk d p ≡ walk e p
  count_as d e p h = ap (λ x. walk x p) h

  walk_add : (d e : ℕ) (p : Pair) → walk (d + e) p ≡ walk e (walk d p)
  unfolding walk
  walk_add zero e p = count_as (0 + e) e p (omega arith)
  walk_add (suc d) e p = count_as (suc d + e) (suc (d + e)) p (omega arith) ∙ walk_add d e (pair_after n m p)

  -- the rest of d steps, once j and one more are taken
  pub walk_rest : (d j : ℕ) (p : Pair) → j < d → walk (d - (j + 1)) (pair_after n m (walk j p)) ≡ walk d p
  unfolding walk
  walk_rest d j p h =
      let z : j + 1 + (d - (j + 1)) ≡ d = omega arith in
      ap (walk (d - (j + 1))) (sym (walk_add j 1 p)) ∙ sym (walk_add (j + 1) (d - (j + 1)) p) ∙ count_as (j + 1 + (d - (j + 1))) d p z

  -- ---- one step, by where the pair stands

  step_right : (c k : ℕ) → k + 1 < n → pair_after n m (pair c k) ≡ pair c (k + 1)
  unfolding pair_after
  step_right c k h = rw (lt-ltb (k + 1) n h)

  step_down : (c k : ℕ) → n ≤ k + 1 → c + 1 < m → pair_after n m (pair c k) ≡ pair (c + 1) 0
  unfolding pair_after
  step_down c k h i = rw (le-ltb (k + 1) n h, lt-ltb (c + 1) m i)

  step_wrap : (c k : ℕ) → n ≤ k + 1 → m ≤ c + 1 → pair_after n m (pair c k) ≡ pair 0 0
  unfolding pair_after
  step_wrap c k h i = rw (le-ltb (k + 1) n h, le-ltb (c + 1) m i)

  -- ---- every pair is some steps from (0, 0)

  -- along a console's nodes, and on to the next console
  along : (d c : ℕ) → d < n → walk d (pair c 0) ≡ pair c d
  unfolding walk
  along zero c h = refl
  along (suc d) c h =
      count_as (suc d) (d + 1) (pair c 0) (omega arith)
      ∙ walk_add d 1 (pair c 0)
      ∙ ap (pair_after n m) (along d c (omega arith))
      ∙ step_right c d (omega arith)
      ∙ ap (pair c) (add-one d)

  across : (c : ℕ) → 0 < n → walk n (pair c 0) ≡ pair_after n m (pair c (n - 1))
  unfolding walk
  across c h =
      count_as n (n - 1 + 1) (pair c 0) (omega arith)
      ∙ walk_add (n - 1) 1 (pair c 0)
      ∙ ap (pair_after n m) (along (n - 1) c (omega arith))

  rows : (c : ℕ) → 0 < n → c < m → walk (n * c) (pair 0 0) ≡ pair c 0
  unfolding walk
  rows zero h i = count_as (n * 0) 0 (pair 0 0) (omega arith)
  rows (suc c) h i =
      count_as (n * suc c) (n * c + n) (pair 0 0) (mul-suc n c)
      ∙ walk_add (n * c) n (pair 0 0)
      ∙ ap (walk n) (rows c h (omega arith))
      ∙ across c h
      ∙ step_down c (n - 1) (omega arith) (omega arith)
      ∙ ap (λ x. pair x 0) (add-one c)

  numbered : (c k : ℕ) → c < m → k < n → walk (n * c + k) (pair 0 0) ≡ pair c k
  numbered c k i h = walk_add (n * c) k (pair 0 0) ∙ ap (walk k) (rows c (omega arith) i) ∙ along k c h

  around : 0 < n → 0 < m → walk (n * m) (pair 0 0) ≡ pair 0 0
  around h i =
      count_as (n * m) (n * (m - 1) + n) (pair 0 0) all
      ∙ walk_add (n * (m - 1)) n (pair 0 0)
      ∙ ap (walk n) (rows (m - 1) h (omega arith))
      ∙ across (m - 1) h
      ∙ step_wrap (m - 1) (n - 1) (omega arith) (omega arith)
    where
      all : n * m ≡ n * (m - 1) + n
      all =
          let z : m ≡ suc (m - 1) = omega arith in
          ap (λ x. n * x) z ∙ mul-suc n (m - 1)

  number_below : (c k : ℕ) → c < m → k < n → n * c + k < n * m
  number_below c k i h = omega (arith, mul-suc n c, mul-le-mul_left {m = suc c} {n = m} n (omega arith))

  -- ---- from any pair to any other

  -- q is some steps after p, fewer than n × m
  abbrev pub Ahead : Pair → Pair → Type 0
  Ahead p q = (d : ℕ) × (d < n * m) × (walk d p ≡ q)

  -- by their numbers of steps from (0, 0): straight on, or around
  apart : (i j : ℕ) (p q : Pair) → 0 < n → 0 < m → i < n * m → j < n * m → walk i (pair 0 0) ≡ p → walk j (pair 0 0) ≡ q
      → (x : Bool) → leb i j ≡ x → Ahead p q
  apart i j p q n0 m0 il jl e f true l =
      let z : i + (j - i) ≡ j = omega (arith, leb-true i j l) in
      (j - i, omega arith, ap (walk (j - i)) (sym e) ∙ sym (walk_add i (j - i) (pair 0 0)) ∙ count_as (i + (j - i)) j (pair 0 0) z ∙ f)
  apart i j p q n0 m0 il jl e f false l =
      let z : i + (n * m - i + j) ≡ n * m + j = omega arith in (
        n * m - i + j,
        omega (arith, leb-false i j l),
        ap (walk (n * m - i + j)) (sym e)
            ∙ sym (walk_add i (n * m - i + j) (pair 0 0))
            ∙ count_as (i + (n * m - i + j)) (n * m + j) (pair 0 0) z
            ∙ walk_add (n * m) j (pair 0 0)
            ∙ ap (walk j) (around n0 m0)
            ∙ f,
      )

  pub reach : (p q : Pair) → Within n m p → Within n m q → Ahead p q
  reach p q x y = apart (n * p.console.0 + p.node.0) (n * q.console.0 + q.node.0) p q (omega arith) (omega arith)
      (number_below p.console.0 p.node.0 x.0 x.1) (number_below q.console.0 q.node.0 y.0 y.1)
      (numbered p.console.0 p.node.0 x.0 x.1) (numbered q.console.0 q.node.0 y.0 y.1)
      (leb (n * p.console.0 + p.node.0) (n * q.console.0 + q.node.0)) refl

  -- ---- the search

  -- if the pair d steps on from the first that is tried qualifies, that one or one before it is found
  abbrev pub FoundBy : (Pair → Bool) → ℕ → Pair → Option Pair → Type 0
  FoundBy qualifies d p r = (j : ℕ) × (j ≤ d) × (r ≡ Some (walk j (pair_after n m p))) × (qualifies (walk j (pair_after n m p)) ≡ true)

  pub first_found : (qualifies : Pair → Bool) (t d : ℕ) (p : Pair) → d < t → qualifies (walk d (pair_after n m p)) ≡ true
      → FoundBy qualifies d p (first_of n m qualifies t p)
  unfolding first_of walk
  first_found qualifies zero d p l h = absurd (omega arith)
  first_found qualifies (suc t) zero p l h = (0, omega arith, rw h refl, h)
  first_found qualifies (suc t) (suc d) p l h =
      let q = pair_after n m p in
      go (first_found qualifies t d q (omega arith) h) (qualifies q) refl
    where
      go : FoundBy qualifies d (pair_after n m p) (first_of n m qualifies t (pair_after n m p))
          → (x : Bool) → qualifies (pair_after n m p) ≡ x
          → FoundBy qualifies (suc d) p (first_of n m qualifies (suc t) p)
      go rest true e = (0, omega arith, rw e refl, e)
      go rest false e = (suc rest.0, omega arith, rw e rest.2, rest.3)
