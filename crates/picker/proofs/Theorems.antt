-- Paper 9's two claims. The first: a pair that waits d steps ahead of the pair tried first, at place w of the four, is
-- picked within d + 1 + (d + w) / 3 turns (Waiting): d + 1 turns that go to the board, and the fourth places among
-- them. A turn that does not pick it either sends another frame and leaves fewer steps, since the search does not pass
-- a pair that qualifies, or sends a tile in the fourth place. The second: a tile goes only in the fourth place, and
-- then the place is 0 (TileTurn).
use Prim.Native.Nat.{ℕ, zero, suc, ◌+◌, ◌*◌, ◌-◌, ◌/◌, ◌≤◌, ◌<◌}
use mathlib.Core.Bool.{Bool, true, false, cond}
use mathlib.Core.List.{List, [], ◌∷◌}
use mathlib.Core.Path.{◌≡◌, refl, sym, ap, subst, ◌∙◌}
use native.Mathlib.Nat.{mul-pos}
use native.Mathlib.Omega.{arith}
use borrow.Author.Tests.{eqb-true, eqb-false, le-ltb}
use lib.Dec.{eqb}
use Rattle.std.specs.Prelude.{length, Contains}
use Rattle.board.proofs.WellFormedLaws.{n_at_least, m_at_least, m_at_most}
use Rattle.board.proofs.AcceptedLaws.{deliverable_in_range}
use Rattle.picker.specs.declared.Next.TheVariants.{Frame}
use Rattle.picker.specs.declared.Pair.{Pair}
use Rattle.picker.specs.declared.Picker.{Picker}
use Rattle.picker.specs.declared.Turn.{Turn}
use Rattle.picker.specs.Picking.{pair_after, start, unused, current, can_go, sends, turn_from}
use Rattle.picker.specs.Claims.{Given, StartsAnywhere, turn_of, all_sent, most_turns, IsReady, StaysDeliverable, picked, stays, EveryPairPicked, is_tile, SomeGoes, FewTiles}
use Rattle.picker.proofs.PairsLaws.{Within, after_within}
use Rattle.picker.proofs.StatesLaws.{InRange, start_within, current_within, current_same, current_place, place_next, place_fourth}
use Rattle.picker.proofs.Turns.{turn_is_from, Took, frame, tile, took}
use Rattle.picker.proofs.Walks.{walk, walk_rest, reach, first_found}

-- no board has so many consoles
unused_is_start : (n m : ℕ) → 1 ≤ n → 1 ≤ m → m ≤ 8 → current n m unused ≡ current n m (start n m)
unfolding current
unused_is_start n m h i l =
    let few : m ≤ 4294967295 = omega (arith, l) in
    rw (le-ltb 4294967295 m few) (sym (current_same n m (start n m) (start_within n m h i)))

pub starts_anywhere : StartsAnywhere
starts_anywhere b tile_waits w =
    let n = b.setup.n in
    let m = b.setup.m in
    turn_is_from n m unused b tile_waits w refl refl
    ∙ ap (λ (s : Picker). turn_from n m (can_go b) s tile_waits) (unused_is_start n m (n_at_least b w) (m_at_least b w) (m_at_most b w))
    ∙ sym (turn_is_from n m (start n m) b tile_waits w refl refl)

-- ---- the first claim

-- from state x, p is at most t turns away
record Waiting (n m : ℕ) (p : Pair) (x : Picker) (t : ℕ) : Type 0 where
  in_state : InRange n m x
  steps : ℕ
  few : steps < n * m
  ahead : walk n m steps (pair_after n m x.last) ≡ p
  soon : steps + 1 + (steps + x.place) / 3 ≤ t

-- at first every pair is
begins : (n m : ℕ) (p : Pair) (x : Picker) → Within n m p → InRange n m x → Waiting n m p x (most_turns n m)
begins n m p x h i =
    let r = reach n m (pair_after n m x.last) p (after_within n m x.last i.last_within) h in
    record { in_state = i; steps = r.0; few = r.1; ahead = r.2; soon = omega (arith, r.1, i.place_4) }

-- a turn picks p, or brings it nearer
data Nearer (n m : ℕ) (p : Pair) (t : ℕ) (r : Turn) : Type 0 where
  picks : r.next ≡ Frame p → Nearer n m p t r
  waits : Waiting n m p r.picker t → Nearer n m p t r

module _ (n m : ℕ) (p : Pair) {x : Picker} {t : ℕ} (w : Waiting n m p x (suc t)) where
  -- by the pair that is found, j steps on
  nearer : (j : ℕ) → j ≤ w.steps → Within n m (walk n m j (pair_after n m x.last)) → {r : Turn}
      → Took x (walk n m j (pair_after n m x.last)) r → Nearer n m p t r
  nearer j l q (tile h) = waits (record {
    in_state = record { place_4 = omega (arith, place_fourth x.place h); last_within = w.in_state.last_within };
    steps = w.steps;
    few = w.few;
    ahead = w.ahead;
    soon = omega (arith, place_fourth x.place h, w.soon);
  })
  nearer j l q frame = go (eqb j w.steps) refl
    where
      go : (y : Bool) → eqb j w.steps ≡ y → Nearer n m p t (sends x (Frame (walk n m j (pair_after n m x.last))))
      go true e = picks (ap (λ i. Frame (walk n m i (pair_after n m x.last))) (eqb-true j w.steps e) ∙ ap Frame w.ahead)
      go false e =
          let less : j < w.steps = omega (arith, l, eqb-false j w.steps e) in
          let next = place_next x.place w.in_state.place_4 in
          waits (record {
            in_state = record { place_4 = next.0; last_within = q };
            steps = w.steps - (j + 1);
            few = omega (arith, w.few);
            ahead = walk_rest n m w.steps j (pair_after n m x.last) less ∙ w.ahead;
            soon = omega (arith, next.1, w.soon);
          })

module _ (n m : ℕ) (p : Pair) where
  -- a pair that can go on such a board is one of n nodes and m consoles
  fits : (g : Given) → IsReady n m p g → (q : Pair) → can_go g.board q ≡ true → Within n m q
  fits g i q e =
      let r = deliverable_in_range g.board q.console.0 q.node.0 e in
      omega (arith, r.1, r.2, i.nodes, i.consoles)

  -- one turn on the way
  one_turn : {t : ℕ} (s : Picker) (g : Given) → IsReady n m p g → Waiting n m p (current n m s) (suc t) → Nearer n m p t (turn_of s g)
  one_turn s g i w =
      let x = current n m s in
      let f = first_found n m (can_go g.board) (n * m) w.steps x.last w.few (rw w.ahead i.goes) in
      let formed = (deliverable_in_range g.board p.console.0 p.node.0 i.goes).0 in
      subst (Nearer n m p _) (sym (turn_is_from n m s g.board g.tile_waits formed i.nodes i.consoles))
      (nearer n m p w f.0 f.1 (fits g i _ f.3) (took n m (can_go g.board) x g.tile_waits _ f.2))

  -- with t turns left
  picked_by : (t : ℕ) (s : Picker) (gs : List Given) → Waiting n m p (current n m s) t → length gs ≡ t → StaysDeliverable n m p s gs
      → Contains (all_sent s gs) (Frame p)
  unfolding all_sent
  picked_by zero s gs w l h = absurd (omega (arith, w.soon))
  picked_by (suc t) s [] w l h = absurd (omega (arith, l))
  picked_by (suc t) s (g ∷ gs) w l (picked i e) = (0, omega arith, e)
  picked_by (suc t) s (g ∷ gs) w l (stays i h) = go (one_turn s g i w) (λ v. picked_by t (turn_of s g).picker gs v (omega (arith, l)) h)
    where
      go : Nearer n m p t (turn_of s g)
          → (Waiting n m p (current n m (turn_of s g).picker) t → Contains (all_sent (turn_of s g).picker gs) (Frame p))
          → Contains (all_sent s (g ∷ gs)) (Frame p)
      go (picks e) later = (0, omega arith, e)
      go (waits v) later =
          let c = later (subst (λ (y : Picker). Waiting n m p y t) (sym (current_same n m (turn_of s g).picker v.in_state)) v) in
          (suc c.0, omega (arith, c.1), c.2)

  -- at the first turn p can go
  first_ready : (s : Picker) (gs : List Given) → 0 < length gs → StaysDeliverable n m p s gs → Within n m p
  first_ready s [] l h = absurd (omega (arith, l))
  first_ready s (g ∷ gs) l (picked i e) = fits g i p i.goes
  first_ready s (g ∷ gs) l (stays i h) = fits g i p i.goes

pub every_pair_picked : EveryPairPicked
every_pair_picked n m s p gs h i l stay =
    let some : 0 < length gs = omega (arith, l, mul-pos h i) in
    let w = begins n m p (current n m s) (first_ready n m p s gs some stay) (current_within n m s h i) in
    picked_by n m p (most_turns n m) s gs w l stay

-- ---- the second claim

-- what a turn sends at which some frame can go, and the places before and after: a tile only at place 3, and then the
-- next is 0. A state that counts as the start only lowers the place
record TileTurn (s : Picker) (r : Turn) : Type 0 where
  place : ℕ
  in_four : place ≤ 3
  place_is : place ≤ s.place
  fourth : 3 * cond (is_tile r.next) 1 0 ≤ place
  next : r.picker.place + 4 * cond (is_tile r.next) 1 0 ≤ place + 1

tile_took : {x : Picker} {q : Pair} {r : Turn} (s : Picker) → x.place < 4 → x.place ≤ s.place → Took x q r → TileTurn s r
tile_took {x} s h l frame =
    let z = place_next x.place h in
    record { place = x.place; in_four = omega arith; place_is = l; fourth = omega arith; next = omega (arith, z.1) }
tile_took {x} s h l (tile f) =
    let z = place_fourth x.place f in
    record { place = x.place; in_four = omega arith; place_is = l; fourth = omega arith; next = omega (arith, z) }

tile_turn : (s : Picker) (g : Given) → SomeGoes g → TileTurn s (turn_of s g)
tile_turn s g (p, e) =
    let n = g.board.setup.n in
    let m = g.board.setup.m in
    let x = current n m s in
    let r = deliverable_in_range g.board p.console.0 p.node.0 e in
    let i = current_within n m s (omega (arith, r.2)) (omega (arith, r.1)) in
    let w = begins n m p x (r.1, r.2) i in
    let f = first_found n m (can_go g.board) (n * m) w.steps x.last w.few (rw w.ahead e) in
    subst (TileTurn s) (sym (turn_is_from n m s g.board g.tile_waits r.0 refl refl))
    (tile_took s i.place_4 (current_place n m s) (took n m (can_go g.board) x g.tile_waits _ f.2))

pub few_tiles : FewTiles
unfolding all_sent
few_tiles s [] l h = omega arith
few_tiles s (a ∷ []) l h = absurd (omega (arith, l))
few_tiles s (a ∷ b ∷ []) l h = absurd (omega (arith, l))
few_tiles s (a ∷ b ∷ c ∷ []) l h = absurd (omega (arith, l))
few_tiles s (a ∷ b ∷ c ∷ d ∷ e ∷ gs) l h = absurd (omega (arith, l))
few_tiles s (a ∷ b ∷ c ∷ d ∷ []) l h =
    let s1 = (turn_of s a).picker in
    let s2 = (turn_of s1 b).picker in
    let s3 = (turn_of s2 c).picker in
    let t0 = tile_turn s a (h 0 a (omega arith)) in
    let t1 = tile_turn s1 b (h 1 a (omega arith)) in
    let t2 = tile_turn s2 c (h 2 a (omega arith)) in
    let t3 = tile_turn s3 d (h 3 a (omega arith)) in
    omega (arith, t0.in_four, t0.next, t1.place_is, t1.next, t2.place_is, t2.next, t3.place_is, t3.fourth)
