-- Demand 3. The invariant holds after every run, and gives each part of the claim.
use Prim.Native.Nat.{ℕ, max, ◌+◌, ◌*◌, ◌≤◌}
use mathlib.Core.Path.{ap, ◌≡◌}
use native.Mathlib.Omega.{arith}
use Rattle.parts.specs.Finite.{one}
use Rattle.parts.specs.Sizes.{ask_size, majority, tell_size}
use Rattle.parts.specs.declared.Setup.{Setup}
use Rattle.board.specs.declared.Board.{Board}
use Rattle.guarantee.specs.Claim.{Claim, Demand3, FinishedBefore, Fresher, HasOpen, Waits, max_writes}
use Rattle.guarantee.specs.Log.{Op, Run, after, run, start, writes_begun}
use Rattle.guarantee.proofs.Laws.Lists.{all_both, all_imp, any_all, any_get}
use Rattle.guarantee.proofs.Laws.Tags.{higher_of_key, key, lower_not_higher}
use Rattle.guarantee.proofs.Delivery.Spent.{most}
use Rattle.guarantee.proofs.Run.Moves.{OpOk}
use Rattle.guarantee.proofs.Run.Invariant.{Inv, PairOk}
use Rattle.guarantee.proofs.Run.StepsKeep.{inv_after, inv_start}
use Rattle.guarantee.proofs.Progress.{progress}

-- freshness, of two operations in order
fresh_pair : {σ : Setup} {place : ℕ} {b : Board} (x y : Op) → OpOk σ place b x → OpOk σ place b y → PairOk σ b x y → FinishedBefore x y → Fresher x y
fresh_pair x y hx hy p f =
    let q : key x.tag + one y.wrote ≤ key y.tag = (p.above f.0 f.2).once_complete f.1 in (
      lower_not_higher x.tag y.tag (hy.small f.1) (omega arith),
      λ w. higher_of_key y.tag x.tag (hy.small f.1) (hx.small f.0) (omega (arith, ap one w)),
    )

-- the bound as demand 3 has it, and document 01's majority
most_is : (σ : Setup) → most σ ≡ 2 * (σ.n + majority σ.n)
unfolding ask_size tell_size
most_is σ = omega arith

larger_is : (σ : Setup) → max (ask_size σ) (tell_size σ) ≡ majority σ.n
unfolding ask_size tell_size
larger_is σ = omega arith

module _ (σ : Setup) (r : Run) (h : Inv σ r) where
  open_waiting : (c : ℕ) → HasOpen r c → Waits σ r c
  open_waiting c o = any_get (λ x z. (rw z.1.1 at z.0.console_m, rw z.1.1 at (z.0.waits z.1.0))) (any_all h.ops o)

  claimed : writes_begun r ≤ max_writes → Demand3 σ r
  claimed few = record {
    open_waits = open_waiting;
    waits_open = λ c w. h.waits c w.0 w.1;
    one_open = h.alone;
    progress = λ up c o. progress r h few (omega (arith, up, larger_is σ)) c (open_waiting c o).0 (open_waiting c o).1;
    bound = all_imp (λ x k. omega (arith, k.bound, most_is σ)) h.ops;
    freshness = all_imp (λ y q. all_imp (λ x z. fresh_pair x y z.0 q.0 z.1) (all_both h.ops q.1)) (all_both h.ops h.pairs);
  }

pub demand_3 : Claim
unfolding run
demand_3 σ n_1 n_5 m_1 m_8 ss few = claimed σ (after (start σ) ss) (inv_after ss (start σ) (inv_start σ (record { n_1 = n_1; n_5 = n_5; m_1 = m_1; m_8 = m_8 }))) few
