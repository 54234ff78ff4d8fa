-- The runs of specs/TurnRuns.antt, by computation: what turns show, that both bounds are reached, and turns to which
-- both claims apply, so that neither asks what no turn can give.
use Prim.Native.Nat.{ℕ, ◌+◌, ◌≤◌}
use mathlib.Core.Bool.{true}
use mathlib.Core.List.{List, [], ◌∷◌, map}
use mathlib.Core.Path.{◌≡◌, refl}
use lib.Dec.{eqb}
use native.Mathlib.Omega.{arith}
use Rattle.std.specs.Prelude.{replicate, count_by, Contains}
use Rattle.std.proofs.lemmas.List.Elements.{All-nil, All-cons}
use Rattle.parts.specs.Finite.{every}
use Rattle.board.specs.PreviewRuns.{after}
use Rattle.board.specs.Deliver.{deliverable}
use Rattle.board.proofs.Opened.{opened_step}
use Rattle.board.specs.declared.Board.{Board}
use Rattle.picker.specs.declared.Picker.{Picker}
use Rattle.picker.specs.declared.Next.TheVariants.{Frame}
use Rattle.picker.specs.Picking.{pair, unused, pair_after, first_of, current, turn_from, turn}
use Rattle.picker.specs.Claims.{all_sent, state_after, most_turns, most_tiles, IsReady, StaysDeliverable, stays, no_more, is_tile, SomeGoes}
use Rattle.picker.specs.TurnRuns.{TurnRun, Shown, all_seen, shows, must_show, turn_runs, asking, Gone, shared, two_consoles, must_go, longest, tiles_sent, busy, wide, before_fourth}
use Rattle.picker.proofs.Theorems.{every_pair_picked, few_tiles}

-- what runs show, with every definition opened
opened : List TurnRun → ℕ → ℕ → List Shown × ℕ
unfolding opened_step deliverable after asking pair_after first_of current turn_from turn all_sent state_after all_seen longest tiles_sent
opened rs n m = (map shows rs, longest n m)

pub turn_runs_hold : map shows turn_runs ≡ map must_show turn_runs
unfolding opened turn_runs
turn_runs_hold = refl

opened_shared : ℕ → Picker → Board → List Gone
unfolding opened shared
opened_shared turns s b = shared turns s b

pub shared_holds : shared 32 unused two_consoles ≡ must_go
unfolding opened_shared two_consoles must_go
shared_holds = refl

-- the first claim's bound is reached by every size: no smaller one would do
pub longest_reached : every 5 (λ n. every 8 (λ m. eqb (longest (n + 1) (m + 1)) (most_turns (n + 1) (m + 1)))) ≡ true
unfolding opened
longest_reached = refl

-- and so is the second's
pub tiles_reached : every 5 (λ n. every 8 (λ m. eqb (tiles_sent (n + 1) (m + 1)) most_tiles)) ≡ true
unfolding opened
tiles_reached = refl

-- ---- the claims apply: the pair last picked waits the longest, and of four turns one has a board of another size

ready : IsReady 3 2 (pair 1 2) busy
unfolding opened
ready = record { nodes = refl; consoles = refl; goes = refl }

busy_stays : StaysDeliverable 3 2 (pair 1 2) before_fourth (replicate (most_turns 3 2) busy)
busy_stays = stays ready (stays ready (stays ready (stays ready (stays ready (stays ready (stays ready (stays ready no_more)))))))

pub first_applies : Contains (all_sent before_fourth (replicate (most_turns 3 2) busy)) (Frame (pair 1 2))
first_applies = every_pair_picked 3 2 before_fourth (pair 1 2) (replicate (most_turns 3 2) busy) (omega arith) (omega arith) refl busy_stays

busy_goes : SomeGoes busy
unfolding opened
busy_goes = (pair 0 0, refl)

wide_goes : SomeGoes wide
unfolding opened
wide_goes = (pair 0 0, refl)

pub second_applies : count_by is_tile (all_sent before_fourth (busy ∷ wide ∷ busy ∷ busy ∷ [])) ≤ most_tiles
second_applies =
    few_tiles before_fourth (busy ∷ wide ∷ busy ∷ busy ∷ []) refl
    (All-cons SomeGoes busy (wide ∷ busy ∷ busy ∷ []) busy_goes
    (All-cons SomeGoes wide (busy ∷ busy ∷ []) wide_goes
    (All-cons SomeGoes busy (busy ∷ []) busy_goes
    (All-cons SomeGoes busy [] busy_goes
    (All-nil SomeGoes)))))
