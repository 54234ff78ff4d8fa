-- The runs of specs/Reached.antt, by computation: P4 takes as many deliveries as the bound allows, a closed operation counts no
-- more, with two of three nodes down there is no frame that can be delivered, and no majority, until one of them
-- comes back, a read finishes early under release 2 alone, and a restarted console writes under another tag than
-- before, which a read then prefers.
use Prim.Native.Nat.{◌+◌, ◌*◌}
use mathlib.Core.List.{List, map, ◌∷◌, []}
use native.Mathlib.Omega.{arith}
use mathlib.Core.Path.{refl, ◌≡◌}
use Rattle.decisions.specs.Refusals.{refusal_number}
use Rattle.parts.specs.Finite.{count}
use Rattle.parts.specs.Sizes.{majority}
use Rattle.parts.specs.declared.Release.TheVariants.{One, Two}
use Rattle.parts.specs.declared.Setup.{Setup}
use Rattle.board.specs.Boards.{frame_at}
use Rattle.board.specs.Deliver.{deliver}
use Rattle.board.specs.Runs.{Step}
use Rattle.board.specs.Steps.{setup_of}
use Rattle.board.proofs.Opened.{opened_step}
use Rattle.guarantee.specs.Claim.{HasDeliverable, here}
use Rattle.guarantee.specs.Log.{Run, after, next, noted, of_console, run, start, tally, up_after, writes_begun}
use Rattle.guarantee.specs.Reached.{all_back_refusals, all_back_steps, back_refusals, back_steps, landed_steps, late_log, late_steps, mixed_log, mixed_steps, p4_log, p4_steps, quiet_log, quiet_log_under_1, quiet_steps, reread_log, reread_steps, restarted_log, restarted_puts, restarted_steps, stuck_log, stuck_refusals, stuck_steps}
use Rattle.guarantee.proofs.Theorem.{demand_3}

-- a run with every definition opened
whole : Setup → List Step → Run
unfolding run start after next noted up_after of_console opened_step
whole σ ss = run σ ss

p4_reaches : (whole (setup_of 3 2 One) p4_steps).ops ≡ p4_log
unfolding whole p4_steps p4_log
p4_reaches = refl

p4_bound : 2 * (3 + majority 3) ≡ 10
unfolding majority
p4_bound = refl

late_uncounted : (whole (setup_of 3 2 One) late_steps).ops ≡ late_log
unfolding whole late_steps late_log
late_uncounted = refl

stuck_open : (whole (setup_of 3 1 One) stuck_steps).ops ≡ stuck_log
unfolding whole stuck_steps stuck_log
stuck_open = refl

stuck_refused : map (λ k. refusal_number (deliver (whole (setup_of 3 1 One) stuck_steps).board 0 k).refusal) (0 ∷ 1 ∷ 2 ∷ []) ≡ stuck_refusals
unfolding whole stuck_steps stuck_refusals
stuck_refused = refl

stuck_up : count 3 (whole (setup_of 3 1 One) stuck_steps).up ≡ 1
unfolding whole stuck_steps
stuck_up = refl

back_up : count 3 (whole (setup_of 3 1 One) back_steps).up ≡ majority 3
unfolding whole back_steps majority
back_up = refl

back_open : (whole (setup_of 3 1 One) back_steps).ops ≡ stuck_log
unfolding whole back_steps stuck_log
back_open = refl

back_refused : map (λ k. refusal_number (deliver (whole (setup_of 3 1 One) back_steps).board 0 k).refusal) (0 ∷ 1 ∷ 2 ∷ []) ≡ back_refusals
unfolding whole back_steps back_refusals
back_refused = refl

all_back_up : count 3 (whole (setup_of 3 1 One) all_back_steps).up ≡ 3
unfolding whole all_back_steps
all_back_up = refl

all_back_refused : map (λ k. refusal_number (deliver (whole (setup_of 3 1 One) all_back_steps).board 0 k).refusal) (0 ∷ 1 ∷ 2 ∷ []) ≡ all_back_refusals
unfolding whole all_back_steps all_back_refusals
all_back_refused = refl

-- and so it must be, by demand 3
back_goes_on : HasDeliverable (setup_of 3 1 One) (whole (setup_of 3 1 One) back_steps) 0
unfolding whole back_steps writes_begun tally majority
back_goes_on = (demand_3 (setup_of 3 1 One) (omega arith) (omega arith) (omega arith) (omega arith) back_steps (omega arith)).progress (omega arith) 0 (here (refl, refl))

all_back_goes_on : HasDeliverable (setup_of 3 1 One) (whole (setup_of 3 1 One) all_back_steps) 0
unfolding whole all_back_steps writes_begun tally majority
all_back_goes_on = (demand_3 (setup_of 3 1 One) (omega arith) (omega arith) (omega arith) (omega arith) all_back_steps (omega arith)).progress (omega arith) 0 (here (refl, refl))

mixed_logged : (whole (setup_of 1 2 One) mixed_steps).ops ≡ mixed_log
unfolding whole mixed_steps mixed_log
mixed_logged = refl

mixed_writes : writes_begun (whole (setup_of 1 2 One) mixed_steps) ≡ 2
unfolding whole mixed_steps writes_begun tally
mixed_writes = refl

quiet_early : (whole (setup_of 3 2 Two) quiet_steps).ops ≡ quiet_log
unfolding whole quiet_steps quiet_log
quiet_early = refl

quiet_turned : (whole (setup_of 3 2 One) quiet_steps).ops ≡ quiet_log_under_1
unfolding whole quiet_steps quiet_log_under_1
quiet_turned = refl

restarted_reaches : (whole (setup_of 3 1 One) restarted_steps).ops ≡ restarted_log
unfolding whole restarted_steps restarted_log
restarted_reaches = refl

-- the first write's put waits for node 1 when the console goes down, the second's for node 0 at the end
restarted_two : frame_at (whole (setup_of 3 1 One) landed_steps).board 0 1 ∷ frame_at (whole (setup_of 3 1 One) restarted_steps).board 0 0 ∷ [] ≡ restarted_puts
unfolding whole landed_steps restarted_steps restarted_puts
restarted_two = refl

reread_fresh : (whole (setup_of 3 1 One) reread_steps).ops ≡ reread_log
unfolding whole reread_steps reread_log
reread_fresh = refl
