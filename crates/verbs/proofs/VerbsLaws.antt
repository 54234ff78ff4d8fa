-- Laws of the verbs.
use Prim.Native.Nat.{ℕ, zero, suc}
use mathlib.Core.Path.{◌≡◌, refl, ap, subst}
use mathlib.Core.Bool.{Bool, true, false}
use mathlib.Core.List.{List}
use Rattle.std.specs.Prelude.{Option, Some}
use Rattle.std.proofs.Common.{sym}
use Rattle.parts.specs.Outcomes.{accepted}
use Rattle.decisions.specs.Refusals.{refusal_of}
use Rattle.decisions.specs.declared.refusals.Refusal.{Refusal}
use Rattle.decisions.proofs.RefusalsLaws.{number_back}
use Rattle.board.specs.declared.Answer.{Answer}
use Rattle.board.specs.declared.Board.{Board}
use Rattle.board.specs.WellFormed.{well_formed}
use Rattle.board.specs.Runs.{BeginRead, BeginWrite, ConsoleDown, Deliver, NodeDown, NodeUp, Restart, step}
use Rattle.guarantee.specs.Claim.{Any, here, there}
use Rattle.guarantee.specs.EveryStep.{Numbered}
use Rattle.guarantee.proofs.Refusals.{demand_1, fresh_numbered}
use Rattle.guarantee.proofs.KeepsFormed.{fresh_is_well_formed, step_keeps_well_formed}
use Rattle.verbs.specs.Verbs.{step_of}
use Rattle.verbs.specs.Named.{Named}

-- whatever the verb, a well-formed board stays so
pub verb_keeps_well_formed : (z x y : ℕ) (b : Board) → well_formed b ≡ true → well_formed (step_of z x y b).board ≡ true
unfolding step_of step
verb_keeps_well_formed zero x y b h = fresh_is_well_formed _
verb_keeps_well_formed (suc zero) x y b h = step_keeps_well_formed b (BeginRead x) h
verb_keeps_well_formed (suc (suc zero)) x y b h = step_keeps_well_formed b (BeginWrite x y) h
verb_keeps_well_formed (suc (suc (suc zero))) x y b h = step_keeps_well_formed b (Deliver x y) h
verb_keeps_well_formed (suc (suc (suc (suc zero)))) x y b h = step_keeps_well_formed b (NodeDown x) h
verb_keeps_well_formed (suc (suc (suc (suc (suc zero))))) x y b h = step_keeps_well_formed b (ConsoleDown x) h
verb_keeps_well_formed (suc (suc (suc (suc (suc (suc zero)))))) x y b h = step_keeps_well_formed b (NodeUp x) h
verb_keeps_well_formed (suc (suc (suc (suc (suc (suc (suc zero))))))) x y b h = step_keeps_well_formed b (Restart x) h
verb_keeps_well_formed (suc (suc (suc (suc (suc (suc (suc (suc z)))))))) x y b h = h

-- ---- a refusal is the one of its number

among_named : (r : Option Refusal) {numbers : List ℕ} → Any (λ x. r ≡ Some (refusal_of x)) numbers → Named r
among_named r (here {x} e) = subst Named (sym e) (ap refusal_of (number_back x))
among_named r (there p) = among_named r p

answer_named : {b : Board} {numbers : List ℕ} {a : Answer} → Numbered b numbers a → Named a.refusal
answer_named {a = a} n = go (accepted a.outcome) refl
  where
    go : (x : Bool) → accepted a.outcome ≡ x → Named a.refusal
    go true e = subst Named (sym (n.accepted_case e)) tt
    go false e = among_named a.refusal (n.refused_case e)

pub verb_named : (z x y : ℕ) (b : Board) → Named (step_of z x y b).refusal
unfolding step_of step
verb_named zero x y b = answer_named (fresh_numbered _)
verb_named (suc zero) x y b = answer_named (demand_1 b (BeginRead x))
verb_named (suc (suc zero)) x y b = answer_named (demand_1 b (BeginWrite x y))
verb_named (suc (suc (suc zero))) x y b = answer_named (demand_1 b (Deliver x y))
verb_named (suc (suc (suc (suc zero)))) x y b = answer_named (demand_1 b (NodeDown x))
verb_named (suc (suc (suc (suc (suc zero))))) x y b = answer_named (demand_1 b (ConsoleDown x))
verb_named (suc (suc (suc (suc (suc (suc zero)))))) x y b = answer_named (demand_1 b (NodeUp x))
verb_named (suc (suc (suc (suc (suc (suc (suc zero))))))) x y b = answer_named (demand_1 b (Restart x))
verb_named (suc (suc (suc (suc (suc (suc (suc (suc z)))))))) x y b = refl
