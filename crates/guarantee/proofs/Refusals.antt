-- Demand 1: a decision refuses with the number of one of its questions, or accepts; the board hands itself back with that number, or answers
-- with refusal 0.
use Prim.Native.Nat.{ℕ}
use mathlib.Core.Bool.{Bool, true}
use mathlib.Core.List.{List, [], ◌∷◌}
use mathlib.Core.Path.{refl, ◌≡◌, ap, ◌∙◌}
use lib.Dec.{ltb}
use Rattle.std.specs.Prelude.{Ok, Err, Option, Some}
use Rattle.std.specs.declared.cmp.Ordering.{Ordering}
use Rattle.parts.specs.declared.Outcome.{Outcome}
use Rattle.decisions.specs.Refusals.{number_of, refusal_of}
use Rattle.decisions.proofs.RefusalsLaws.{number_back}
use Rattle.decisions.specs.declared.refusals.Refusal.{Refusal}
use Rattle.decisions.specs.declared.refusals.Refusal.TheVariants.{NodeIsDown, TsUsedUp}
use Rattle.parts.specs.AnsweredSet.{size}
use Rattle.parts.specs.Outcomes.{accepted}
use Rattle.parts.specs.Parts.{is_asking, is_telling}
use Rattle.parts.specs.Sizes.{ask_size, tell_size}
use Rattle.parts.specs.declared.Console.{Console}
use Rattle.parts.specs.declared.Frame.{Frame}
use Rattle.parts.specs.declared.Frame.TheVariants.{Ack, Ask, Nothing, Put, Reply}
use Rattle.parts.specs.declared.Kind.{Kind}
use Rattle.parts.specs.declared.Kind.TheVariants.{Read, Write}
use Rattle.parts.specs.declared.Node.{Node}
use Rattle.parts.specs.declared.Setup.{Setup}
use Rattle.decisions.specs.Changes.{acked, awaits, takes_in}
use Rattle.decisions.specs.Steps.{Decision, begins, ends, falls, restarts, rises}
use Rattle.decisions.specs.Deliver.{acknowledged, delivered, discards, finished, finishes_early, heard, is_withdrawn, on_ack, on_ask, on_frame, on_put, on_reply, replied, turned}
use Rattle.decisions.specs.Questions.{Question, guarded, has_next_ts, node_is_up}
use Rattle.board.specs.Answers.{answer_with, refuse}
use Rattle.board.specs.Applied.{applied}
use Rattle.board.specs.Boards.{console_at, frame_at, node_at}
use Rattle.board.specs.Deliver.{deliver}
use Rattle.board.specs.Runs.{BeginRead, BeginWrite, ConsoleDown, Deliver, NodeDown, NodeUp, Restart, step}
use Rattle.board.specs.Steps.{begin, console_down, fresh, node_down, node_up, restart}
use Rattle.board.specs.WellFormed.{well_formed}
use Rattle.board.specs.declared.Board.{Board}
use Rattle.guarantee.specs.Claim.{◌also◌, All, Any, here, none, there}
use Rattle.guarantee.specs.EveryStep.{Demand1, FreshNumbered, Numbered}
use Rattle.guarantee.proofs.Laws.Lists.{any_imp}
use Rattle.guarantee.proofs.Laws.States.{contra, split}

-- a decision that refuses with one of the numbers, or accepts
abbrev Among : List ℕ → Decision → Type 0
Among numbers (Err r) = Any (λ x. r ≡ refusal_of x) numbers
Among numbers (Ok d) = accepted d.outcome ≡ true

-- a refusal hands back the board that it was given
refused_numbered : {b : Board} {numbers : List ℕ} {r : Refusal} → Any (λ x. r ≡ refusal_of x) numbers → Numbered b numbers (refuse b r)
refused_numbered i =
    record {
      refused_board = λ _. refl;
      refused_number = λ _. any_imp (λ x e. ap number_of e ∙ number_back x) i;
      accepted_number = λ e. absurd (contra e refl);
      refused_case = λ _. any_imp (λ _ e. ap Some e) i;
      accepted_case = λ e. absurd (contra e refl);
    }

-- what is accepted has no refusal
accepted_numbered : {b c : Board} {numbers : List ℕ} {how : Option Ordering} {o : Outcome} → accepted o ≡ true → Numbered b numbers (answer_with how o c)
accepted_numbered e =
    record {
      refused_board = λ n. absurd (contra e n);
      refused_number = λ n. absurd (contra e n);
      accepted_number = λ _. refl;
      refused_case = λ n. absurd (contra e n);
      accepted_case = λ _. refl;
    }

-- what is decided so is answered so
applied_numbered : {b : Board} {numbers : List ℕ} (c k : ℕ) (d : Decision) → Among numbers d → Numbered b numbers (applied b c k d)
unfolding applied
applied_numbered c k (Err r) i = refused_numbered i
applied_numbered c k (Ok d) e = accepted_numbered e

-- each of the questions refuses with its number, or what they guard comes
asked : {A : Type 0} (P : A → Type 0) (qs : List Question) (refused : Refusal → A) {a : A} → All (λ q. P (refused q.refusal)) qs → P a → P (guarded qs refused a)
unfolding guarded
asked P [] refused none h = h
asked P (q ∷ qs) refused (n also ns) h = split P q.yes (λ _. asked P qs refused ns h) (λ _. n)

-- ---- the decisions

begins_among : (formed : Bool) (σ : Setup) (c : ℕ) (w : Kind) (v : ℕ) (x : Console) → Among (1 ∷ 4 ∷ 6 ∷ 7 ∷ []) (begins formed σ c w v x)
unfolding begins
begins_among formed σ c w v x = asked (Among (1 ∷ 4 ∷ 6 ∷ 7 ∷ [])) _ Err (here refl also there (here refl) also there (there (here refl)) also there (there (there (here refl))) also none) refl

restarts_among : (formed : Bool) (σ : Setup) (c : ℕ) (x : Console) → Among (1 ∷ 4 ∷ 15 ∷ 16 ∷ []) (restarts formed σ c x)
unfolding restarts
restarts_among formed σ c x = asked (Among (1 ∷ 4 ∷ 15 ∷ 16 ∷ [])) _ Err (here refl also there (here refl) also there (there (here refl)) also there (there (there (here refl))) also none) refl

-- three questions, whatever their numbers
three_among : (x y z : ℕ) (q₁ q₂ q₃ : Question) (d : Decision) → q₁.refusal ≡ refusal_of x → q₂.refusal ≡ refusal_of y → q₃.refusal ≡ refusal_of z
    → Among (x ∷ y ∷ z ∷ []) d → Among (x ∷ y ∷ z ∷ []) (guarded (q₁ ∷ q₂ ∷ q₃ ∷ []) Err d)
three_among x y z q₁ q₂ q₃ d e f g h = asked (Among (x ∷ y ∷ z ∷ [])) (q₁ ∷ q₂ ∷ q₃ ∷ []) Err (here e also there (here f) also there (there (here g)) also none) h

-- the refusals of a delivery
abbrev deliver's : List ℕ
deliver's = 1 ∷ 4 ∷ 5 ∷ 8 ∷ 9 ∷ 10 ∷ []

-- 9 and 10 are of the questions that only some frames come to
nine : Among deliver's (Err NodeIsDown)
nine = there (there (there (there (here refl))))

ten : Among deliver's (Err TsUsedUp)
ten = there (there (there (there (there (here refl)))))

frame_among : (σ : Setup) (c k : ℕ) (x : Console) (y : Node) (f : Frame) → Among deliver's (on_frame σ c k x y f)
unfolding on_frame on_ask on_put on_reply on_ack replied acknowledged heard finished turned discards
frame_among σ c k x y Nothing = refl
frame_among σ c k x y Ask = asked (Among deliver's) (node_is_up y ∷ []) Err (nine also none) refl
frame_among σ c k x y (Put t v) = asked (Among deliver's) (node_is_up y ∷ []) Err (nine also none) refl
frame_among σ c k x y (Reply t v) =
    let r = takes_in x k t v in
    split (Among deliver's) (awaits is_asking x k)
    (λ _. split (Among deliver's) (ltb (size r.console.answered) (ask_size σ)) (λ _. refl)
    (λ _. split (Among deliver's) (finishes_early σ r.console) (λ _. refl)
    (λ _. asked (Among deliver's) (has_next_ts r.console ∷ []) Err (ten also none) refl)))
    (λ _. refl)
frame_among σ c k x y Ack =
    split (Among deliver's) (awaits is_telling x k)
    (λ _. split (Among deliver's) (ltb (size (acked x k).answered) (tell_size σ)) (λ _. refl) (λ _. refl))
    (λ _. refl)

delivered_among : (formed : Bool) (σ : Setup) (c k : ℕ) (x : Console) (y : Node) (f : Frame) → Among deliver's (delivered formed σ c k x y f)
unfolding delivered discards
delivered_among formed σ c k x y f = asked (Among deliver's) _ Err (here refl also there (here refl) also there (there (here refl)) also there (there (there (here refl))) also none)
    (split (Among deliver's) (is_withdrawn x f) (λ _. refl) (λ _. frame_among σ c k x y f))

-- ---- the theorems

pub demand_1 : Demand1
unfolding step begin node_down node_up console_down restart deliver ends falls rises
demand_1 b (BeginRead c) = applied_numbered c 0 _ (begins_among (well_formed b) b.setup c Read 0 (console_at b c))
demand_1 b (BeginWrite c v) = applied_numbered c 0 _ (begins_among (well_formed b) b.setup c Write v (console_at b c))
demand_1 b (Deliver c k) = applied_numbered c k _ (delivered_among (well_formed b) b.setup c k (console_at b c) (node_at b k) (frame_at b c k))
demand_1 b (NodeDown k) = applied_numbered 0 k _ (three_among _ _ _ _ _ _ _ refl refl refl refl)
demand_1 b (ConsoleDown c) = applied_numbered c 0 _ (three_among _ _ _ _ _ _ _ refl refl refl refl)
demand_1 b (NodeUp k) = applied_numbered 0 k _ (three_among _ _ _ _ _ _ _ refl refl refl refl)
demand_1 b (Restart c) = applied_numbered c 0 _ (restarts_among (well_formed b) b.setup c (console_at b c))

pub fresh_numbered : FreshNumbered
unfolding fresh
fresh_numbered σ = asked (Numbered _ (2 ∷ 3 ∷ [])) _ (refuse _) (refused_numbered (here refl) also refused_numbered (there (here refl)) also none)
    (accepted_numbered refl)
