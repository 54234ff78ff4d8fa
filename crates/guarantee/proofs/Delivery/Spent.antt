-- How many deliveries a waiting console has taken: each frame of its row has a weight, 0 for a request, 1 for an answer on
-- its way, 2 once it is taken in. Their sum is at most n and the answers taken in.
use Prim.Native.Nat.{ℕ, zero, suc, ◌+◌, ◌*◌, ◌^◌, ◌≤◌, ◌<◌}
use mathlib.Core.Bool.{Bool, true, false}
use mathlib.Core.Logic.{◌≢◌}
use mathlib.Core.Path.{refl, ◌≡◌}
use native.Mathlib.Omega.{arith}
use borrow.Author.Tests.{eqb-true, eqb-false}
use lib.Dec.{eqb}
use Rattle.parts.specs.AnsweredSet.{insert, member, size}
use Rattle.parts.specs.Finite.{count, one}
use Rattle.parts.specs.Parts.{is_asking, is_telling}
use Rattle.parts.specs.Sizes.{ask_size, tell_size}
use Rattle.parts.specs.declared.Console.{Console}
use Rattle.parts.specs.declared.Frame.{Frame}
use Rattle.parts.specs.declared.Frame.TheVariants.{Ack, Ask, Nothing, Put, Reply}
use Rattle.parts.specs.declared.Setup.{Setup}
use Rattle.parts.specs.declared.State.{State}
use Rattle.parts.specs.declared.State.TheVariants.{Asking, Down, Idle, Telling}
use Rattle.guarantee.proofs.Laws.Sets.{insert_other, insert_same, size_count, small_32}
use Rattle.guarantee.proofs.Laws.States.{contra}
use Rattle.guarantee.proofs.Board.Rows.{Changed}

unfoldable pub sum : ℕ → (ℕ → ℕ) → ℕ
sum zero f = 0
sum (suc n) f = f n + sum n f

pub sum_same : (n : ℕ) (f g : ℕ → ℕ) → ((j : ℕ) → j < n → g j ≡ f j) → sum n g ≡ sum n f
unfolding sum
sum_same zero f g h = refl
sum_same (suc n) f g h = omega (arith, h n (omega arith), sum_same n f g (λ j l. h j (omega arith)))

-- one term grows by one
sum_up : (n k : ℕ) (f g : ℕ → ℕ) → k < n → g k ≡ f k + 1 → ((j : ℕ) → j < n → j ≢ k → g j ≡ f j) → sum n g ≡ sum n f + 1
unfolding sum
sum_up zero k f g l e h = absurd (omega arith)
sum_up (suc n) k f g l e h = go (λ i. sum_up n k f g i e (λ j a. h j (omega arith))) (eqb k n) refl
  where
    go : (k < n → sum n g ≡ sum n f + 1) → (x : Bool) → eqb k n ≡ x → g n + sum n g ≡ f n + sum n f + 1
    go rest true q =
        let same : sum n g ≡ sum n f = sum_same n f g (λ j a. h j (omega arith) (omega (arith, eqb-true k n q))) in
        omega (arith, same, rw (eqb-true k n q) at e)
    go rest false q = omega (arith, rest (omega (arith, eqb-false k n q)), h n (omega arith) (omega (arith, eqb-false k n q)))

abbrev pub sent : Frame → ℕ
sent Nothing = 0
sent Ask = 0
sent (Reply t v) = 1
sent (Put t v) = 0
sent Ack = 1

abbrev pub weight : Bool → Frame → ℕ
weight true f = 2
weight false f = sent f

sent_1 : (f : Frame) → sent f ≤ 1
sent_1 Nothing = omega arith
sent_1 Ask = omega arith
sent_1 (Reply t v) = omega arith
sent_1 (Put t v) = omega arith
sent_1 Ack = omega arith

weight_2 : (a : Bool) (f : Frame) → weight a f ≤ 1 + one a
weight_2 true f = omega arith
weight_2 false f = omega (arith, sent_1 f)

-- the deliveries of the phase
abbrev pub phase_sum : ℕ → ℕ → (ℕ → Frame) → ℕ
phase_sum n a fr = sum n (λ k. weight (member a k) (fr k))

sum_count : (n : ℕ) (s : ℕ → Bool) (fr : ℕ → Frame) → sum n (λ k. weight (s k) (fr k)) ≤ n + count n s
unfolding sum count
sum_count zero s fr = omega arith
sum_count (suc n) s fr = omega (arith, weight_2 (s n) (fr n), sum_count n s fr)

-- at most what the earlier phase took
abbrev pub earlier : Setup → State → ℕ
earlier σ Idle = 0
earlier σ (Asking w) = 0
earlier σ (Telling w) = σ.n + ask_size σ
earlier σ Down = 0

pub earlier_asking : (σ : Setup) (s : State) → is_asking s ≡ true → earlier σ s ≡ 0
earlier_asking σ Idle e = refl
earlier_asking σ (Asking w) e = refl
earlier_asking σ (Telling w) e = absurd (contra e refl)
earlier_asking σ Down e = refl

pub earlier_telling : (σ : Setup) (s : State) → is_telling s ≡ true → earlier σ s ≡ σ.n + ask_size σ
earlier_telling σ Idle e = absurd (contra e refl)
earlier_telling σ (Asking w) e = absurd (contra e refl)
earlier_telling σ (Telling w) e = refl
earlier_telling σ Down e = absurd (contra e refl)

unfoldable pub spent : Setup → Console → (ℕ → Frame) → ℕ
spent σ x fr = earlier σ x.state + phase_sum σ.n x.answered fr

-- the most that an operation takes
abbrev pub most : Setup → ℕ
most σ = 2 * σ.n + ask_size σ + tell_size σ

pub phase_le : (n : ℕ) (x : Console) (fr : ℕ → Frame) → n ≤ 5 → x.answered < 2 ^ n → phase_sum n x.answered fr ≤ n + size x.answered
phase_le n x fr five small = omega (arith, sum_count n (member x.answered) fr, size_count n x.answered five small)

-- a request is delivered
pub spent_frame : (σ : Setup) (k : ℕ) (x : Console) (f : Frame) (fr fr' : ℕ → Frame) → σ.n ≤ 5 → k < σ.n → member x.answered k ≡ false → sent (fr k) ≡ 0 → sent f ≡ 1 → Changed k f fr fr'
    → spent σ x fr' ≡ spent σ x fr + 1
unfolding spent
spent_frame σ k x f fr fr' five l un a b w =
    let up : phase_sum σ.n x.answered fr' ≡ phase_sum σ.n x.answered fr + 1 =
    sum_up σ.n k (λ k. weight (member x.answered k) (fr k)) (λ k. weight (member x.answered k) (fr' k)) l
    (rw (un, w.at) (omega arith)) (λ j i h. rw (w.off j (omega arith) h)) in
    omega (arith, up)

-- an answer is heard
pub spent_heard : (n k a : ℕ) (fr fr' : ℕ → Frame) → n ≤ 5 → k < n → a < 2 ^ n → member a k ≡ false → sent (fr k) ≡ 1 → Changed k Nothing fr fr'
    → phase_sum n (insert a k) fr' ≡ phase_sum n a fr + 1
spent_heard n k a fr fr' five l small un s w =
    sum_up n k (λ k. weight (member a k) (fr k)) (λ j. weight (member (insert a k) j) (fr' j)) l
    (rw (un, insert_same a k (small_32 n a five small) (omega arith)) (omega arith))
    (λ j i h. rw (insert_other a k (small_32 n a five small) (omega arith) j (omega arith) h, w.off j (omega arith) h))
