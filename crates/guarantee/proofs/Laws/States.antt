-- Laws of a console's states, and how to prove of a test or of a step's questions what holds on each way through.
use Prim.Native.Nat.{ℕ}
use mathlib.Core.Bool.{Bool, true, false, cond, not, ◌&&◌}
use mathlib.Core.Logic.{inl, inr, ◌⊎◌}
use mathlib.Core.Path.{refl, ◌≡◌}
use native.Mathlib.Omega.{arith}
use Rattle.parts.specs.Finite.{◌implies◌}
use Rattle.parts.specs.Parts.{is_asking, is_idle, is_telling, is_up, is_waiting, to_telling, writes}
use Rattle.parts.specs.Sizes.{ask_size, tell_size}
use Rattle.parts.specs.declared.Setup.{Setup}
use Rattle.parts.specs.declared.State.{State}
use Rattle.parts.specs.declared.State.TheVariants.{Asking, Down, Idle, Telling}
use Rattle.guarantee.proofs.Laws.Sizes.{size_for}

pub contra : {a : Bool} → a ≡ true → a ≡ false → ⊥
contra e f = let z : ◌≡◌ {A = ℕ} 0 1 = cc in omega arith

pub both : {x y : Bool} → x ≡ true → y ≡ true → (x && y) ≡ true
both e f = cc

-- to prove P of a test, prove it of each branch
pub split : {A : Type 0} (P : A → Type 0) (x : Bool) {a b : A} → (x ≡ true → P a) → (x ≡ false → P b) → P (cond x a b)
split P true h i = h refl
split P false h i = i refl

-- the same of the test `x && not y`
pub split_but : {A : Type 0} (P : A → Type 0) (x y : Bool) {a b : A} → (x ≡ true → y ≡ false → P a) → ((x ≡ true → y ≡ true) → P b) → P (cond (x && not y) a b)
split_but P true true h i = i (λ _. refl)
split_but P true false h i = h refl refl
split_but P false y h i = i (λ e. cc)

pub implies_of : (x y : Bool) → (x ≡ true → y ≡ true) → (x implies y) ≡ true
implies_of true y h = h refl
implies_of false y h = refl

pub asking_waits : (s : State) → is_asking s ≡ true → is_waiting s ≡ true
asking_waits Idle e = e
asking_waits (Asking w) e = refl
asking_waits (Telling w) e = refl
asking_waits Down e = e

pub telling_waits : (s : State) → is_telling s ≡ true → is_waiting s ≡ true
telling_waits Idle e = e
telling_waits (Asking w) e = refl
telling_waits (Telling w) e = refl
telling_waits Down e = e

pub waiting_cases : (s : State) → is_waiting s ≡ true → (is_asking s ≡ true) ⊎ (is_telling s ≡ true)
waiting_cases Idle e = inl e
waiting_cases (Asking w) e = inl refl
waiting_cases (Telling w) e = inr refl
waiting_cases Down e = inl e

pub waiting_up : (s : State) → is_waiting s ≡ true → is_up s ≡ true
waiting_up Idle e = refl
waiting_up (Asking w) e = refl
waiting_up (Telling w) e = refl
waiting_up Down e = e

pub not_both : (s : State) → is_asking s ≡ true → is_telling s ≡ true → ⊥
not_both Idle e f = contra e refl
not_both (Asking w) e f = contra f refl
not_both (Telling w) e f = contra e refl
not_both Down e f = contra e refl

pub idle_is : (s : State) → is_idle s ≡ true → s ≡ Idle
idle_is Idle e = refl
idle_is (Asking w) e = absurd (contra e refl)
idle_is (Telling w) e = absurd (contra e refl)
idle_is Down e = absurd (contra e refl)

pub down_is : (s : State) → not (is_up s) ≡ true → s ≡ Down
down_is Idle e = absurd (contra e refl)
down_is (Asking w) e = absurd (contra e refl)
down_is (Telling w) e = absurd (contra e refl)
down_is Down e = refl

-- an asking console turns to telling, with its kind
pub turns : (s : State) → is_asking s ≡ true → (is_telling (to_telling s) ≡ true) × (writes (to_telling s) ≡ writes s)
turns Idle e = absurd (contra e refl)
turns (Asking w) e = (refl, refl)
turns (Telling w) e = (refl, refl)
turns Down e = absurd (contra e refl)

pub ask_size_for : (σ : Setup) (s : State) → is_asking s ≡ true → size_for σ s ≡ ask_size σ
ask_size_for σ Idle e = absurd (contra e refl)
ask_size_for σ (Asking w) e = refl
ask_size_for σ (Telling w) e = absurd (contra e refl)
ask_size_for σ Down e = absurd (contra e refl)

pub tell_size_for : (σ : Setup) (s : State) → is_telling s ≡ true → size_for σ s ≡ tell_size σ
tell_size_for σ Idle e = absurd (contra e refl)
tell_size_for σ (Asking w) e = absurd (contra e refl)
tell_size_for σ (Telling w) e = refl
tell_size_for σ Down e = absurd (contra e refl)
