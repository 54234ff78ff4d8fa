-- Demand 3, as document 01's 'What demand 3 speaks of' and document 02's Papers 2, 4 and 7 read it: one claim about
-- every run from a fresh board of any allowed size, under either release. proofs/Theorem.antt proves it.
use Rattle.std.specs.Prelude.{ℕ, ◌+◌, ◌*◌, ◌≤◌, ◌<◌, true, List, [], ◌∷◌, ◌⊎◌, ◌≡◌}
use Rattle.parts.specs.Finite.{count}
use Rattle.parts.specs.Limits.{max_nodes, max_consoles}
use Rattle.parts.specs.Sizes.{majority}
use Rattle.parts.specs.Tags.{greater}
use Rattle.parts.specs.Parts.{is_waiting}
use Rattle.parts.specs.declared.Setup.{Setup}
use Rattle.parts.specs.declared.Tag.{Tag}
use Rattle.board.specs.Boards.{console_at}
use Rattle.board.specs.Deliver.{deliverable}
use Rattle.board.specs.Runs.{Step}
use Rattle.guarantee.specs.Log.{Op, Open, Complete, Run, is_open_at, run, tally, writes_begun}

-- each member of the list, and some member
pub data All {A : Type 0} (P : A → Type 0) : List A → Type 0 where
  none : All P []
  ◌also◌ : {x : A} {l : List A} → P x → All P l → All P (x ∷ l)

pub data Any {A : Type 0} (P : A → Type 0) : List A → Type 0 where
  here : {x : A} {l : List A} → P x → Any P (x ∷ l)
  there : {x : A} {l : List A} → Any P l → Any P (x ∷ l)

infixr 30 ◌also◌
-- the operation is open, and console c's
abbrev pub OpenAt : ℕ → Op → Type 0
OpenAt c x = (x.status ≡ Open) × (x.console ≡ c)

-- console c has an operation open
abbrev pub HasOpen : Run → ℕ → Type 0
HasOpen r c = Any (OpenAt c) r.ops

-- console c is one of the m consoles, and waits
abbrev pub Waits : Setup → Run → ℕ → Type 0
Waits σ r c = (c < σ.m) × (is_waiting (console_at r.board c).state ≡ true)

-- a console 'has a frame that can be delivered if, for some node, a deliver of that console and node as the next step
-- would be accepted'; document 02's picker tries pairs by the same test
abbrev pub HasDeliverable : Setup → Run → ℕ → Type 0
HasDeliverable σ r c = (k : ℕ) × (k < σ.n) × (deliverable r.board c k ≡ true)

-- two finished operations, 'one's finish before the other's begin'
abbrev pub FinishedBefore : Op → Op → Type 0
FinishedBefore x y = (x.status ≡ Complete) × (y.status ≡ Complete) × (x.ended < y.began)

-- the papers' own order, written out: the claim does not go by the register's test of tags. 'Tag a is greater than tag
-- b if its ts is greater, or the ts are equal and its console number is greater'; the life is 'compared after ts and
-- console'
abbrev pub Higher : Tag → Tag → Type 0
Higher a b = (b.ts < a.ts) ⊎ ((a.ts ≡ b.ts) × ((b.console < a.console) ⊎ ((a.console ≡ b.console) × (b.life < a.life))))

-- it is the register's order: in a coarser order, or in one turned round, the claim would say less
abbrev pub HigherIsGreater : Type 0
HigherIsGreater = (a b : Tag) → (greater a b ≡ true → Higher a b) × (Higher a b → greater a b ≡ true)

-- y's final tag is no lower than x's, and higher if y wrote
abbrev pub Fresher : Op → Op → Type 0
Fresher x y = (Higher x.tag y.tag → ⊥) × (y.wrote ≡ true → Higher y.tag x.tag)

-- σ has n, m and the release; no rule speaks of the release
pub record Demand3 (σ : Setup) (r : Run) : Type 0 where
  -- 'The consoles with an operation open are exactly the waiting ones'
  pub open_waits : (c : ℕ) → HasOpen r c → Waits σ r c
  pub waits_open : (c : ℕ) → Waits σ r c → HasOpen r c
  -- and no console has two, counted in the log
  pub one_open : (c : ℕ) → tally (is_open_at c) r.ops ≤ 1
  -- 'every console with an operation open has a frame that can be delivered, if a majority of the machines is up'; 'the
  -- progress rule's majority is now q or more machines up at the list's end'
  pub progress : majority σ.n ≤ count σ.n r.up → (c : ℕ) → HasOpen r c → HasDeliverable σ r c
  -- 'every operation has taken at most 2(n + q) accepted deliveries .. from begin to finish, or so far if unfinished'
  pub bound : All (λ x. x.took ≤ 2 * (σ.n + majority σ.n)) r.ops
  -- 'every finished operation's final tag is no lower than that of any operation finished before it began, and higher if
  -- it wrote'
  pub freshness : All (λ y. All (λ x. FinishedBefore x y → Fresher x y) r.ops) r.ops

-- 'with at most 4,000,000,000 writes begun'
abbrev pub max_writes : ℕ
max_writes = 4000000000

-- 'For every list of begin reads, begin writes, deliveries, node downs and console downs', node ups and restarts,
-- 'refused ones included, from a fresh board of any allowed size'. 'Demand 3's three rules cover both releases'
abbrev pub Claim : Type 0
Claim = (σ : Setup) → 1 ≤ σ.n → σ.n ≤ max_nodes → 1 ≤ σ.m → σ.m ≤ max_consoles → (ss : List Step) → writes_begun (run σ ss) ≤ max_writes → Demand3 σ (run σ ss)
