-- The tests of tags and of consoles: what they give, and that each change of a console passes them and keeps the kind of
-- its tag.
use Prim.Native.Nat.{ℕ, ◌+◌, ◌^◌, ◌≤◌, ◌<◌}
use mathlib.Core.Bool.{Bool, true, false, cond, ◌&&◌}
use mathlib.Core.Path.{refl, sym, subst, ◌≡◌}
use native.Mathlib.Omega.{arith}
use borrow.Author.Tests.{ltb-true, eqb-true, eq-eqb, ne_eqb, lt-ltb, le-leb}
use lib.Dec.{ltb, eqb}
use Rattle.parts.proofs.FiniteLaws.{and_left, and_right, implied}
use Rattle.parts.specs.AnsweredSet.{insert, member, only_below, size}
use Rattle.parts.specs.Finite.{◌implies◌, count}
use Rattle.parts.specs.Limits.{max_life, max_ts}
use Rattle.parts.specs.Parts.{is_asking, is_telling, is_waiting, to_telling, writes}
use Rattle.parts.specs.Sizes.{ask_size, tell_size}
use Rattle.parts.specs.Tags.{greater, zero_tag}
use Rattle.parts.specs.declared.Console.{Console}
use Rattle.parts.specs.declared.Kind.{Kind}
use Rattle.parts.specs.declared.Node.{Node}
use Rattle.parts.specs.declared.Setup.{Setup}
use Rattle.parts.specs.declared.State.{State}
use Rattle.parts.specs.declared.State.TheVariants.{Asking, Down, Idle, Telling}
use Rattle.parts.specs.declared.Tag.{Tag}
use Rattle.well_formed.specs.Clauses.{is_zero, mark_ok, rest_ok, state_ok, tag_ok, wait_ok, wanted_ok}
use Rattle.decisions.specs.Changes.{acked, asks, hears, next_tag, restarted, rests, still_alike, taken, tells}
use Rattle.guarantee.proofs.Laws.Sets.{insert_first, insert_small, insert_some, power_pos, size_empty, small_32}
use Rattle.guarantee.proofs.Laws.Tags.{Small, greater_false, greater_true, key}
use Rattle.guarantee.proofs.Laws.Sizes.{Allowed, ask_pos, size_for, tell_pos}
use Rattle.guarantee.proofs.Laws.States.{ask_size_for, both, contra, implies_of, split, tell_size_for, turns}
use Rattle.guarantee.proofs.Board.Boards.{Good, Passes, TagKind}

-- ---- good tags

pub zero_good : (σ : Setup) → Allowed σ → Good σ zero_tag 0
unfolding tag_ok is_zero
zero_good σ al = rw (lt-ltb 0 σ.m al.m_1, le-leb 0 max_ts (omega arith), le-leb 0 max_life (omega arith))

pub next_good : (σ : Setup) (c : ℕ) (x : Console) (v : ℕ) → c < σ.m → x.life ≤ max_life → x.best.ts < max_ts → Good σ (next_tag c x) v
unfolding tag_ok next_tag
next_good σ c x v l i h = both (both (both (le-leb (x.best.ts + 1) max_ts (omega arith)) (lt-ltb c σ.m l)) (le-leb x.life max_life i)) (rw (ne_eqb (x.best.ts + 1) 0 (λ e. omega arith)))

-- ---- waiting consoles

-- a read's wanted value is 0
abbrev pub wants_ok : State → ℕ → Bool
wants_ok Idle v = true
wants_ok (Asking w) v = wanted_ok w v
wants_ok (Telling w) v = wanted_ok w v
wants_ok Down v = true

pub record WaitsOk (σ : Setup) (s : State) (x : Console) : Type 0 where
  pub small : x.answered < 2 ^ σ.n
  pub fewer : size x.answered < size_for σ s
  pub want : wants_ok s x.wanted ≡ true

waits_of : (σ : Setup) (q : ℕ) (w : Kind) (x : Console) → wait_ok σ q w x ≡ true → (x.answered < 2 ^ σ.n) × (size x.answered < q) × (wanted_ok w x.wanted ≡ true)
unfolding wait_ok only_below
waits_of σ q w x h = (
  ltb-true x.answered (2 ^ σ.n) (and_left (ltb x.answered (2 ^ σ.n)) _ (and_left (ltb x.answered (2 ^ σ.n) && ltb (size x.answered) q) _ h)),
  ltb-true (size x.answered) q (and_right (ltb x.answered (2 ^ σ.n)) _ (and_left (ltb x.answered (2 ^ σ.n) && ltb (size x.answered) q) _ h)),
  and_right (ltb x.answered (2 ^ σ.n) && ltb (size x.answered) q) _ h,
)

wait_ok_lem : (σ : Setup) (q : ℕ) (w : Kind) (x : Console) → x.answered < 2 ^ σ.n → size x.answered < q → wanted_ok w x.wanted ≡ true → wait_ok σ q w x ≡ true
unfolding wait_ok only_below
wait_ok_lem σ q w x a b d = both (both (lt-ltb x.answered (2 ^ σ.n) a) (lt-ltb (size x.answered) q b)) d

pub waits : (σ : Setup) (x : Console) (s : State) → state_ok σ x s ≡ true → is_waiting s ≡ true → WaitsOk σ s x
unfolding state_ok
waits σ x Idle h w = absurd (contra w refl)
waits σ x Down h w = absurd (contra w refl)
waits σ x (Asking k) h w = let z = waits_of σ (ask_size σ) k x (and_left (wait_ok σ (ask_size σ) k x) _ h) in record { small = z.0; fewer = z.1; want = z.2 }
waits σ x (Telling k) h w = let z = waits_of σ (tell_size σ) k x h in record { small = z.0; fewer = z.1; want = z.2 }

asking_ok : (σ : Setup) (x : Console) (s : State) → is_asking s ≡ true → WaitsOk σ s x → (eqb x.answered 0 implies is_zero x.best x.value) ≡ true → state_ok σ x s ≡ true
unfolding state_ok
asking_ok σ x Idle e w z = absurd (contra e refl)
asking_ok σ x (Asking k) e w z = both (wait_ok_lem σ (ask_size σ) k x w.small w.fewer w.want) z
asking_ok σ x (Telling k) e w z = absurd (contra e refl)
asking_ok σ x Down e w z = absurd (contra e refl)

telling_ok : (σ : Setup) (x : Console) (s : State) → is_telling s ≡ true → WaitsOk σ s x → state_ok σ x s ≡ true
unfolding state_ok
telling_ok σ x Idle e w = absurd (contra e refl)
telling_ok σ x (Asking k) e w = absurd (contra e refl)
telling_ok σ x (Telling k) e w = wait_ok_lem σ (tell_size σ) k x w.small w.fewer w.want
telling_ok σ x Down e w = absurd (contra e refl)

-- an asking console that nobody has answered has best (0, 0)
pub asking_zero : (σ : Setup) (x : Console) (s : State) → is_asking s ≡ true → state_ok σ x s ≡ true → eqb x.answered 0 ≡ true → key x.best ≡ 0
unfolding state_ok is_zero
asking_zero σ x Idle e h z = absurd (contra e refl)
asking_zero σ x (Telling k) e h z = absurd (contra e refl)
asking_zero σ x Down e h z = absurd (contra e refl)
asking_zero σ x (Asking k) e h z =
    let zero = and_left (eqb x.best.ts 0 && eqb x.best.console 0 && eqb x.best.life 0) _ (implied (eqb x.answered 0) _ (and_right (wait_ok σ (ask_size σ) k x) _ h) z) in
    let before = and_left (eqb x.best.ts 0 && eqb x.best.console 0) _ zero in
    omega (
      arith,
      eqb-true x.best.ts 0 (and_left (eqb x.best.ts 0) _ before),
      eqb-true x.best.console 0 (and_right (eqb x.best.ts 0) _ before),
      eqb-true x.best.life 0 (and_right (eqb x.best.ts 0 && eqb x.best.console 0) _ zero),
    )

-- ---- the mark

-- an ack leaves it as it is
acked_mark : (x : Console) (k : ℕ) (s : State) → is_telling s ≡ true → mark_ok x s ≡ true → mark_ok (acked x k) s ≡ true
unfolding mark_ok acked
acked_mark x k Idle e h = absurd (contra e refl)
acked_mark x k (Asking w) e h = absurd (contra e refl)
acked_mark x k (Telling w) e h = h
acked_mark x k Down e h = absurd (contra e refl)

-- the turn takes it away
tells_mark : (c : ℕ) (x : Console) (s : State) → is_telling s ≡ true → mark_ok (tells c x) s ≡ true
unfolding mark_ok tells
tells_mark c x Idle e = refl
tells_mark c x (Asking w) e = absurd (contra e refl)
tells_mark c x (Telling w) e = refl
tells_mark c x Down e = refl

-- after a reply there is an answer, and if it is the only one it is the first, which sets the mark
hears_mark : (x : Console) (k : ℕ) (u : Tag) (v : ℕ) (s : State) → x.answered < 32 → k < 5 → member x.answered k ≡ false → is_asking s ≡ true → mark_ok (hears x k u v) s ≡ true
unfolding mark_ok hears still_alike
hears_mark x k u v Idle h l un e = absurd (contra e refl)
hears_mark x k u v (Telling w) h l un e = absurd (contra e refl)
hears_mark x k u v Down h l un e = absurd (contra e refl)
hears_mark x k u v (Asking w) h l un e = rw (insert_some x.answered k h l)
    (implies_of (eqb (size (insert x.answered k)) 1) _ (λ o. rw (eq-eqb x.answered 0 (insert_first x.answered k h l un o))))

-- ---- the changes of a console pass the tests

pub rests_ok : (σ : Setup) (x : Console) → x.life ≤ max_life → Passes σ Idle (rests Idle x) × Passes σ Down (rests Down x)
unfolding state_ok rest_ok is_zero rests mark_ok
rests_ok σ x i = (record { state = refl; mark = refl; life = i }, record { state = refl; mark = refl; life = i })

pub restarted_ok : (σ : Setup) (x : Console) → x.life < max_life → Passes σ Idle (restarted x)
unfolding state_ok rest_ok is_zero restarted mark_ok
restarted_ok σ x i = record { state = refl; mark = refl; life = omega arith }

pub asks_ok : (σ : Setup) (w : Kind) (v : ℕ) (x : Console) → Allowed σ → x.life ≤ max_life → wanted_ok w v ≡ true → Passes σ (Asking w) (asks w v x)
unfolding asks is_zero mark_ok size count member
asks_ok σ w v x al i h = record {
  state = asking_ok σ (asks w v x) (Asking w) refl (record { small = power_pos σ.n al.n_5; fewer = omega (arith, size_empty, ask_pos al); want = h }) refl;
  mark = refl;
  life = i;
}

pub hears_ok : (σ : Setup) (x : Console) (k : ℕ) (u : Tag) (v : ℕ) → σ.n ≤ 5 → k < σ.n → is_asking x.state ≡ true → WaitsOk σ x.state x → member x.answered k ≡ false
    → size (insert x.answered k) < ask_size σ → x.life ≤ max_life → Passes σ x.state (hears x k u v)
unfolding hears
hears_ok σ x k u v five l p w un few i = record {
  state = asking_ok σ (hears x k u v) x.state p
      (record { small = insert_small σ.n x.answered k five w.small l; fewer = omega (arith, few, ask_size_for σ x.state p); want = w.want })
      (rw (insert_some x.answered k (small_32 σ.n x.answered five w.small) (omega arith)));
  mark = hears_mark x k u v x.state (small_32 σ.n x.answered five w.small) (omega arith) un p;
  life = i;
}

pub acked_ok : (σ : Setup) (x : Console) (k : ℕ) → σ.n ≤ 5 → k < σ.n → is_telling x.state ≡ true → WaitsOk σ x.state x → mark_ok x x.state ≡ true
    → size (insert x.answered k) < tell_size σ → x.life ≤ max_life → Passes σ x.state (acked x k)
unfolding acked
acked_ok σ x k five l p w m few i = record {
  state = telling_ok σ (acked x k) x.state p
      (record { small = insert_small σ.n x.answered k five w.small l; fewer = omega (arith, few, tell_size_for σ x.state p); want = w.want });
  mark = acked_mark x k x.state p m;
  life = i;
}

turn_wants : (s : State) (v : ℕ) → is_asking s ≡ true → wants_ok s v ≡ true → wants_ok (to_telling s) v ≡ true
turn_wants Idle v e h = h
turn_wants (Asking w) v e h = h
turn_wants (Telling w) v e h = h
turn_wants Down v e h = h

pub tells_ok : (σ : Setup) (c : ℕ) (x : Console) → Allowed σ → is_asking x.state ≡ true → wants_ok x.state x.wanted ≡ true
    → x.life ≤ max_life → Passes σ (to_telling x.state) (tells c x)
unfolding tells
tells_ok σ c x al p w i = record {
  state = telling_ok σ (tells c x) (to_telling x.state) (turns x.state p).0
      (record { small = power_pos σ.n al.n_5; fewer = omega (arith, size_empty, tell_pos al, tell_size_for σ (to_telling x.state) (turns x.state p).0); want = turn_wants x.state x.wanted p w });
  mark = tells_mark c x (to_telling x.state) (turns x.state p).0;
  life = i;
}

pub console_state : (σ : Setup) {x y : Console} {s : State} → y ≡ x → x.state ≡ s → Passes σ s x → Passes σ y.state y
console_state σ {x} {y} {s} e q h = rw e (subst (λ s. Passes σ s x) (sym q) h)

-- ---- the kind of a tag and its value is kept, whatever it is

pub hears_kind : (K : TagKind) (x : Console) (k : ℕ) (u : Tag) (v : ℕ) → K x.best x.value → K u v → K (hears x k u v).best (hears x k u v).value
unfolding hears
hears_kind K x k u v h i = go (greater u x.best)
  where
    go : (y : Bool) → K (cond y u x.best) (cond y v x.value)
    go true = i
    go false = h

pub tells_kind : (K : TagKind) (c : ℕ) (x : Console) → K x.best x.value → (writes x.state ≡ true → K (next_tag c x) x.wanted) → K (tells c x).best (tells c x).value
unfolding tells
tells_kind K c x h i = go (writes x.state) i
  where
    go : (y : Bool) → (y ≡ true → K (next_tag c x) x.wanted) → K (cond y (next_tag c x) x.best) (cond y x.wanted x.value)
    go true i = i refl
    go false i = h

pub taken_kind : (K : TagKind) (x : Node) (u : Tag) (v : ℕ) → K x.tag x.value → K u v → K (taken x u v).tag (taken x u v).value
unfolding taken
taken_kind K x u v h i = split (λ (y : Node). K y.tag y.value) (greater u x.tag) (λ _. i) (λ _. h)

pub taken_key : (x : Node) (u : Tag) (v : ℕ) → Small x.tag → Small u → (key x.tag ≤ key (taken x u v).tag) × (key u ≤ key (taken x u v).tag)
unfolding taken
taken_key x u v h i = split (λ (y : Node). (key x.tag ≤ key y.tag) × (key u ≤ key y.tag)) (greater u x.tag)
    (λ e. omega (arith, greater_true u x.tag i h e)) (λ e. omega (arith, greater_false u x.tag i h e))

pub taken_up : (x : Node) (t : Tag) (v : ℕ) → (taken x t v).up ≡ x.up
unfolding taken
taken_up x t v = split (λ (y : Node). y.up ≡ x.up) (greater t x.tag) (λ _. refl) (λ _. refl)

-- a kind of good tags, with tag zero
pub record Fair (K : TagKind) (σ : Setup) : Type 0 where
  pub good : (t : Tag) (v : ℕ) → K t v → Good σ t v
  pub zero_in : K zero_tag 0
