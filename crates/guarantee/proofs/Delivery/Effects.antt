-- What an accepted delivery does, as far as the log needs to know (Effect): the board stays good, the other consoles are left
-- alone, and the console's own operation goes on, turns or ends. And the facts at hand when a frame is delivered.
use Prim.Native.Nat.{ℕ, ◌+◌, ◌≤◌, ◌<◌}
use mathlib.Core.Bool.{Bool, true, false}
use mathlib.Core.Logic.{inl, inr, ◌⊎◌}
use mathlib.Core.Path.{refl, ◌≡◌}
use native.Mathlib.Omega.{arith}
use Rattle.parts.specs.AnsweredSet.{member}
use Rattle.parts.specs.Finite.{one}
use Rattle.parts.specs.Parts.{is_asking, is_nothing, is_telling, is_waiting, to_telling, writes}
use Rattle.parts.specs.declared.Console.{Console}
use Rattle.parts.specs.declared.Frame.{Frame}
use Rattle.parts.specs.declared.Frame.TheVariants.{Nothing, Put, Reply}
use Rattle.parts.specs.declared.Outcome.{Outcome}
use Rattle.parts.specs.declared.Outcome.TheVariants.{Discarded, Done, Finished, Handed, Heard, Refused, Turned}
use Rattle.parts.specs.declared.Setup.{Setup}
use Rattle.parts.specs.declared.State.TheVariants.{Idle}
use Rattle.parts.specs.declared.Tag.{Tag}
use Rattle.board.proofs.WellFormedLaws.{tag_small}
use Rattle.board.specs.Boards.{console_at, frame_at, node_at, with_console, with_frame}
use Rattle.board.specs.declared.Answer.{Answer}
use Rattle.board.specs.declared.Board.{Board}
use Rattle.guarantee.proofs.Laws.Tags.{Small, key}
use Rattle.guarantee.proofs.Laws.States.{ask_size_for, tell_size_for, waiting_cases}
use Rattle.guarantee.proofs.Board.Shapes.{Shape, console_same, frame_beside, frame_same, shape_frame}
use Rattle.guarantee.proofs.Board.Rows.{Changed, Floor, Held, RowOk, ask_open, changed, tell_open}
use Rattle.guarantee.proofs.Board.Boards.{Beside, BoardOk, FrameHas, Passes, TagKind, beside_console, beside_frame, beside_trans, kept, same_floor, same_row, tags}
use Rattle.guarantee.proofs.Board.Consoles.{Fair, WaitsOk, waits}
use Rattle.guarantee.proofs.Delivery.Spent.{earlier_asking, earlier_telling, most, phase_le, spent}

-- the floor under console c's operation, and its deliveries so far, on a board
abbrev pub RowFloor : Setup → Board → ℕ → ℕ → Type 0
RowFloor σ b c t = Floor σ (console_at b c) (frame_at b c) (tags b) t

abbrev pub spent_at : Setup → Board → ℕ → ℕ
spent_at σ b c = spent σ (console_at b c) (frame_at b c)

-- what a waiting console has spent is below the bound, since fewer have answered than end its phase
pub spent_below : {K : TagKind} {σ : Setup} (b : Board) (c : ℕ) → BoardOk K σ b → c < σ.m → is_waiting (console_at b c).state ≡ true → spent_at σ b c < most σ
unfolding spent
spent_below {K} {σ} b c h cm w = go (waiting_cases (console_at b c).state w)
  where
    ws : WaitsOk σ (console_at b c).state (console_at b c)
    ws = waits σ (console_at b c) (console_at b c).state (h.console_in_lem c cm).state w

    go : (is_asking (console_at b c).state ≡ true) ⊎ (is_telling (console_at b c).state ≡ true) → spent_at σ b c < most σ
    go (inl p) = omega (arith, earlier_asking σ (console_at b c).state p, ask_size_for σ (console_at b c).state p, phase_le σ.n (console_at b c) (frame_at b c) h.shape.allowed.n_5 ws.small, ws.fewer)
    go (inr p) = omega (arith, earlier_telling σ (console_at b c).state p, tell_size_for σ (console_at b c).state p, phase_le σ.n (console_at b c) (frame_at b c) h.shape.allowed.n_5 ws.small, ws.fewer)

-- the operation goes on in its phase, one delivery later
pub record Going (σ : Setup) (c : ℕ) (b b' : Board) : Type 0 where
  pub state : (console_at b' c).state ≡ (console_at b c).state
  pub floor : (t : ℕ) → RowFloor σ b c t → RowFloor σ b' c t
  pub spends : is_waiting (console_at b c).state ≡ true → spent_at σ b c + 1 ≤ spent_at σ b' c

-- the operation has chosen its tag, and tells it
pub record Turning (σ : Setup) (c : ℕ) (b b' : Board) : Type 0 where
  pub asked : is_asking (console_at b c).state ≡ true
  pub state : (console_at b' c).state ≡ to_telling (console_at b c).state
  pub floor : (t : ℕ) → RowFloor σ b c t → RowFloor σ b' c t
  pub spends : spent_at σ b c + 1 ≤ spent_at σ b' c

-- the operation ends with tag u
pub record Ending (σ : Setup) (c : ℕ) (b b' : Board) (u : Tag) : Type 0 where
  pub waits : is_waiting (console_at b c).state ≡ true
  pub idle : (console_at b' c).state ≡ Idle
  pub held : Held σ (tags b') (key u)
  pub floor : (t : ℕ) → RowFloor σ b c t → t + one (writes (console_at b c).state) ≤ key u
  pub small : Small u
  pub spends : spent_at σ b c + 1 ≤ most σ

-- the outcomes with which an operation goes on in its phase
abbrev pub goes_on : Outcome → Bool
goes_on Refused = false
goes_on Done = false
goes_on Handed = true
goes_on Heard = true
goes_on Turned = false
goes_on (Finished t v) = false
goes_on Discarded = true

pub data Own (σ : Setup) (c : ℕ) (b b' : Board) : Outcome → Type 0 where
  going : {o : Outcome} → goes_on o ≡ true → Going σ c b b' → Own σ c b b' o
  turns_now : Turning σ c b b' → Own σ c b b' Turned
  ends_now : {u : Tag} {v : ℕ} → Ending σ c b b' u → Own σ c b b' (Finished u v)

pub record Effect (K : TagKind) (σ : Setup) (c : ℕ) (b : Board) (a : Answer) : Type 0 where
  pub ok : BoardOk K σ a.board
  pub beside : Beside σ c b a.board
  pub ups : (j : ℕ) → (node_at a.board j).up ≡ (node_at b j).up
  pub own : Own σ c b a.board a.outcome

-- a frame is replaced: the row changes at one place
changed_frame : {σ : Setup} (b : Board) (c k : ℕ) (f : Frame) → Shape σ b → c < 8 → k < 5 → Changed k f (frame_at b c) (frame_at (with_frame b c k f) c)
changed_frame b c k f z h l = record { at = frame_same b z c k f h l; off = λ j _ i. frame_beside b c k j f i }

-- ---- what is at hand when the frame of console c and node k is delivered

pub record Delivery (K : TagKind) (σ : Setup) (b : Board) (c k : ℕ) : Type 0 where
  pub fair : Fair K σ
  pub ok : BoardOk K σ b
  pub c_m : c < σ.m
  pub k_n : k < σ.n

module _ {K : TagKind} {σ : Setup} {b : Board} {c k : ℕ} (d : Delivery K σ b c k) where
  pub c_8 : c < 8
  c_8 = omega (arith, d.ok.shape.allowed.m_8)

  pub k_5 : k < 5
  k_5 = omega (arith, d.ok.shape.allowed.n_5)

  pub five : σ.n ≤ 5
  five = d.ok.shape.allowed.n_5

  pub row_of : RowOk σ (console_at b c) (frame_at b c) (tags b)
  row_of = d.ok.rows c d.c_m

  pub change : (f : Frame) → Changed k f (frame_at b c) (frame_at (with_frame b c k f) c)
  change f = changed_frame b c k f d.ok.shape c_8 k_5

  pub unanswered : is_waiting (console_at b c).state ≡ true → is_nothing (frame_at b c k) ≡ false → member (console_at b c).answered k ≡ false
  unanswered w e = go (waiting_cases (console_at b c).state w)
    where
      go : (is_asking (console_at b c).state ≡ true) ⊎ (is_telling (console_at b c).state ≡ true) → member (console_at b c).answered k ≡ false
      go (inl p) = ask_open (row_of.asking p k d.k_n) e
      go (inr p) = tell_open (row_of.telling p k d.k_n) e

  pub waiting : is_waiting (console_at b c).state ≡ true → WaitsOk σ (console_at b c).state (console_at b c)
  waiting w = waits σ (console_at b c) (console_at b c).state (d.ok.console_in_lem c d.c_m).state w

  pub put_kind : {u : Tag} {v : ℕ} → frame_at b c k ≡ Put u v → K u v
  put_kind e = rw e at (d.ok.tagged.frame c k d.c_m d.k_n)

  pub reply_kind : {u : Tag} {v : ℕ} → frame_at b c k ≡ Reply u v → K u v
  reply_kind e = rw e at (d.ok.tagged.frame c k d.c_m d.k_n)

  pub small_of : (t : Tag) (v : ℕ) → K t v → Small t
  small_of t v i = tag_small σ.m t v d.ok.shape.allowed.m_8 (d.fair.good t v i)

  -- the frames stay of the kind K if the new one is
  pub frames_with : (f : Frame) → FrameHas K f → (j : ℕ) → j < σ.n → FrameHas K (frame_at (with_frame b c k f) c j)
  frames_with f good j l = changed (change f) (λ j f. j < σ.n → FrameHas K f) (λ _. good) (λ j _ _ l. d.ok.tagged.frame c j d.c_m l) j (omega (arith, five)) l

  pub beyond_with : (f : Frame) (j : ℕ) → σ.n ≤ j → j < 5 → frame_at (with_frame b c k f) c j ≡ frame_at b c j
  beyond_with f j l i = frame_beside b c k j f (omega arith)

  -- ---- the frame empties and the console changes: an answer is heard, or finishes

  module _ (x : Console) where
    abbrev pub emptied : Board
    emptied = with_frame b c k Nothing

    pub console_is : console_at (with_console emptied c x) c ≡ x
    console_is = console_same emptied (shape_frame b c k Nothing d.ok.shape) c x c_8

    pub console_side : Beside σ c b (with_console emptied c x)
    console_side = beside_trans (beside_frame b c k Nothing k_5) (beside_console emptied c x)

    pub console_ok_lem : K x.best x.value → Passes σ x.state x → RowOk σ x (frame_at emptied c) (tags b) → BoardOk K σ (with_console emptied c x)
    unfolding frame_at node_at with_console with_frame
    console_ok_lem best good r = kept c b (with_console emptied c x) d.c_m console_side d.ok d.ok.tagged.node (rw console_is best) (rw console_is good)
        (frames_with Nothing tt) (beyond_with Nothing) (same_row σ console_is (λ _ _. refl) r)

    pub console_ups : (j : ℕ) → (node_at (with_console emptied c x) j).up ≡ (node_at b j).up
    unfolding node_at with_console with_frame
    console_ups j = refl

    pub console_going : x.state ≡ (console_at b c).state
        → ((t : ℕ) → RowFloor σ b c t → Floor σ x (frame_at emptied c) (tags b) t)
        → spent_at σ b c + 1 ≤ spent σ x (frame_at emptied c) → Going σ c b (with_console emptied c x)
    unfolding frame_at node_at with_console with_frame
    console_going p f z = record {
      state = rw console_is p;
      floor = λ t g. same_floor σ console_is (λ _ _. refl) (f t g);
      spends = λ _. rw console_is z;
    }
