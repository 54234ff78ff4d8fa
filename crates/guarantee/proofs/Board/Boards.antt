-- What holds of every board that a run reaches (BoardOk), that a step at one console keeps it for the others (Beside, kept),
-- and that such a board is well formed.
use Prim.Native.Nat.{ℕ, ◌≤◌, ◌<◌}
use mathlib.Core.Bool.{Bool, true, false, cond, ◌&&◌}
use mathlib.Core.Logic.{inl, inr, ◌≢◌, ◌⊎◌}
use mathlib.Core.Path.{refl, ◌≡◌, ◌∙◌}
use native.Mathlib.Omega.{arith}
use borrow.Author.Tests.{ltb-true, ltb-false, eqb-true, eqb-false, le-leb}
use lib.Dec.{ltb, leb, eqb}
use Rattle.parts.specs.Limits.{max_life}
use Rattle.parts.specs.Parts.{fresh_node, idle_console, is_idle, is_nothing}
use Rattle.parts.specs.declared.Console.{Console}
use Rattle.parts.specs.declared.Frame.{Frame}
use Rattle.parts.specs.declared.Frame.TheVariants.{Ack, Ask, Nothing, Put, Reply}
use Rattle.parts.specs.declared.Node.{Node}
use Rattle.parts.specs.declared.Setup.{Setup}
use Rattle.parts.specs.declared.State.{State}
use Rattle.parts.specs.declared.Tag.{Tag}
use Rattle.well_formed.specs.Clauses.{cell_ok, console_ok, consoles_allowed, frame_ok, is_zero, mark_ok, node_ok, nodes_allowed, rest_ok, setup_ok, state_ok, tag_ok}
use Rattle.board.specs.Boards.{console_at, frame_at, node_at, with_console, with_frame, with_node, with_row}
use Rattle.board.specs.WellFormed.{well_formed}
use Rattle.board.specs.declared.Board.{Board}
use Rattle.guarantee.proofs.Laws.Tags.{key}
use Rattle.guarantee.proofs.Laws.Sizes.{Allowed}
use Rattle.guarantee.proofs.Laws.States.{both, split}
use Rattle.guarantee.proofs.Board.Shapes.{Shape, console_other, frame_other, node_other, nodes_with, row_other, shape_console, shape_frame, shape_node, shape_row}
use Rattle.guarantee.proofs.Board.Rows.{Backed, Floor, RowOk, grow_row}
use Rattle.guarantee.proofs.Board.Formed.{formed_whole}

abbrev pub tags : Board → ℕ → Tag
tags b k = (node_at b k).tag

-- what is known of every tag and its value
abbrev pub TagKind : Type 1
TagKind = Tag → ℕ → Type 0

-- a frame's tag and value, if it has them
abbrev pub FrameHas : TagKind → Frame → Type 0
FrameHas K Nothing = Unit {0}
FrameHas K Ask = Unit {0}
FrameHas K (Reply t v) = K t v
FrameHas K (Put t v) = K t v
FrameHas K Ack = Unit {0}

-- every tag with its value, in the nodes, the consoles and the frames, is of the kind K
pub record Holds (K : TagKind) (σ : Setup) (b : Board) : Type 0 where
  pub node : (k : ℕ) → k < σ.n → K (node_at b k).tag (node_at b k).value
  pub best : (c : ℕ) → c < σ.m → K (console_at b c).best (console_at b c).value
  pub frame : (c k : ℕ) → c < σ.m → k < σ.n → FrameHas K (frame_at b c k)

-- a console in state s passes the tests of its state, of its mark and of its life
pub record Passes (σ : Setup) (s : State) (x : Console) : Type 0 where
  pub state : state_ok σ x s ≡ true
  pub mark : mark_ok x s ≡ true
  pub life : x.life ≤ max_life

pub record BoardOk (K : TagKind) (σ : Setup) (b : Board) : Type 0 where
  pub shape : Shape σ b
  pub tagged : Holds K σ b
  pub console_in_lem : (c : ℕ) → c < σ.m → Passes σ (console_at b c).state (console_at b c)
  pub node_out : (k : ℕ) → σ.n ≤ k → node_at b k ≡ fresh_node
  pub console_out : (c : ℕ) → σ.m ≤ c → console_at b c ≡ idle_console
  pub frame_out : (c k : ℕ) → k < 5 → (σ.m ≤ c) ⊎ (σ.n ≤ k) → frame_at b c k ≡ Nothing
  pub rows : (c : ℕ) → c < σ.m → RowOk σ (console_at b c) (frame_at b c) (tags b)

-- ---- b' is b but for the row of console c, and for nodes whose tags grow

pub record Beside (σ : Setup) (c : ℕ) (b b' : Board) : Type 0 where
  pub shape : Shape σ b → Shape σ b'
  pub grow : (k : ℕ) → k < σ.n → key (tags b k) ≤ key (tags b' k)
  pub node_out : (k : ℕ) → σ.n ≤ k → node_at b' k ≡ node_at b k
  pub console : (d : ℕ) → d ≢ c → console_at b' d ≡ console_at b d
  pub frame : (d : ℕ) → d ≢ c → (k : ℕ) → k < 5 → frame_at b' d k ≡ frame_at b d k

pub beside_trans : {σ : Setup} {c : ℕ} {b₁ b₂ b₃ : Board} → Beside σ c b₁ b₂ → Beside σ c b₂ b₃ → Beside σ c b₁ b₃
beside_trans p q = record {
  shape = λ z. q.shape (p.shape z);
  grow = λ k l. omega (arith, p.grow k l, q.grow k l);
  node_out = λ k l. q.node_out k l ∙ p.node_out k l;
  console = λ d h. q.console d h ∙ p.console d h;
  frame = λ d h k l. q.frame d h k l ∙ p.frame d h k l;
}

pub beside_same : {σ : Setup} (c : ℕ) (b : Board) → Beside σ c b b
beside_same c b = record { shape = λ z. z; grow = λ _ _. omega arith; node_out = λ _ _. refl; console = λ _ _. refl; frame = λ _ _ _ _. refl }

pub beside_frame : {σ : Setup} (b : Board) (c k : ℕ) (f : Frame) → k < 5 → Beside σ c b (with_frame b c k f)
unfolding with_frame console_at node_at
beside_frame b c k f l = record {
  shape = shape_frame b c k f;
  grow = λ _ _. omega arith;
  node_out = λ _ _. refl;
  console = λ _ _. refl;
  frame = λ d h j i. frame_other b c k d j f h l i;
}

pub beside_console : {σ : Setup} (b : Board) (c : ℕ) (x : Console) → Beside σ c b (with_console b c x)
unfolding with_console frame_at node_at
beside_console b c x = record {
  shape = shape_console b c x;
  grow = λ _ _. omega arith;
  node_out = λ _ _. refl;
  console = λ d h. console_other b c d x h;
  frame = λ _ _ _ _. refl;
}

pub beside_row : {σ : Setup} (b : Board) (c : ℕ) (f : Frame) → Shape σ b → Beside σ c b (with_row b c f)
unfolding with_row console_at node_at
beside_row b c f z = record {
  shape = shape_row b c f;
  grow = λ _ _. omega arith;
  node_out = λ _ _. refl;
  console = λ _ _. refl;
  frame = λ d i k l. row_other b z c d k f i l;
}

pub beside_node : {σ : Setup} (b : Board) (c k : ℕ) (x : Node) → Shape σ b → k < σ.n → key (tags b k) ≤ key x.tag → Beside σ c b (with_node b k x)
unfolding with_node console_at frame_at
beside_node {σ} b c k x z l g = record {
  shape = shape_node b k x;
  grow = λ j _. nodes_with b k x (λ j y. key (tags b j) ≤ key y.tag) z (omega (arith, z.allowed.n_5)) g (λ j _. omega arith) j;
  node_out = λ j h. node_other b k j x (omega arith);
  console = λ _ _. refl;
  frame = λ _ _ _ _. refl;
}

-- ---- rows whose console and frames are the same

pub same_row : (σ : Setup) {x y : Console} {fr fr' : ℕ → Frame} {tg : ℕ → Tag} → y ≡ x → ((k : ℕ) → k < σ.n → fr' k ≡ fr k) → RowOk σ x fr tg → RowOk σ y fr' tg
same_row σ e f h = rw e (record { small = h.small; asking = λ p k l. rw (f k l) (h.asking p k l); telling = λ p k l. rw (f k l) (h.telling p k l) })

pub same_floor : (σ : Setup) {x y : Console} {fr fr' : ℕ → Frame} {tg : ℕ → Tag} {t : ℕ} → y ≡ x → ((k : ℕ) → k < σ.n → fr' k ≡ fr k) → Floor σ x fr tg t → Floor σ y fr' tg t
same_floor σ {x} {y} {fr} {fr'} {tg} {t} e f h = rw e (record { asks = λ p. go (h.asks p); tells = h.tells })
  where
    go : Backed σ x fr tg t → Backed σ x fr' tg t
    go g = record { members = g.members; enough = g.enough; each = λ k l i. rw (f k l) (g.each k l i) }

-- ---- a board is kept: what is left to show is of the console's own row

pub kept : {K : TagKind} {σ : Setup} (c : ℕ) (b b' : Board) → c < σ.m → Beside σ c b b' → BoardOk K σ b
    → ((k : ℕ) → k < σ.n → K (node_at b' k).tag (node_at b' k).value)
    → K (console_at b' c).best (console_at b' c).value
    → Passes σ (console_at b' c).state (console_at b' c)
    → ((k : ℕ) → k < σ.n → FrameHas K (frame_at b' c k))
    → ((k : ℕ) → σ.n ≤ k → k < 5 → frame_at b' c k ≡ frame_at b c k)
    → RowOk σ (console_at b' c) (frame_at b' c) (tags b')
    → BoardOk K σ b'
kept {K} {σ} c b b' cm s h nodes best con frames beyond row = record {
  shape = s.shape h.shape;
  tagged = record {
    node = nodes;
    best = λ d l. at_c (λ d. d < σ.m → K (console_at b' d).best (console_at b' d).value) (λ _. best) (λ d e l. rw (s.console d e) (h.tagged.best d l)) d l;
    frame = λ d k l i. at_c (λ d. d < σ.m → FrameHas K (frame_at b' d k)) (λ _. frames k i) (λ d e l. rw (s.frame d e k (omega (arith, h.shape.allowed.n_5))) (h.tagged.frame d k l i)) d l;
  };
  node_out = λ k l. s.node_out k l ∙ h.node_out k l;
  console_in_lem = λ d l. at_c (λ d. d < σ.m → Passes σ (console_at b' d).state (console_at b' d)) (λ _. con) (λ d e l. rw (s.console d e) (h.console_in_lem d l)) d l;
  console_out = λ d l. s.console d (omega arith) ∙ h.console_out d l;
  frame_out = λ d k l o. at_c (λ d. (σ.m ≤ d) ⊎ (σ.n ≤ k) → frame_at b' d k ≡ Nothing) (own k l) (λ d e o. s.frame d e k l ∙ h.frame_out d k l o) d o;
  rows = λ d l. at_c (λ d. d < σ.m → RowOk σ (console_at b' d) (frame_at b' d) (tags b')) (λ _. row)
      (λ d e l. same_row σ (s.console d e) (λ k i. s.frame d e k (omega (arith, h.shape.allowed.n_5))) (grow_row σ (console_at b d) (frame_at b d) (tags b) (tags b') s.grow (h.rows d l))) d l;
}
  where
    at_c : (P : ℕ → Type 0) → P c → ((d : ℕ) → d ≢ c → P d) → (d : ℕ) → P d
    at_c P a o d = go (eqb d c) refl
      where
        go : (y : Bool) → eqb d c ≡ y → P d
        go true e = rw (eqb-true d c e) a
        go false e = o d (eqb-false d c e)

    own : (k : ℕ) → k < 5 → (σ.m ≤ c) ⊎ (σ.n ≤ k) → frame_at b' c k ≡ Nothing
    own k l (inl q) = absurd (omega arith)
    own k l (inr q) = beyond k q l ∙ h.frame_out c k l (inr q)

-- ---- the same board, of a wider kind

frame_up : {K K' : TagKind} → ((t : Tag) (v : ℕ) → K t v → K' t v) → (f : Frame) → FrameHas K f → FrameHas K' f
frame_up up Nothing h = tt
frame_up up Ask h = tt
frame_up up (Reply t v) h = up t v h
frame_up up (Put t v) h = up t v h
frame_up up Ack h = tt

pub board_up : {K K' : TagKind} {σ : Setup} {b : Board} → ((t : Tag) (v : ℕ) → K t v → K' t v) → BoardOk K σ b → BoardOk K' σ b
board_up {K} {K'} {σ} {b} up h = record {
  shape = h.shape;
  tagged = record {
    node = λ k l. up (node_at b k).tag (node_at b k).value (h.tagged.node k l);
    best = λ c l. up (console_at b c).best (console_at b c).value (h.tagged.best c l);
    frame = λ c k l i. frame_up up (frame_at b c k) (h.tagged.frame c k l i);
  };
  console_in_lem = h.console_in_lem;
  node_out = h.node_out;
  console_out = h.console_out;
  frame_out = h.frame_out;
  rows = h.rows;
}

-- ---- a board that is so is well formed

-- the tags pass question 1
abbrev pub Good : Setup → TagKind
Good σ t v = tag_ok σ.m t v ≡ true

frame_good : (σ : Setup) (f : Frame) → FrameHas (Good σ) f → frame_ok σ f ≡ true
unfolding frame_ok
frame_good σ Nothing h = refl
frame_good σ Ask h = refl
frame_good σ (Reply t v) h = h
frame_good σ (Put t v) h = h
frame_good σ Ack h = refl

setup_good : (σ : Setup) → Allowed σ → setup_ok σ ≡ true
unfolding setup_ok nodes_allowed consoles_allowed
setup_good σ al = both (both (le-leb 1 σ.n al.n_1) (le-leb σ.n 5 al.n_5)) (both (le-leb 1 σ.m al.m_1) (le-leb σ.m 8 al.m_8))

module _ {σ : Setup} (b : Board) (h : BoardOk (Good σ) σ b) where
  node_passes : (k : ℕ) → k < 5 → node_ok σ k (node_at b k) ≡ true
  unfolding node_ok is_zero
  node_passes k l = split (λ x. x ≡ true) (ltb k σ.n) (λ e. h.tagged.node k (omega (arith, ltb-true))) (λ e. rw (h.node_out k (omega (arith, ltb-false))))

  console_passes : (c : ℕ) → c < 8 → console_ok σ c (console_at b c) ≡ true
  unfolding console_ok rest_ok is_zero mark_ok
  console_passes c l = go (ltb c σ.m) refl
    where
      go : (x : Bool) → ltb c σ.m ≡ x
          → (mark_ok (console_at b c) (console_at b c).state && leb (console_at b c).life max_life && cond x (tag_ok σ.m (console_at b c).best (console_at b c).value && state_ok σ (console_at b c) (console_at b c).state) (is_idle (console_at b c).state && rest_ok (console_at b c) && eqb (console_at b c).life 0)) ≡ true
      go true e =
          let p = h.console_in_lem c (omega (arith, ltb-true)) in
          both (both p.mark (le-leb (console_at b c).life max_life p.life)) (both (h.tagged.best c (omega (arith, ltb-true))) p.state)
      go false e = rw (h.console_out c (omega (arith, ltb-false)))

  cell_passes : (c k : ℕ) → c < 8 → k < 5 → cell_ok σ c k (frame_at b c k) ≡ true
  unfolding cell_ok
  cell_passes c k l i = go (ltb c σ.m) refl (ltb k σ.n) refl
    where
      go : (x : Bool) → ltb c σ.m ≡ x → (y : Bool) → ltb k σ.n ≡ y → cond (x && y) (frame_ok σ (frame_at b c k)) (is_nothing (frame_at b c k)) ≡ true
      go true e true f = frame_good σ (frame_at b c k) (h.tagged.frame c k (omega (arith, ltb-true)) (omega (arith, ltb-true)))
      go true e false f = rw (h.frame_out c k i (inr (omega (arith, ltb-false))))
      go false e y f = rw (h.frame_out c k i (inl (omega (arith, ltb-false))))

  pub board_formed : well_formed b ≡ true
  board_formed = formed_whole b (record { setup_is = h.shape.setup_is; setup = setup_good σ h.shape.allowed; node = node_passes; console = console_passes; cell = cell_passes })
