-- Boards of the right size made under a setup, and what is seen at a place after a change: the same place, another place.
use Prim.Native.Nat.{ℕ, zero, suc, ◌+◌, ◌*◌, ◌≤◌, ◌<◌}
use mathlib.Core.Bool.{Bool, true, false}
use mathlib.Core.List.{List}
use mathlib.Core.Logic.{◌≢◌}
use mathlib.Core.Path.{refl, ap, ◌≡◌, ◌∙◌}
use native.Mathlib.Omega.{arith}
use borrow.Author.Tests.{eqb-true, eqb-false}
use lib.Dec.{eqb}
use lib.ListN.{length, length-set}
use lib.Seq.{get_or-set_same, get_or-set_other}
use Rattle.parts.specs.Parts.{cell_of, console_in, frame_in, fresh_node, idle_console, node_in, cell_index, set_frame, set_row}
use Rattle.parts.specs.declared.Cell.{Cell}
use Rattle.parts.specs.declared.Console.{Console}
use Rattle.parts.specs.declared.Frame.{Frame}
use Rattle.parts.specs.declared.Frame.TheVariants.{Nothing}
use Rattle.parts.specs.declared.Node.{Node}
use Rattle.parts.specs.declared.Setup.{Setup}
use Rattle.board.specs.Boards.{console_at, frame_at, node_at, with_console, with_frame, with_node, with_row}
use Rattle.board.specs.declared.Board.{Board}
use Rattle.guarantee.proofs.Laws.Sizes.{Allowed}

pub record Shape (σ : Setup) (b : Board) : Type 0 where
  pub setup_is : b.setup ≡ σ
  pub allowed : Allowed σ
  pub nodes_5 : length b.nodes ≡ 5
  pub consoles_8 : length b.consoles ≡ 8
  pub cells_40 : length b.cells ≡ 40

pub n_is : {σ : Setup} {b : Board} → Shape σ b → b.setup.n ≡ σ.n
n_is z = ap (λ (y : Setup). y.n) z.setup_is

pub m_is : {σ : Setup} {b : Board} → Shape σ b → b.setup.m ≡ σ.m
m_is z = ap (λ (y : Setup). y.m) z.setup_is

-- ---- nodes and consoles

module _ {σ : Setup} (b : Board) (z : Shape σ b) where
  pub node_same : (k : ℕ) (x : Node) → k < 5 → node_at (with_node b k x) k ≡ x
  unfolding node_at node_in with_node
  node_same k x h = get_or-set_same b.nodes k x fresh_node (omega arith)

  pub console_same : (c : ℕ) (x : Console) → c < 8 → console_at (with_console b c x) c ≡ x
  unfolding console_at console_in with_console
  console_same c x h = get_or-set_same b.consoles c x idle_console (omega arith)

pub node_other : (b : Board) (k j : ℕ) (x : Node) → j ≢ k → node_at (with_node b k x) j ≡ node_at b j
unfolding node_at node_in with_node
node_other b k j x h = get_or-set_other b.nodes k j x fresh_node h

pub console_other : (b : Board) (c d : ℕ) (x : Console) → d ≢ c → console_at (with_console b c x) d ≡ console_at b d
unfolding console_at console_in with_console
console_other b c d x h = get_or-set_other b.consoles c d x idle_console h

-- what holds of the new node, and of the others as they were, holds of all
pub nodes_with : {σ : Setup} (b : Board) (k : ℕ) (x : Node) (P : ℕ → Node → Type 0) → Shape σ b → k < 5 → P k x
    → ((j : ℕ) → j ≢ k → P j (node_at b j)) → (j : ℕ) → P j (node_at (with_node b k x) j)
nodes_with b k x P z l h o j = go (eqb j k) refl
  where
    go : (y : Bool) → eqb j k ≡ y → P j (node_at (with_node b k x) j)
    go true e = rw (eqb-true j k e, node_same b z k x l) h
    go false e = rw (node_other b k j x (eqb-false j k e)) (o j (eqb-false j k e))

-- ---- cells

frame_set_same : (xs : List Cell) (c k : ℕ) (f : Frame) → length xs ≡ 40 → c < 8 → k < 5 → frame_in (set_frame xs c k f) c k ≡ f
unfolding frame_in set_frame cell_index
frame_set_same xs c k f z h i = ap (λ (x : Cell). x.frame) (get_or-set_same xs (c * 5 + k) (cell_of f) (cell_of Nothing) (omega arith))

frame_set_apart : (xs : List Cell) (c k d j : ℕ) (f : Frame) → cell_index d j ≢ cell_index c k → frame_in (set_frame xs c k f) d j ≡ frame_in xs d j
unfolding frame_in set_frame
frame_set_apart xs c k d j f h = ap (λ (x : Cell). x.frame) (get_or-set_other xs (cell_index c k) (cell_index d j) (cell_of f) (cell_of Nothing) h)

-- another node's frame of the same row
frame_set_beside : (xs : List Cell) (c k j : ℕ) (f : Frame) → j ≢ k → frame_in (set_frame xs c k f) c j ≡ frame_in xs c j
unfolding cell_index
frame_set_beside xs c k j f h = frame_set_apart xs c k c j f (omega arith)

-- another console's row
frame_set_other : (xs : List Cell) (c k d j : ℕ) (f : Frame) → d ≢ c → k < 5 → j < 5 → frame_in (set_frame xs c k f) d j ≡ frame_in xs d j
unfolding cell_index
frame_set_other xs c k d j f h hk hj = frame_set_apart xs c k d j f (omega arith)

length_frame : (xs : List Cell) (c k : ℕ) (f : Frame) → length (set_frame xs c k f) ≡ length xs
unfolding set_frame
length_frame xs c k f = length-set xs (cell_index c k) (cell_of f)

length_row : (xs : List Cell) (c n : ℕ) (f : Frame) → length (set_row xs c n f) ≡ length xs
unfolding set_row
length_row xs c zero f = refl
length_row xs c (suc n) f = length_frame (set_row xs c n f) c n f ∙ length_row xs c n f

row_set_same : (xs : List Cell) (c n k : ℕ) (f : Frame) → length xs ≡ 40 → n ≤ 5 → c < 8 → k < n → frame_in (set_row xs c n f) c k ≡ f
unfolding set_row
row_set_same xs c zero k f z h i l = absurd (omega arith)
row_set_same xs c (suc n) k f z h i l = go (row_set_same xs c n k f z) (eqb k n) refl
  where
    go : (n ≤ 5 → c < 8 → k < n → frame_in (set_row xs c n f) c k ≡ f) → (x : Bool) → eqb k n ≡ x → frame_in (set_frame (set_row xs c n f) c n f) c k ≡ f
    go rest true e = rw (eqb-true k n e) (frame_set_same (set_row xs c n f) c n f (length_row xs c n f ∙ z) i (omega arith))
    go rest false e = frame_set_beside (set_row xs c n f) c n k f (eqb-false k n e) ∙ rest (omega arith) i (omega (arith, eqb-false k n e))

row_set_beyond : (xs : List Cell) (c n k : ℕ) (f : Frame) → n ≤ k → frame_in (set_row xs c n f) c k ≡ frame_in xs c k
unfolding set_row
row_set_beyond xs c zero k f h = refl
row_set_beyond xs c (suc n) k f h = frame_set_beside (set_row xs c n f) c n k f (omega arith) ∙ row_set_beyond xs c n k f (omega arith)

row_set_other : (xs : List Cell) (c n d k : ℕ) (f : Frame) → n ≤ 5 → d ≢ c → k < 5 → frame_in (set_row xs c n f) d k ≡ frame_in xs d k
unfolding set_row
row_set_other xs c zero d k f h i l = refl
row_set_other xs c (suc n) d k f h i l = frame_set_other (set_row xs c n f) c n d k f i (omega arith) l ∙ row_set_other xs c n d k f (omega arith) i l

-- ---- frames of a board

module _ {σ : Setup} (b : Board) (z : Shape σ b) where
  pub frame_same : (c k : ℕ) (f : Frame) → c < 8 → k < 5 → frame_at (with_frame b c k f) c k ≡ f
  unfolding frame_at with_frame
  frame_same c k f h i = frame_set_same b.cells c k f z.cells_40 h i

  pub row_same : (c k : ℕ) (f : Frame) → c < σ.m → k < σ.n → frame_at (with_row b c f) c k ≡ f
  unfolding frame_at with_row
  row_same c k f h i = row_set_same b.cells c b.setup.n k f z.cells_40 (omega (arith, n_is z, z.allowed.n_5)) (omega (arith, z.allowed.m_8)) (omega (arith, n_is z))

  pub row_beyond : (c k : ℕ) (f : Frame) → σ.n ≤ k → frame_at (with_row b c f) c k ≡ frame_at b c k
  unfolding frame_at with_row
  row_beyond c k f h = row_set_beyond b.cells c b.setup.n k f (omega (arith, n_is z))

  pub row_other : (c d k : ℕ) (f : Frame) → d ≢ c → k < 5 → frame_at (with_row b c f) d k ≡ frame_at b d k
  unfolding frame_at with_row
  row_other c d k f h i = row_set_other b.cells c b.setup.n d k f (omega (arith, n_is z, z.allowed.n_5)) h i

pub frame_beside : (b : Board) (c k j : ℕ) (f : Frame) → j ≢ k → frame_at (with_frame b c k f) c j ≡ frame_at b c j
unfolding frame_at with_frame
frame_beside b c k j f h = frame_set_beside b.cells c k j f h

pub frame_other : (b : Board) (c k d j : ℕ) (f : Frame) → d ≢ c → k < 5 → j < 5 → frame_at (with_frame b c k f) d j ≡ frame_at b d j
unfolding frame_at with_frame
frame_other b c k d j f h hk hj = frame_set_other b.cells c k d j f h hk hj

-- ---- a change keeps the sizes

pub shape_frame : {σ : Setup} (b : Board) (c k : ℕ) (f : Frame) → Shape σ b → Shape σ (with_frame b c k f)
unfolding with_frame
shape_frame b c k f z = record { setup_is = z.setup_is; allowed = z.allowed; nodes_5 = z.nodes_5; consoles_8 = z.consoles_8; cells_40 = length_frame b.cells c k f ∙ z.cells_40 }

pub shape_row : {σ : Setup} (b : Board) (c : ℕ) (f : Frame) → Shape σ b → Shape σ (with_row b c f)
unfolding with_row
shape_row b c f z = record { setup_is = z.setup_is; allowed = z.allowed; nodes_5 = z.nodes_5; consoles_8 = z.consoles_8; cells_40 = length_row b.cells c b.setup.n f ∙ z.cells_40 }

pub shape_console : {σ : Setup} (b : Board) (c : ℕ) (x : Console) → Shape σ b → Shape σ (with_console b c x)
unfolding with_console
shape_console b c x z = record { setup_is = z.setup_is; allowed = z.allowed; nodes_5 = z.nodes_5; consoles_8 = length-set b.consoles c x ∙ z.consoles_8; cells_40 = z.cells_40 }

pub shape_node : {σ : Setup} (b : Board) (k : ℕ) (x : Node) → Shape σ b → Shape σ (with_node b k x)
unfolding with_node
shape_node b k x z = record { setup_is = z.setup_is; allowed = z.allowed; nodes_5 = length-set b.nodes k x ∙ z.nodes_5; consoles_8 = z.consoles_8; cells_40 = z.cells_40 }
