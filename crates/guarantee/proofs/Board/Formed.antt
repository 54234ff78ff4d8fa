-- Well-formedness part by part, and that a board with one part changed stays well formed if the new part passes its clause.
-- The lists may have any length: a change beyond a list's end changes nothing.
use Prim.Native.Nat.{ℕ, zero, suc, ◌+◌, ◌*◌, ◌≤◌, ◌<◌}
use mathlib.Core.Bool.{Bool, true, ◌&&◌}
use mathlib.Core.List.{List, [], ◌∷◌}
use mathlib.Core.Path.{refl, sym, subst, ◌≡◌}
use native.Mathlib.Omega.{arith}
use borrow.Author.Tests.{leb-true}
use lib.Dec.{leb}
use lib.ListN.{get_or, set}
use Rattle.parts.proofs.FiniteLaws.{and_left, and_right}
use Rattle.parts.specs.Finite.{every}
use Rattle.parts.specs.Parts.{cell_of, console_in, frame_in, fresh_node, idle_console, node_in, cell_index, set_frame, set_row}
use Rattle.parts.specs.declared.Cell.{Cell}
use Rattle.parts.specs.declared.Console.{Console}
use Rattle.parts.specs.declared.Frame.{Frame}
use Rattle.parts.specs.declared.Frame.TheVariants.{Nothing}
use Rattle.parts.specs.declared.Node.{Node}
use Rattle.parts.specs.declared.Setup.{Setup}
use Rattle.well_formed.specs.Clauses.{cell_ok, cells_ok, console_ok, consoles_allowed, consoles_ok, node_ok, nodes_allowed, nodes_ok, row_ok, setup_ok}
use Rattle.board.proofs.WellFormedLaws.{cell_passes, console_passes, node_passes, setup_part}
use Rattle.board.specs.Boards.{console_at, frame_at, node_at, with_console, with_frame, with_node, with_row}
use Rattle.board.specs.WellFormed.{well_formed}
use Rattle.board.specs.declared.Board.{Board}
use Rattle.guarantee.proofs.Laws.Sizes.{Allowed}
use Rattle.guarantee.proofs.Laws.States.{both}

-- every part of a board made under σ passes its clause
pub record Formed (σ : Setup) (b : Board) : Type 0 where
  pub setup_is : b.setup ≡ σ
  pub setup : setup_ok σ ≡ true
  pub node : (k : ℕ) → k < 5 → node_ok σ k (node_at b k) ≡ true
  pub console : (c : ℕ) → c < 8 → console_ok σ c (console_at b c) ≡ true
  pub cell : (c k : ℕ) → c < 8 → k < 5 → cell_ok σ c k (frame_at b c k) ≡ true

-- ---- that is what board_formed says

-- a well-formed board has it
pub formed : (b : Board) → well_formed b ≡ true → Formed b.setup b
formed b h = record { setup_is = refl; setup = setup_part b h; node = node_passes b h; console = console_passes b h; cell = cell_passes b h }

-- what holds of each number below n passes the test of all
every_all : (n : ℕ) (p : ℕ → Bool) → ((k : ℕ) → k < n → p k ≡ true) → every n p ≡ true
unfolding every
every_all zero p h = refl
every_all (suc n) p h = both (every_all n p (λ k l. h k (omega arith))) (h n (omega arith))

module _ {σ : Setup} (b : Board) (h : Formed σ b) where
  passes : (setup_ok σ && nodes_ok σ b.nodes && consoles_ok σ b.consoles && cells_ok σ b.cells) ≡ true
  unfolding nodes_ok consoles_ok cells_ok row_ok node_at console_at frame_at
  passes = both (both (both h.setup (every_all 5 (λ k. node_ok σ k (node_at b k)) h.node))
      (every_all 8 (λ c. console_ok σ c (console_at b c)) h.console))
      (every_all 8 (λ c. every 5 (λ k. cell_ok σ c k (frame_at b c k))) (λ c l. every_all 5 (λ k. cell_ok σ c k (frame_at b c k)) (λ k i. h.cell c k l i)))

  -- and a board that has it is well formed
  pub formed_whole : well_formed b ≡ true
  unfolding well_formed
  formed_whole = subst (λ (τ : Setup). (setup_ok τ && nodes_ok τ b.nodes && consoles_ok τ b.consoles && cells_ok τ b.cells) ≡ true) (sym h.setup_is) passes

-- the numbers of the setup are in range
pub setup_allowed : (σ : Setup) → setup_ok σ ≡ true → Allowed σ
unfolding setup_ok nodes_allowed consoles_allowed
setup_allowed σ h =
    let n = and_left (leb 1 σ.n && leb σ.n 5) _ h in
    let m = and_right (leb 1 σ.n && leb σ.n 5) _ h in
    record {
      n_1 = leb-true 1 σ.n (and_left (leb 1 σ.n) _ n);
      n_5 = leb-true σ.n 5 (and_right (leb 1 σ.n) _ n);
      m_1 = leb-true 1 σ.m (and_left (leb 1 σ.m) _ m);
      m_8 = leb-true σ.m 8 (and_right (leb 1 σ.m) _ m);
    }

-- ---- a change in a list

-- what holds of the new element, and of all as they were, holds of all
set_all : {A : Type 0} (P : ℕ → A → Type 0) (xs : List A) (k : ℕ) (x d : A) → P k x → ((j : ℕ) → P j (get_or xs j d)) → (j : ℕ) → P j (get_or (set xs k x) j d)
set_all P [] k x d h o j = o j
set_all P (y ∷ ys) zero x d h o zero = h
set_all P (y ∷ ys) zero x d h o (suc j) = o (suc j)
set_all P (y ∷ ys) (suc k) x d h o zero = o zero
set_all P (y ∷ ys) (suc k) x d h o (suc j) = set_all (λ j. P (suc j)) ys k x d h (λ j. o (suc j)) j

-- all cells pass their clause
abbrev Cells : Setup → List Cell → Type 0
Cells σ xs = (c k : ℕ) → c < 8 → k < 5 → cell_ok σ c k (frame_in xs c k) ≡ true

-- one frame changes
cells_frame : (σ : Setup) (xs : List Cell) (c k : ℕ) (f : Frame) → k < 5 → cell_ok σ c k f ≡ true → Cells σ xs → Cells σ (set_frame xs c k f)
unfolding set_frame frame_in cell_index
cells_frame σ xs c k f l p h d j e i = set_all (λ q (y : Cell). q ≡ d * 5 + j → cell_ok σ d j y.frame ≡ true) xs (c * 5 + k) (cell_of f) (cell_of Nothing) own (λ q z. rw z (h d j e i)) (d * 5 + j) refl
  where
    own : c * 5 + k ≡ d * 5 + j → cell_ok σ d j f ≡ true
    own z =
        let same-c : d ≡ c = omega arith in
        let same-k : j ≡ k = omega arith in
        rw (same-c, same-k) p

-- the first n frames of a row change
cells_row : (σ : Setup) (xs : List Cell) (c n : ℕ) (f : Frame) → n ≤ 5 → ((k : ℕ) → k < n → cell_ok σ c k f ≡ true) → Cells σ xs → Cells σ (set_row xs c n f)
unfolding set_row
cells_row σ xs c zero f l p h = h
cells_row σ xs c (suc n) f l p h = cells_frame σ (set_row xs c n f) c n f (omega arith) (p n (omega arith)) (cells_row σ xs c n f (omega arith) (λ k i. p k (omega arith)) h)

-- ---- a board with one part changed: each keeps it if the new part passes its clause

pub formed_node : {σ : Setup} (b : Board) (k : ℕ) (x : Node) → node_ok σ k x ≡ true → Formed σ b → Formed σ (with_node b k x)
unfolding with_node node_at node_in console_at frame_at
formed_node {σ} b k x p h = record {
  setup_is = h.setup_is;
  setup = h.setup;
  node = set_all (λ j y. j < 5 → node_ok σ j y ≡ true) b.nodes k x fresh_node (λ _. p) h.node;
  console = h.console;
  cell = h.cell;
}

pub formed_console : {σ : Setup} (b : Board) (c : ℕ) (x : Console) → console_ok σ c x ≡ true → Formed σ b → Formed σ (with_console b c x)
unfolding with_console node_at console_at console_in frame_at
formed_console {σ} b c x p h = record {
  setup_is = h.setup_is;
  setup = h.setup;
  node = h.node;
  console = set_all (λ d y. d < 8 → console_ok σ d y ≡ true) b.consoles c x idle_console (λ _. p) h.console;
  cell = h.cell;
}

pub formed_frame : {σ : Setup} (b : Board) (c k : ℕ) (f : Frame) → k < 5 → cell_ok σ c k f ≡ true → Formed σ b → Formed σ (with_frame b c k f)
unfolding with_frame node_at console_at frame_at
formed_frame {σ} b c k f l p h = record {
  setup_is = h.setup_is;
  setup = h.setup;
  node = h.node;
  console = h.console;
  cell = cells_frame σ b.cells c k f l p h.cell;
}

pub formed_row : {σ : Setup} (b : Board) (c : ℕ) (f : Frame) → b.setup.n ≤ 5 → ((k : ℕ) → k < b.setup.n → cell_ok σ c k f ≡ true) → Formed σ b → Formed σ (with_row b c f)
unfolding with_row node_at console_at frame_at
formed_row {σ} b c f l p h = record {
  setup_is = h.setup_is;
  setup = h.setup;
  node = h.node;
  console = h.console;
  cell = cells_row σ b.cells c b.setup.n f l p h.cell;
}
