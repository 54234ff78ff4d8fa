-- What a well-formed board gives the steps: its sizes are within the limits, and every two tags that a delivery
-- compares may be compared.
use Prim.Native.Nat.{ℕ, ◌≤◌, ◌<◌}
use mathlib.Core.Bool.{true, ◌&&◌}
use mathlib.Core.Path.{◌≡◌}
use native.Mathlib.Omega.{arith}
use borrow.Author.Tests.{leb-true, ltb-true, lt-ltb}
use lib.Dec.{leb, ltb}
use Rattle.parts.specs.declared.Tag.{Tag}
use Rattle.parts.specs.declared.Setup.{Setup}
use Rattle.parts.specs.Limits.{max_ts, max_life}
use Rattle.parts.proofs.TagsLaws.{Small}
use Rattle.parts.proofs.FiniteLaws.{and_left, and_right, every_at}
use Rattle.well_formed.specs.Clauses.{nodes_allowed, consoles_allowed, setup_ok, tag_ok, node_ok, nodes_ok, mark_ok, console_ok, consoles_ok, frame_ok, cell_ok, row_ok, cells_ok}
use Rattle.decisions.specs.Comparable.{Comparable}
use Rattle.board.specs.declared.Board.{Board}
use Rattle.board.specs.Boards.{node_at, console_at, frame_at}
use Rattle.board.specs.WellFormed.{well_formed}

pub tag_small : (m : ℕ) (t : Tag) (v : ℕ) → m ≤ 8 → tag_ok m t v ≡ true → Small t
unfolding tag_ok
tag_small m t v most h = record {
  console_8 = omega (arith, most, ltb-true t.console m (and_right (leb t.ts max_ts) _ (and_left (leb t.ts max_ts && ltb t.console m) _ before)));
  life_fits = omega (arith, leb-true t.life max_life (and_right (leb t.ts max_ts && ltb t.console m) _ before));
}
  where
    before : (leb t.ts max_ts && ltb t.console m && leb t.life max_life) ≡ true
    before = and_left (leb t.ts max_ts && ltb t.console m && leb t.life max_life) _ h

module _ (b : Board) (h : well_formed b ≡ true) where
  three_parts : (setup_ok b.setup && nodes_ok b.setup b.nodes && consoles_ok b.setup b.consoles) ≡ true
  unfolding well_formed
  three_parts = and_left (setup_ok b.setup && nodes_ok b.setup b.nodes && consoles_ok b.setup b.consoles) _ h

  two_parts : (setup_ok b.setup && nodes_ok b.setup b.nodes) ≡ true
  two_parts = and_left (setup_ok b.setup && nodes_ok b.setup b.nodes) _ three_parts

  pub setup_part : setup_ok b.setup ≡ true
  setup_part = and_left (setup_ok b.setup) _ two_parts

  nodes_part : nodes_ok b.setup b.nodes ≡ true
  nodes_part = and_right (setup_ok b.setup) _ two_parts

  consoles_part : consoles_ok b.setup b.consoles ≡ true
  consoles_part = and_right (setup_ok b.setup && nodes_ok b.setup b.nodes) _ three_parts

  cells_part : cells_ok b.setup b.cells ≡ true
  unfolding well_formed
  cells_part = and_right (setup_ok b.setup && nodes_ok b.setup b.nodes && consoles_ok b.setup b.consoles) _ h

  pub n_at_most : b.setup.n ≤ 5
  unfolding setup_ok nodes_allowed
  n_at_most = leb-true b.setup.n 5 (and_right (leb 1 b.setup.n) _ (and_left (leb 1 b.setup.n && leb b.setup.n 5) _ setup_part))

  pub n_at_least : 1 ≤ b.setup.n
  unfolding setup_ok nodes_allowed
  n_at_least = leb-true 1 b.setup.n (and_left (leb 1 b.setup.n) _ (and_left (leb 1 b.setup.n && leb b.setup.n 5) _ setup_part))

  pub m_at_most : b.setup.m ≤ 8
  unfolding setup_ok consoles_allowed nodes_allowed
  m_at_most = leb-true b.setup.m 8 (and_right (leb 1 b.setup.m) _ (and_right (leb 1 b.setup.n && leb b.setup.n 5) _ setup_part))

  pub m_at_least : 1 ≤ b.setup.m
  unfolding setup_ok consoles_allowed nodes_allowed
  m_at_least = leb-true 1 b.setup.m (and_left (leb 1 b.setup.m) _ (and_right (leb 1 b.setup.n && leb b.setup.n 5) _ setup_part))

  -- ---- each part passes its clause

  pub node_passes : (k : ℕ) → k < 5 → node_ok b.setup k (node_at b k) ≡ true
  unfolding nodes_ok node_at
  node_passes = every_at (λ k. node_ok b.setup k (node_at b k)) 5 nodes_part

  pub console_passes : (c : ℕ) → c < 8 → console_ok b.setup c (console_at b c) ≡ true
  unfolding consoles_ok console_at
  console_passes = every_at (λ c. console_ok b.setup c (console_at b c)) 8 consoles_part

  pub cell_passes : (c k : ℕ) → c < 8 → k < 5 → cell_ok b.setup c k (frame_at b c k) ≡ true
  unfolding cells_ok row_ok frame_at
  cell_passes c k l i = every_at (λ k. cell_ok b.setup c k (frame_at b c k)) 5 (every_at (row_ok b.setup b.cells) 8 cells_part c l) k i

  module _ (c k : ℕ) (cm : c < b.setup.m) (kn : k < b.setup.n) where
    node_tag : tag_ok b.setup.m (node_at b k).tag (node_at b k).value ≡ true
    unfolding node_ok
    node_tag = rw (lt-ltb k b.setup.n kn) at (node_passes k (omega (arith, n_at_most)))

    best_tag : tag_ok b.setup.m (console_at b c).best (console_at b c).value ≡ true
    unfolding console_ok
    best_tag =
        let passes = rw (lt-ltb c b.setup.m cm) at (console_passes c (omega (arith, m_at_most))) in
        and_left (tag_ok b.setup.m (console_at b c).best (console_at b c).value) _ (and_right (mark_ok (console_at b c) (console_at b c).state && leb (console_at b c).life max_life) _ passes)

    frame_passes : frame_ok b.setup (frame_at b c k) ≡ true
    unfolding cell_ok
    frame_passes = rw (lt-ltb c b.setup.m cm, lt-ltb k b.setup.n kn) at (cell_passes c k (omega (arith, m_at_most)) (omega (arith, n_at_most)))

    -- the tags that a delivery compares may be compared
    pub comparable : Comparable c k (console_at b c) (node_at b k) (frame_at b c k)
    unfolding frame_ok
    comparable = record {
      c_8 = omega (arith, m_at_most);
      k_8 = omega (arith, n_at_most);
      best_8 = (tag_small b.setup.m (console_at b c).best (console_at b c).value m_at_most best_tag).console_8;
      node_8 = (tag_small b.setup.m (node_at b k).tag (node_at b k).value m_at_most node_tag).console_8;
      reply_8 = λ t v e. (tag_small b.setup.m t v m_at_most (rw e at frame_passes)).console_8;
      put_8 = λ t v e. (tag_small b.setup.m t v m_at_most (rw e at frame_passes)).console_8;
    }
