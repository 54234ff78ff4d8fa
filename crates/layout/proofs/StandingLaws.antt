-- What words that stand for a board give, and that it is the first words that count.
use Rattle.std.proofs.Common.{ℕ, ◌≤◌, ◌<◌, Bool, true, false, ◌&&◌, List, length, take, drop, eqb, leb, ◌≡◌, sym, arith}
use Rattle.std.proofs.lemmas.List.{get_or-take}
use Rattle.std.proofs.Math.Bool.{and-false}
use borrow.Author.Tests.{eqb-true, leb-true, le-leb, lt-leb}
use Rattle.parts.proofs.FiniteLaws.{and_left, and_right}
use Rattle.layout.specs.InWords.{all_stand}
use Rattle.layout.specs.Layout.{board_words, layout_version, word, node_words, console_words, cell_words, node_offset, console_offset, cell_offset, node_from, console_from, cell_from, setup_from, board_in}
use Rattle.layout.specs.Standing.{release_stands, setup_stands, node_stands, console_stands, cell_stands, parts_stand, stands, decoded}
use Rattle.board.specs.Boards.{no_board}
use Rattle.parts.specs.Limits.{max_nodes, max_consoles, max_cells}
use Rattle.layout.proofs.Rows.{from_first, stand_first}

module _ (w : List ℕ) where
  -- of words the first ones are read as a board
  board_first : board_in (take board_words w) ≡ board_in w
  unfolding board_in setup_from
  board_first = rw (
    get_or-take board_words w 0 0 (omega arith),
    get_or-take board_words w 1 0 (omega arith),
    get_or-take board_words w 2 0 (omega arith),
    from_first node_words max_nodes (node_offset 0) board_words w (omega arith) node_from,
    from_first console_words max_consoles (console_offset 0) board_words w (omega arith) console_from,
    from_first cell_words max_cells (cell_offset 0) board_words w (omega arith) cell_from,
  )

  parts_first : parts_stand (take board_words w) ≡ parts_stand w
  unfolding parts_stand setup_stands
  parts_first = rw (
    get_or-take board_words w 2 0 (omega arith),
    get_or-take board_words w 3 0 (omega arith),
    stand_first node_words max_nodes (node_offset 0) board_words w (omega arith) node_stands,
    stand_first console_words max_consoles (console_offset 0) board_words w (omega arith) console_stands,
    stand_first cell_words max_cells (cell_offset 0) board_words w (omega arith) cell_stands,
  )

  -- so it is decoded from them, if they are enough and its parts stand in them
  pub first_decoded : (u : List ℕ) → board_words ≤ length w → u ≡ take board_words w → parts_stand u ≡ true → board_in u ≡ decoded w
  unfolding decoded stands
  first_decoded u l e h = rw (le-leb board_words (length w) l, sym parts_first, sym e, h, e) board_first

  pub first_damaged : (u : List ℕ) → u ≡ take board_words w → parts_stand u ≡ false → no_board ≡ decoded w
  unfolding decoded stands
  first_damaged u e h = rw (sym parts_first, sym e, h, and-false (leb board_words (length w)))

  pub too_few : length w < board_words → no_board ≡ decoded w
  unfolding decoded stands
  too_few l = rw (lt-leb board_words (length w) l)

-- what words that stand for a board give: they are enough, and each part stands
module _ (w : List ℕ) (h : stands w ≡ true) where
  pub standing_long : board_words ≤ length w
  unfolding stands
  standing_long = leb-true board_words (length w) (and_left (leb board_words (length w)) (parts_stand w) h)

  abbrev nodes : Bool
  nodes = all_stand node_stands node_words max_nodes (drop (node_offset 0) w)

  abbrev consoles : Bool
  consoles = all_stand console_stands console_words max_consoles (drop (console_offset 0) w)

  abbrev cells : Bool
  cells = all_stand cell_stands cell_words max_cells (drop (cell_offset 0) w)

  parts : (setup_stands w && nodes && consoles && cells) ≡ true
  unfolding stands parts_stand
  parts = and_right (leb board_words (length w)) (parts_stand w) h

  before_cells : (setup_stands w && nodes && consoles) ≡ true
  before_cells = and_left (setup_stands w && nodes && consoles) cells parts

  before_consoles : (setup_stands w && nodes) ≡ true
  before_consoles = and_left (setup_stands w && nodes) consoles before_cells

  setup_standing : setup_stands w ≡ true
  setup_standing = and_left (setup_stands w) nodes before_consoles

  pub release_standing : release_stands (word w 2) ≡ true
  unfolding setup_stands
  release_standing = and_left (release_stands (word w 2)) (eqb (word w 3) layout_version) setup_standing

  pub version_standing : word w 3 ≡ layout_version
  unfolding setup_stands
  version_standing = eqb-true (word w 3) layout_version (and_right (release_stands (word w 2)) (eqb (word w 3) layout_version) setup_standing)

  pub nodes_standing : nodes ≡ true
  nodes_standing = and_right (setup_stands w) nodes before_consoles

  pub consoles_standing : consoles ≡ true
  consoles_standing = and_right (setup_stands w && nodes) consoles before_cells

  pub cells_standing : cells ≡ true
  cells_standing = and_right (setup_stands w && nodes && consoles) cells parts
