-- A board that was written is read as it was: each kind of part is (Rows), and stands after those before it.
use Rattle.std.proofs.Common.{ℕ, ◌*◌, ◌≤◌, true, List, [], ◌++◌, length, drop, ◌≡◌, refl, sym, ap, ◌∙◌, arith}
use Rattle.std.proofs.lemmas.List.{append_assoc, append-nil, length-append, drop_at, drop_all}
use Rattle.std.proofs.lemmas.List.Edits.{sets, sets-eq}
use Rattle.std.proofs.Math.Seq.{length-sets}
use Rattle.std.specs.List.{flat_map}
use borrow.Author.Tests.{le-leb}
use Rattle.parts.specs.Limits.{max_nodes, max_consoles, max_cells}
use Rattle.board.specs.declared.Board.{Board}
use Rattle.layout.specs.InWords.{all_from, all_stand}
use Rattle.layout.specs.Layout.{Typed, board_words, setup_words, node_words, console_words, cell_words, node_offset, console_offset, cell_offset, setup_from, node_from, console_from, cell_from, board_in, setup_fields, node_fields, console_fields, cell_fields, board_fields, encoded}
use Rattle.layout.specs.Wide.{node_wide, console_wide, cell_wide}
use Rattle.layout.specs.Standing.{setup_stands, node_stands, console_stands, cell_stands, parts_stand, stands, decoded}
use Rattle.layout.proofs.PartsBack.{release_back, release_standing, node_laws, console_laws, cell_laws}
use Rattle.layout.specs.Claims.{ReadBack}
use Rattle.layout.proofs.Rows.{sets_append, fields_long, all_back, all_standing}

module _ (w : List ℕ) (b : Board) (h : board_words ≤ length w) (t : Typed b) where
  -- the words of each kind of part, and what is left of w after the board
  abbrev setup : List ℕ
  setup = setup_fields b.setup

  abbrev nodes : List ℕ
  nodes = flat_map node_fields b.nodes

  abbrev consoles : List ℕ
  consoles = flat_map console_fields b.consoles

  abbrev cells : List ℕ
  cells = flat_map cell_fields b.cells

  abbrev rest : List ℕ
  rest = drop board_words w

  nodes_long : length nodes ≡ max_nodes * node_words
  nodes_long = fields_long node_fields node_wide b.nodes ∙ ap (λ n. n * node_words) t.nodes_long

  consoles_long : length consoles ≡ max_consoles * console_words
  consoles_long = fields_long console_fields console_wide b.consoles ∙ ap (λ n. n * console_words) t.consoles_long

  cells_long : length cells ≡ max_cells * cell_words
  cells_long = fields_long cell_fields cell_wide b.cells ∙ ap (λ n. n * cell_words) t.cells_long

  setup_long : length setup ≡ setup_words
  unfolding setup_fields
  setup_long = refl

  before_consoles : length (setup ++ nodes) ≡ console_offset 0
  before_consoles = length-append setup nodes ∙ omega (arith, setup_long, nodes_long)

  before_cells : length (setup ++ nodes ++ consoles) ≡ cell_offset 0
  before_cells = length-append (setup ++ nodes) consoles ∙ omega (arith, before_consoles, consoles_long)

  all_long : length (board_fields b) ≡ board_words
  unfolding board_fields
  all_long = length-append (setup ++ nodes ++ consoles) cells ∙ omega (arith, before_cells, cells_long)

  -- the words with the board in them, and what they have from each kind's offset on
  abbrev all : List ℕ
  all = encoded w b

  whole : all ≡ board_fields b ++ rest
  unfolding encoded
  whole = rw all_long at (sets-eq (board_fields b) w 0 (omega (arith, all_long, h)))

  at_cells : all ≡ setup ++ nodes ++ consoles ++ (cells ++ rest)
  unfolding board_fields
  at_cells = whole ∙ append_assoc (setup ++ nodes ++ consoles) cells rest

  at_consoles : all ≡ setup ++ nodes ++ (consoles ++ (cells ++ rest))
  at_consoles = at_cells ∙ append_assoc (setup ++ nodes) consoles (cells ++ rest)

  at_nodes : all ≡ setup ++ (nodes ++ (consoles ++ (cells ++ rest)))
  at_nodes = at_consoles ∙ append_assoc setup nodes (consoles ++ (cells ++ rest))

  from_nodes : drop (node_offset 0) all ≡ nodes ++ (consoles ++ (cells ++ rest))
  from_nodes = ap (drop (node_offset 0)) at_nodes ∙ drop_at setup (nodes ++ (consoles ++ (cells ++ rest))) (node_offset 0) setup_long

  from_consoles : drop (console_offset 0) all ≡ consoles ++ (cells ++ rest)
  from_consoles = ap (drop (console_offset 0)) at_consoles ∙ drop_at (setup ++ nodes) (consoles ++ (cells ++ rest)) (console_offset 0) before_consoles

  from_cells : drop (cell_offset 0) all ≡ cells ++ rest
  from_cells = ap (drop (cell_offset 0)) at_cells ∙ drop_at (setup ++ nodes ++ consoles) (cells ++ rest) (cell_offset 0) before_cells

  -- ---- each kind is read as it was. Of consoles the number alone is rewritten: a console has as many words as a board
  -- has consoles

  setup_back : setup_from all ≡ b.setup
  unfolding setup_from setup_fields
  setup_back = rw at_nodes (rw (release_back b.setup.release))

  nodes_back : all_from node_from node_words max_nodes (drop (node_offset 0) all) ≡ b.nodes
  nodes_back = rw (from_nodes, sym t.nodes_long) (all_back node_laws b.nodes _ t.nodes_fit)

  consoles_back : all_from console_from console_words max_consoles (drop (console_offset 0) all) ≡ b.consoles
  consoles_back = ap (λ n. all_from console_from console_words n (drop (console_offset 0) all)) (sym t.consoles_long) ∙ rw from_consoles (all_back console_laws b.consoles _ t.consoles_fit)

  cells_back : all_from cell_from cell_words max_cells (drop (cell_offset 0) all) ≡ b.cells
  cells_back = rw (from_cells, sym t.cells_long) (all_back cell_laws b.cells _ t.cells_fit)

  board_back : board_in all ≡ b
  unfolding board_in
  board_back = rw (setup_back, nodes_back, consoles_back, cells_back)

  -- ---- and stands

  setup_stands_lem : setup_stands all ≡ true
  unfolding setup_stands setup_fields
  setup_stands_lem = rw (at_nodes, release_standing b.setup.release)

  nodes_stand : all_stand node_stands node_words max_nodes (drop (node_offset 0) all) ≡ true
  nodes_stand = rw (from_nodes, sym t.nodes_long) (all_standing node_laws b.nodes _ t.nodes_fit)

  consoles_stand : all_stand console_stands console_words max_consoles (drop (console_offset 0) all) ≡ true
  consoles_stand = ap (λ n. all_stand console_stands console_words n (drop (console_offset 0) all)) (sym t.consoles_long) ∙ rw from_consoles (all_standing console_laws b.consoles _ t.consoles_fit)

  cells_stand : all_stand cell_stands cell_words max_cells (drop (cell_offset 0) all) ≡ true
  cells_stand = rw (from_cells, sym t.cells_long) (all_standing cell_laws b.cells _ t.cells_fit)

  long : length all ≡ length w
  unfolding encoded
  long = length-sets w 0 (board_fields b)

  board_stands : stands all ≡ true
  unfolding stands parts_stand
  board_stands = rw (le-leb board_words (length all) (omega (arith, long)), setup_stands_lem, nodes_stand, consoles_stand, cells_stand)

  written_read : decoded all ≡ b
  unfolding decoded
  written_read = rw board_stands board_back

  -- ---- and a board may be written kind by kind

  by_kinds : sets (sets (sets (sets w 0 setup) (node_offset 0) nodes) (console_offset 0) consoles) (cell_offset 0) cells ≡ all
  unfolding encoded board_fields
  by_kinds =
      let two : sets (sets w 0 setup) (node_offset 0) nodes ≡ sets w 0 (setup ++ nodes) = rw setup_long at (sets_append setup nodes w 0) in
      let three : sets (sets w 0 (setup ++ nodes)) (console_offset 0) consoles ≡ sets w 0 (setup ++ nodes ++ consoles) = rw before_consoles at (sets_append (setup ++ nodes) consoles w 0) in
      rw (two, three) (rw before_cells at (sets_append (setup ++ nodes ++ consoles) cells w 0))

pub read_back : ReadBack
read_back = written_read

-- so as many words as a board has are the board's, once it was written into them kind by kind
pub written : (w w' : List ℕ) (b : Board) → length w ≡ board_words → Typed b
    → w' ≡ sets (sets (sets (sets w 0 (setup_fields b.setup)) (node_offset 0) (flat_map node_fields b.nodes)) (console_offset 0) (flat_map console_fields b.consoles)) (cell_offset 0) (flat_map cell_fields b.cells)
    → w' ≡ board_fields b
written w w' b h t e =
    let enough : board_words ≤ length w = omega (arith, h) in
    let none : drop board_words w ≡ [] = drop_all board_words w (omega (arith, h)) in
    rw (none, append-nil (board_fields b)) at (e ∙ by_kinds w b enough t ∙ whole w b enough t)

-- and any words are encoded and read back, once their first ones are the board's
pub in_front : (w u : List ℕ) (b : Board) → board_words ≤ length w → Typed b → u ≡ board_fields b
    → (u ++ drop board_words w ≡ encoded w b) × (decoded (u ++ drop board_words w) ≡ b)
in_front w u b h t e =
    let all : u ++ drop board_words w ≡ encoded w b = ap (λ xs. xs ++ drop board_words w) e ∙ sym (whole w b h t) in
    (all, ap decoded all ∙ read_back w b h t)
