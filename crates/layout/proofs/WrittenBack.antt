-- Words that stand for a board are those that it is written as: each kind's words are written over themselves (Rows).
use Rattle.std.proofs.Common.{ℕ, zero, suc, ◌*◌, ◌<◌, ◌≤◌, true, List, length, take, drop, ◌≡◌, sym, ◌∙◌, arith}
use Rattle.std.proofs.lemmas.List.{ext_get_or, get_or-take, length-take-le, length-drop, take-append-drop}
use Rattle.std.proofs.Math.Seq.{take-add}
use Rattle.std.proofs.lemmas.List.Edits.{sets-eq}
use Rattle.std.specs.List.{flat_map}
use Rattle.parts.specs.Limits.{max_nodes, max_consoles, max_cells}
use Rattle.layout.specs.Layout.{setup_words, board_words, word, node_words, console_words, cell_words, node_offset, console_offset, cell_offset, setup_from, board_in, setup_fields, node_fields, console_fields, cell_fields, board_fields, encoded}
use Rattle.layout.specs.Standing.{stands, decoded}
use Rattle.layout.proofs.PartsBack.{release_again, node_laws, console_laws, cell_laws}
use Rattle.layout.specs.Claims.{WrittenBack}
use Rattle.layout.proofs.Rows.{all_again}
use Rattle.layout.proofs.StandingLaws.{standing_long, release_standing, version_standing, nodes_standing, consoles_standing, cells_standing}

module _ (w : List ℕ) (h : stands w ≡ true) where
  long : board_words ≤ length w
  long = standing_long w h

  -- ---- each kind's fields are its words

  setup_again : setup_fields (board_in w).setup ≡ take setup_words w
  unfolding setup_fields setup_from board_in
  setup_again = ext_get_or 0 (setup_fields (setup_from w)) (take setup_words w) (sym (length-take-le setup_words w (omega (arith, long)))) fields
    where
      fields : (k : ℕ) → k < setup_words → word (setup_fields (setup_from w)) k ≡ word (take setup_words w) k
      fields zero l = sym (get_or-take setup_words w 0 0 l)
      fields (suc zero) l = sym (get_or-take setup_words w 1 0 l)
      fields (suc (suc zero)) l = release_again (word w 2) (release_standing w h) ∙ sym (get_or-take setup_words w 2 0 l)
      fields (suc (suc (suc zero))) l = sym (version_standing w h) ∙ sym (get_or-take setup_words w 3 0 l)
      fields (suc (suc (suc (suc k)))) l = absurd (omega arith)

  nodes_again : flat_map node_fields (board_in w).nodes ≡ take (max_nodes * node_words) (drop (node_offset 0) w)
  unfolding board_in
  nodes_again = all_again node_laws max_nodes (drop (node_offset 0) w) (omega (arith, long, length-drop (node_offset 0) w)) (nodes_standing w h)

  consoles_again : flat_map console_fields (board_in w).consoles ≡ take (max_consoles * console_words) (drop (console_offset 0) w)
  unfolding board_in
  consoles_again = all_again console_laws max_consoles (drop (console_offset 0) w) (omega (arith, long, length-drop (console_offset 0) w)) (consoles_standing w h)

  cells_again : flat_map cell_fields (board_in w).cells ≡ take (max_cells * cell_words) (drop (cell_offset 0) w)
  unfolding board_in
  cells_again = all_again cell_laws max_cells (drop (cell_offset 0) w) (omega (arith, long, length-drop (cell_offset 0) w)) (cells_standing w h)

  -- ---- so those of the board are the first words

  fields_again : board_fields (board_in w) ≡ take board_words w
  unfolding board_fields
  fields_again =
      rw (setup_again, nodes_again, consoles_again, cells_again)
      (rw (sym (take-add setup_words (max_nodes * node_words) w), sym (take-add (console_offset 0) (max_consoles * console_words) w), sym (take-add (cell_offset 0) (max_cells * cell_words) w)))

  board_again : encoded w (board_in w) ≡ w
  unfolding encoded
  board_again = rw (fields_again, sets-eq (take board_words w) w 0 (omega (arith, long, length-take-le board_words w long)), length-take-le board_words w long) (take-append-drop board_words w)

  read_written : encoded w (decoded w) ≡ w
  unfolding decoded
  read_written = rw h board_again

pub written_back : WrittenBack
written_back = read_written
