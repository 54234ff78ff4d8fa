-- Which words stand for a board, and the board that any words are read as: words that no board is written as are read
-- as one that is not well formed, so that every step but fresh refuses them with 1. No number is read as its nearest.
use Rattle.std.specs.Prelude.{ℕ, Bool, cond, ◌&&◌, ◌||◌, List, eqb, leb, length, drop}
use Rattle.parts.specs.Limits.{max_nodes, max_consoles, max_cells}
use Rattle.board.specs.declared.Board.{Board}
use Rattle.board.specs.Boards.{no_board}
use Rattle.layout.specs.InWords.{all_stand}
use Rattle.layout.specs.Layout.{board_words, layout_version, word, node_words, console_words, cell_words, node_offset, console_offset, cell_offset, board_in}

-- the last number of a state, of a frame, of a set, of a mark and of half a word, as a life is
abbrev pub last_state : ℕ
last_state = 5

abbrev pub last_frame : ℕ
last_frame = 4

abbrev pub last_set : ℕ
last_set = 255

abbrev pub last_mark : ℕ
last_mark = 1

abbrev pub last_half : ℕ
last_half = 65535

-- a release is 1 or 2
unfoldable pub release_stands : ℕ → Bool
release_stands i = eqb i 1 || eqb i 2

-- n and m are any numbers; words of another version of the layout stand for no board
unfoldable pub setup_stands : List ℕ → Bool
setup_stands u = release_stands (word u 2) && eqb (word u 3) layout_version

-- up is a mark; any word is some console and life
unfoldable pub node_stands : List ℕ → Bool
node_stands u = leb (word u 0) last_mark

unfoldable pub console_stands : List ℕ → Bool
console_stands u = leb (word u 0) last_state && leb (word u 2) last_set && leb (word u 6) last_mark && leb (word u 7) last_half

-- beside a frame without a tag, that is neither reply nor put, all is 0
unfoldable pub frame_stands : ℕ → ℕ → ℕ → ℕ → Bool
frame_stands f t o v = leb f last_frame && (eqb f 2 || eqb f 3 || (eqb t 0 && eqb o 0 && eqb v 0))

unfoldable pub cell_stands : List ℕ → Bool
cell_stands u = frame_stands (word u 0) (word u 1) (word u 2) (word u 3)

-- the setup and each part stands
unfoldable pub parts_stand : List ℕ → Bool
parts_stand w =
    setup_stands w
    && all_stand node_stands node_words max_nodes (drop (node_offset 0) w)
    && all_stand console_stands console_words max_consoles (drop (console_offset 0) w)
    && all_stand cell_stands cell_words max_cells (drop (cell_offset 0) w)

-- the words are enough for a board, and its setup and each of its parts stand in them
unfoldable pub stands : List ℕ → Bool
stands w = leb board_words (length w) && parts_stand w

-- the board in any words
unfoldable pub decoded : List ℕ → Board
decoded w = cond (stands w) (board_in w) no_board
