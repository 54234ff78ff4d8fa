-- A board in words of 32 bits: n, m, the release and the layout's version, then so many words for each node, console
-- and cell; how it is read from them, and how it is written into them.
use Rattle.std.specs.Prelude.{ℕ, zero, suc, ◌+◌, ◌*◌, ◌/◌, ◌%◌, ◌<◌, cond, not, List, [], ◌∷◌, ◌++◌, ◌≡◌, eqb, length, get_or, drop}
use Rattle.std.specs.List.{All, flat_map}
use Rattle.std.proofs.lemmas.List.Edits.{sets}
use Rattle.parts.specs.declared.Release.{Release}
use Rattle.parts.specs.declared.Release.TheVariants.{One, Two}
use Rattle.parts.specs.declared.Tag.{Tag}
use Rattle.parts.specs.declared.Frame.{Frame}
use Rattle.parts.specs.declared.Frame.TheVariants.{Nothing, Ask, Reply, Put, Ack}
use Rattle.parts.specs.declared.Cell.{Cell}
use Rattle.parts.specs.declared.Node.{Node}
use Rattle.parts.specs.declared.Kind.{Kind}
use Rattle.parts.specs.declared.Kind.TheVariants.{Read, Write}
use Rattle.parts.specs.declared.State.{State}
use Rattle.parts.specs.declared.State.TheVariants.{Idle, Asking, Telling, Down}
use Rattle.parts.specs.declared.Console.{Console}
use Rattle.parts.specs.declared.Setup.{Setup}
use Rattle.parts.specs.Finite.{one}
use Rattle.parts.specs.Limits.{max_nodes, max_consoles, max_cells}
use Rattle.parts.specs.Tags.{zero_tag}
use Rattle.parts.specs.Parts.{cell_of}
use Rattle.board.specs.declared.Board.{Board}
use Rattle.layout.specs.InWords.{all_from}

-- ---- how many words each part has, and where it stands

abbrev pub setup_words : ℕ
setup_words = 4

abbrev pub node_words : ℕ
node_words = 4

abbrev pub console_words : ℕ
console_words = 8

abbrev pub cell_words : ℕ
cell_words = 4

abbrev pub node_offset : ℕ → ℕ
node_offset k = setup_words + k * node_words

abbrev pub console_offset : ℕ → ℕ
console_offset c = node_offset max_nodes + c * console_words

abbrev pub cell_offset : ℕ → ℕ
cell_offset i = console_offset max_consoles + i * cell_words

-- the words of a board: the offset past the last cell
abbrev pub board_words : ℕ
board_words = cell_offset max_cells

-- the version of the layout, a word of each board, so that words of another layout are not taken for a board's
abbrev pub layout_version : ℕ
layout_version = 2

-- the numbers below this fit half a word: a tag's console and its life share one
abbrev pub half_word : ℕ
half_word = 65536

-- the word at offset i
abbrev pub word : List ℕ → ℕ → ℕ
word w i = get_or w i 0

-- ---- reading each part from its own words. A number that stands for nothing is read as something all the same;
-- Standing.antt says which words are refused

-- a release by its number
unfoldable pub release_of : ℕ → Release
release_of i = cond (eqb i 2) Two One

-- n, m, release; the version is the same on every board
unfoldable pub setup_from : List ℕ → Setup
setup_from u = record { n = word u 0; m = word u 1; release = release_of (word u 2) }

-- a tag from two words, its ts and its owner: the console in the high half, the life in the low one
unfoldable pub tag_of : ℕ → ℕ → Tag
tag_of t o = record { ts = t; console = o / half_word; life = o % half_word }

-- up, ts, owner, value
unfoldable pub node_from : List ℕ → Node
node_from u = record { up = not (eqb (word u 0) 0); tag = tag_of (word u 1) (word u 2); value = word u 3 }

-- a state by its number; the last is down
unfoldable pub state_of : ℕ → State
state_of zero = Idle
state_of (suc zero) = Asking Read
state_of (suc (suc zero)) = Asking Write
state_of (suc (suc (suc zero))) = Telling Read
state_of (suc (suc (suc (suc zero)))) = Telling Write
state_of (suc (suc (suc (suc (suc s))))) = Down

-- state, wanted, answered, best ts, best owner, value, alike, life
unfoldable pub console_from : List ℕ → Console
console_from u =
    record {
      state = state_of (word u 0);
      wanted = word u 1;
      answered = word u 2 % 256;
      best = tag_of (word u 3) (word u 4);
      value = word u 5;
      alike = not (eqb (word u 6) 0);
      life = word u 7 % half_word;
    }

-- a frame by its number; the last is an ack
unfoldable pub frame_of : ℕ → Tag → ℕ → Frame
frame_of zero t v = Nothing
frame_of (suc zero) t v = Ask
frame_of (suc (suc zero)) t v = Reply t v
frame_of (suc (suc (suc zero))) t v = Put t v
frame_of (suc (suc (suc (suc s)))) t v = Ack

-- frame, ts, owner, value
unfoldable pub cell_from : List ℕ → Cell
cell_from u = cell_of (frame_of (word u 0) (tag_of (word u 1) (word u 2)) (word u 3))

-- the board that the words are read as, whatever stands there
unfoldable pub board_in : List ℕ → Board
board_in w =
    record {
      setup = setup_from w;
      nodes = all_from node_from node_words max_nodes (drop (node_offset 0) w);
      consoles = all_from console_from console_words max_consoles (drop (console_offset 0) w);
      cells = all_from cell_from cell_words max_cells (drop (cell_offset 0) w);
    }

-- ---- writing: the fields of each part, and all of them one after the other

unfoldable pub release_number : Release → ℕ
release_number One = 1
release_number Two = 2

unfoldable pub setup_fields : Setup → List ℕ
setup_fields σ = σ.n ∷ σ.m ∷ release_number σ.release ∷ layout_version ∷ []

-- the owner of a tag, its console and its life in one word
unfoldable pub owner_word : Tag → ℕ
owner_word t = t.console * half_word + t.life

unfoldable pub node_fields : Node → List ℕ
node_fields x = one x.up ∷ x.tag.ts ∷ owner_word x.tag ∷ x.value ∷ []

abbrev pub kind_number : Kind → ℕ
kind_number Read = 0
kind_number Write = 1

unfoldable pub state_number : State → ℕ
state_number Idle = 0
state_number (Asking w) = 1 + kind_number w
state_number (Telling w) = 3 + kind_number w
state_number Down = 5

unfoldable pub console_fields : Console → List ℕ
console_fields x = state_number x.state ∷ x.wanted ∷ x.answered ∷ x.best.ts ∷ owner_word x.best ∷ x.value ∷ one x.alike ∷ x.life ∷ []

unfoldable pub frame_number : Frame → ℕ
frame_number Nothing = 0
frame_number Ask = 1
frame_number (Reply t v) = 2
frame_number (Put t v) = 3
frame_number Ack = 4

unfoldable pub frame_tag : Frame → Tag
frame_tag Nothing = zero_tag
frame_tag Ask = zero_tag
frame_tag (Reply t v) = t
frame_tag (Put t v) = t
frame_tag Ack = zero_tag

unfoldable pub frame_value : Frame → ℕ
frame_value Nothing = 0
frame_value Ask = 0
frame_value (Reply t v) = v
frame_value (Put t v) = v
frame_value Ack = 0

unfoldable pub cell_fields : Cell → List ℕ
cell_fields x = frame_number x.frame ∷ (frame_tag x.frame).ts ∷ owner_word (frame_tag x.frame) ∷ frame_value x.frame ∷ []

-- the words of a board
unfoldable pub board_fields : Board → List ℕ
board_fields b = setup_fields b.setup ++ flat_map node_fields b.nodes ++ flat_map console_fields b.consoles ++ flat_map cell_fields b.cells

-- the words with the board in the first of them
unfoldable pub encoded : List ℕ → Board → List ℕ
encoded w b = sets w 0 (board_fields b)

-- ---- what a board's type says, and reading back rests on

-- a tag's console and its life are half a word each
pub record TagFits (t : Tag) : Type 0 where
  pub console : t.console < half_word
  pub life : t.life < half_word

abbrev pub NodeFits : Node → Type 0
NodeFits x = TagFits x.tag

-- an answered set is a byte, and a life half a word
pub record ConsoleFits (x : Console) : Type 0 where
  pub answered : x.answered < 256
  pub best : TagFits x.best
  pub life : x.life < half_word

abbrev pub CellFits : Cell → Type 0
CellFits x = TagFits (frame_tag x.frame)

-- the lists of a board have their lengths, and each part fits its words
pub record Typed (b : Board) : Type 0 where
  pub nodes_long : length b.nodes ≡ max_nodes
  pub consoles_long : length b.consoles ≡ max_consoles
  pub cells_long : length b.cells ≡ max_cells
  pub nodes_fit : All NodeFits b.nodes
  pub consoles_fit : All ConsoleFits b.consoles
  pub cells_fit : All CellFits b.cells
