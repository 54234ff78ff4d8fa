-- What Paper 9 (document 02) asks to be shown of turns in a row. proofs/Theorems.antt proves both claims, of every n
-- and m that a board may have, from every state, over any boards and tiles.
use Rattle.std.specs.Prelude.{ℕ, ◌+◌, ◌*◌, ◌/◌, ◌≤◌, ◌≡◌, Bool, true, false, List, [], ◌∷◌, length, count_by, All, Contains}
use Rattle.board.specs.declared.Board.{Board}
use Rattle.board.specs.WellFormed.{well_formed}
use Rattle.picker.specs.declared.Next.{Next}
use Rattle.picker.specs.declared.Next.TheVariants.{Nothing, Tile, Frame}
use Rattle.picker.specs.declared.Pair.{Pair}
use Rattle.picker.specs.declared.Picker.{Picker}
use Rattle.picker.specs.declared.Turn.{Turn}
use Rattle.picker.specs.Picking.{start, unused, can_go, turn}

-- ---- turns in a row

-- what a turn is given beside the picker's state: a board, and whether a tile waits
pub record Given : Type 0 where
  pub board : Board
  pub tile_waits : Bool

abbrev pub turn_of : Picker → Given → Turn
turn_of s g = turn s g.board g.tile_waits

-- what they send, 'where each turn gets the state the last handed back'
unfoldable pub all_sent : Picker → List Given → List Next
all_sent s [] = []
all_sent s (g ∷ gs) = (turn_of s g).next ∷ all_sent (turn_of s g).picker gs

-- the state after them
unfoldable pub state_after : Picker → List Given → Picker
state_after s [] = s
state_after s (g ∷ gs) = state_after (turn_of s g).picker gs

-- a picker that has had no turn goes on any board as from the start
abbrev pub StartsAnywhere : Type 0
StartsAnywhere = (b : Board) (tile_waits : Bool) → well_formed b ≡ true
    → turn unused b tile_waits ≡ turn (start b.setup.n b.setup.m) b tile_waits

-- ---- the first claim

-- 'P + P/3 turns, the quotient rounded up, P = n × m'
abbrev pub most_turns : ℕ → ℕ → ℕ
most_turns n m = n * m + (n * m + 2) / 3

-- a turn at which the pair is deliverable, on a board of n nodes and m consoles
pub record IsReady (n m : ℕ) (p : Pair) (g : Given) : Type 0 where
  pub nodes : g.board.setup.n ≡ n
  pub consoles : g.board.setup.m ≡ m
  pub goes : can_go g.board p ≡ true

-- turns from state s on: 'n and m stay', and the pair 'stays deliverable', each until a turn picks it
pub data StaysDeliverable (n m : ℕ) (p : Pair) : Picker → List Given → Type 0 where
  no_more : {s : Picker} → StaysDeliverable n m p s []
  picked : {s : Picker} {g : Given} {gs : List Given} → IsReady n m p g → (turn_of s g).next ≡ Frame p
      → StaysDeliverable n m p s (g ∷ gs)
  stays : {s : Picker} {g : Given} {gs : List Given} → IsReady n m p g → StaysDeliverable n m p (turn_of s g).picker gs
      → StaysDeliverable n m p s (g ∷ gs)

-- 'a pair that stays deliverable is picked within P + P/3 turns': the first turn at which it is deliverable counts, and
-- the turn that picks it. Of no pairs, where P is 0, nothing is claimed
abbrev pub EveryPairPicked : Type 0
EveryPairPicked = (n m : ℕ) (s : Picker) (p : Pair) (gs : List Given) → 1 ≤ n → 1 ≤ m
    → length gs ≡ most_turns n m → StaysDeliverable n m p s gs → Contains (all_sent s gs) (Frame p)

-- ---- the second claim

abbrev pub is_tile : Next → Bool
is_tile Nothing = false
is_tile Tile = true
is_tile (Frame p) = false

-- 'a board frame is deliverable'
abbrev pub SomeGoes : Given → Type 0
SomeGoes g = (p : Pair) × (can_go g.board p ≡ true)

-- 'at most one'
abbrev pub most_tiles : ℕ
most_tiles = 1

-- 'of any four turns in a row at which a board frame is deliverable, tiles take at most one', whether n and m stay or
-- not
abbrev pub FewTiles : Type 0
FewTiles = (s : Picker) (gs : List Given) → length gs ≡ 4 → All SomeGoes gs → count_by is_tile (all_sent s gs) ≤ most_tiles
