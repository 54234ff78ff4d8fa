-- The picker's turn (document 02, Paper 9): which pairs are tried in what order, what the link sends, and the state
-- that is handed back.
use Rattle.std.specs.Prelude.{ℕ, zero, suc, ◌+◌, ◌-◌, ◌*◌, Bool, false, cond, ◌&&◌, ltb, Option, Some, None}
use Rattle.board.specs.declared.Board.{Board}
use Rattle.board.specs.Deliver.{deliverable}
use Rattle.board.specs.WellFormed.{well_formed}
use Rattle.decisions.specs.declared.refusals.Refusal.TheVariants.{NotWellFormed}
use Rattle.picker.specs.declared.Pair.{Pair}
use Rattle.picker.specs.declared.Picker.{Picker}
use Rattle.picker.specs.declared.Next.{Next}
use Rattle.picker.specs.declared.Next.TheVariants.{Nothing, Tile, Frame}
use Rattle.picker.specs.declared.Turn.{Turn}

-- ---- pairs in their order

abbrev pub pair : ℕ → ℕ → Pair
pair c k = record { console = record { 0 = c }; node = record { 0 = k } }

-- 'by console, then node .. wrapping': the pair after this one, of n nodes and m consoles
unfoldable pub pair_after : ℕ → ℕ → Pair → Pair
pair_after n m p =
    cond (ltb (p.node.0 + 1) n) (pair p.console.0 (p.node.0 + 1))
    (cond (ltb (p.console.0 + 1) m) (pair (p.console.0 + 1) 0)
    (pair 0 0))

-- of so many pairs from after this one, 'the first that qualifies'
unfoldable pub first_of : ℕ → ℕ → (Pair → Bool) → ℕ → Pair → Option Pair
first_of n m qualifies zero before = None
first_of n m qualifies (suc tries) before =
    let p = pair_after n m before in
    cond (qualifies p) (Some p) (first_of n m qualifies tries p)

-- ---- the picker's state

-- 'it starts at the first turn with pair (0, 0) tried first': as if (m − 1, n − 1) had been picked, after which (0, 0)
-- comes
abbrev pub start : ℕ → ℕ → Picker
start n m = record { place = 0; last = pair (m - 1) (n - 1) }

-- the place is one of the four, and the pair one of those of n nodes and m consoles
abbrev pub in_range : ℕ → ℕ → Picker → Bool
in_range n m s = ltb s.place 4 && ltb s.last.console.0 m && ltb s.last.node.0 n

-- 'a state out of range for this board's n and m counts as the start'
unfoldable pub current : ℕ → ℕ → Picker → Picker
current n m s = cond (in_range n m s) s (start n m)

-- the state of a picker that has had no turn: out of range for every board, so that it counts as the start on each
abbrev pub unused : Picker
unused = record { place = 0; last = pair 4294967295 4294967295 }

-- ---- what is sent

-- the pair's frame 'can be delivered without refusal'
abbrev pub can_go : Board → Pair → Bool
can_go b p = deliverable b p.console.0 p.node.0

-- 'a board frame goes if one can be delivered .., else a tile if one waits'; 'If neither is there, the turn is idle'
abbrev pub frame_first : Option Pair → Bool → Next
frame_first (Some p) tile_waits = Frame p
frame_first None tile_waits = cond tile_waits Tile Nothing

-- 'the tile comes first'; where none waits, a frame goes if there is one
abbrev pub tile_first : Option Pair → Bool → Next
tile_first found tile_waits = cond tile_waits Tile (frame_first found false)

-- 'In the first three' the frame, 'in the fourth the tile'
abbrev pub sent_at : ℕ → Option Pair → Bool → Next
sent_at place found tile_waits = cond (ltb place 3) (frame_first found tile_waits) (tile_first found tile_waits)

-- ---- the turn

-- 'Turns run in fours, idle ones counted': the place moves on whatever was sent
abbrev pub next_place : ℕ → ℕ
next_place place = cond (ltb place 3) (place + 1) 0

-- 'the pair last picked', once this is sent
abbrev pub last_after : Pair → Next → Pair
last_after last Nothing = last
last_after last Tile = last
last_after last (Frame p) = p

-- a turn that sends x, in state s
abbrev pub sends : Picker → Next → Turn
sends s x =
    record {
      next = x;
      refusal = None;
      picker = record { place = next_place s.place; last = last_after s.last x };
    }

-- a turn in a state in range: all n × m pairs are tried, 'from after the pair last picked'
unfoldable pub turn_from : ℕ → ℕ → (Pair → Bool) → Picker → Bool → Turn
turn_from n m qualifies s tile_waits = sends s (sent_at s.place (first_of n m qualifies (n * m) s.last) tile_waits)

-- 'A board that fails question 1 gives 1 and leaves the picker's state'
unfoldable pub turn : Picker → Board → Bool → Turn
turn s b tile_waits =
    cond (well_formed b)
    (turn_from b.setup.n b.setup.m (can_go b) (current b.setup.n b.setup.m s) tile_waits)
    (record { next = Nothing; refusal = Some NotWellFormed; picker = s })
