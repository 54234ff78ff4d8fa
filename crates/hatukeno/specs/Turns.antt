-- A turn of the link (document 02, Paper 9), in seven lent words: the first three have the picker's state, which the
-- call replaces by the next one, and the other four get what the link sends. The words of the board are only read.
use Rattle.std.specs.Prelude.{ℕ, Bool, false, not, cond, List, [], ◌∷◌, ◌≡◌, eqb, Some}
use Rattle.std.proofs.lemmas.List.Edits.{sets}
use Rattle.decisions.specs.Refusals.{refusal_number}
use Rattle.decisions.specs.declared.refusals.Refusal.TheVariants.{NotWellFormed}
use Rattle.picker.specs.declared.Next.{Next}
use Rattle.picker.specs.declared.Next.TheVariants.{Nothing, Tile, Frame}
use Rattle.picker.specs.declared.Picker.{Picker}
use Rattle.picker.specs.declared.Turn.{Turn}
use Rattle.picker.specs.Picking.{pair, turn}
use Rattle.layout.specs.Layout.{word}
use Rattle.layout.specs.Standing.{stands, decoded}
use Rattle.hatukeno.specs.Calls.{code}

-- place, console and node
unfoldable pub picker_in : List ℕ → Picker
picker_in s = record { place = word s 0; last = pair (word s 1) (word s 2) }

-- what is sent, by its number, and the pair whose frame it is
abbrev pub next_number : Next → ℕ
next_number Nothing = 0
next_number Tile = 1
next_number (Frame p) = 2

abbrev pub next_console : Next → ℕ
next_console Nothing = 0
next_console Tile = 0
next_console (Frame p) = p.console.0

abbrev pub next_node : Next → ℕ
next_node Nothing = 0
next_node Tile = 0
next_node (Frame p) = p.node.0

-- the state, then what is sent, the refusal, and the pair
unfoldable pub turn_fields : Turn → List ℕ
turn_fields t =
    t.picker.place
    ∷ t.picker.last.console.0 ∷ t.picker.last.node.0
    ∷ next_number t.next
    ∷ refusal_number t.refusal
    ∷ next_console t.next ∷ next_node t.next
    ∷ []

unfoldable pub put_turn : List ℕ → Turn → List ℕ
put_turn s t = sets s 0 (turn_fields t)

-- a tile waits unless the number is 0
abbrev pub says_yes : ℕ → Bool
says_yes tile_waits = not (eqb tile_waits 0)

-- the turn by the state in the words s on the board in the words w
abbrev pub turn_in : List ℕ → List ℕ → ℕ → Turn
turn_in w s tile_waits = turn (picker_in s) (decoded w) (says_yes tile_waits)

-- a call of a turn: what it returns, and the seven words after it. If memory is short, nothing is written
pub record TurnCalled (w s : List ℕ) (tile_waits : ℕ) (r : ℕ) (s' : List ℕ) : Type 0 where
  pub returned : r ≡ code w s
  pub turn : s' ≡ cond (eqb (code w s) 0) (put_turn s (turn_in w s tile_waits)) s

-- words that stand for no board give 1, send nothing, and leave the state as it is
abbrev pub DamageLeaves : Type 0
DamageLeaves = (w s : List ℕ) (tile_waits : ℕ) → stands w ≡ false
    → turn_in w s tile_waits ≡ record { next = Nothing; refusal = Some NotWellFormed; picker = picker_in s }
