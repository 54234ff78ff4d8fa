-- One turn: on a board on which some pair can go, the frame of the one that the search finds is sent, or in the fourth
-- place a tile (Took).
use Prim.Native.Nat.{ℕ, ◌*◌, ◌≤◌}
use mathlib.Core.Bool.{Bool, true, false, cond}
use mathlib.Core.Path.{◌≡◌, refl, ap, ◌∙◌}
use borrow.Author.Tests.{ltb-false}
use lib.Dec.{ltb}
use Rattle.std.specs.Prelude.{Some}
use Rattle.board.specs.WellFormed.{well_formed}
use Rattle.board.specs.declared.Board.{Board}
use Rattle.picker.specs.declared.Next.TheVariants.{Tile, Frame}
use Rattle.picker.specs.declared.Pair.{Pair}
use Rattle.picker.specs.declared.Picker.{Picker}
use Rattle.picker.specs.declared.Turn.{Turn}
use Rattle.picker.specs.Picking.{first_of, current, can_go, sends, turn_from, turn}

-- a turn on a well-formed board, by its n and m
pub turn_is_from : (n m : ℕ) (s : Picker) (b : Board) (tile_waits : Bool) → well_formed b ≡ true → b.setup.n ≡ n → b.setup.m ≡ m
    → turn s b tile_waits ≡ turn_from n m (can_go b) (current n m s) tile_waits
unfolding turn
turn_is_from n m s b tile_waits w e f =
    rw w
    (ap (λ x. turn_from x b.setup.m (can_go b) (current x b.setup.m s) tile_waits) e
    ∙ ap (λ x. turn_from n x (can_go b) (current n x s) tile_waits) f)

-- a turn in state s at which the search finds pair q
pub data Took (s : Picker) (q : Pair) : Turn → Type 0 where
  frame : Took s q (sends s (Frame q))
  tile : 3 ≤ s.place → Took s q (sends s Tile)

pub took : (n m : ℕ) (qualifies : Pair → Bool) (s : Picker) (tile_waits : Bool) (q : Pair)
    → first_of n m qualifies (n * m) s.last ≡ Some q → Took s q (turn_from n m qualifies s tile_waits)
unfolding turn_from
took n m qualifies s tile_waits q h = rw h (go (ltb s.place 3) refl tile_waits)
  where
    go : (x : Bool) → ltb s.place 3 ≡ x → (y : Bool) → Took s q (sends s (cond x (Frame q) (cond y Tile (Frame q))))
    go true e y = frame
    go false e true = tile (ltb-false s.place 3 e)
    go false e false = frame
