-- Words that stand for no board are read as one of no nodes, which question 1 refuses.
use mathlib.Core.Path.{refl}
use Rattle.well_formed.specs.Clauses.{nodes_allowed, setup_ok}
use Rattle.board.specs.Boards.{fresh_board}
use Rattle.board.specs.WellFormed.{well_formed}
use Rattle.layout.specs.Standing.{decoded}
use Rattle.picker.specs.Picking.{turn}
use Rattle.hatukeno.specs.Turns.{DamageLeaves}

pub damage_leaves : DamageLeaves
unfolding decoded turn well_formed setup_ok nodes_allowed fresh_board
damage_leaves w s tile_waits h = rw h refl
