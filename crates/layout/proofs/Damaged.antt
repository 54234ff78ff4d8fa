-- Words that stand for no board are read as a board of no nodes, which question 1 refuses at every step; and so a
-- preview of a delivery gives 1 and no frame.
use mathlib.Core.Path.{◌≡◌, refl, ap}
use Rattle.well_formed.specs.Clauses.{nodes_allowed, setup_ok}
use Rattle.decisions.specs.Questions.{guarded}
use Rattle.decisions.specs.Steps.{begins, ends, restarts, falls, rises}
use Rattle.decisions.specs.Deliver.{delivered}
use Rattle.decisions.specs.declared.refusals.Refusal.TheVariants.{NotWellFormed}
use Rattle.board.specs.Answers.{refuse}
use Rattle.board.specs.Applied.{applied}
use Rattle.board.specs.Boards.{no_board, fresh_board}
use Rattle.board.specs.Deliver.{deliver}
use Rattle.board.specs.Preview.{preview_of}
use Rattle.board.specs.Runs.{Step, step, BeginRead, BeginWrite, Deliver, NodeDown, ConsoleDown, NodeUp, Restart}
use Rattle.board.specs.Steps.{begin, node_down, node_up, console_down, restart}
use Rattle.board.specs.WellFormed.{well_formed}
use Rattle.layout.specs.Standing.{decoded}
use Rattle.layout.specs.Claims.{DamageRefused, DamageForeseen}

none_refuses : (s : Step) → step no_board s ≡ refuse no_board NotWellFormed
unfolding step begin node_down node_up console_down restart deliver begins ends restarts falls rises delivered guarded applied well_formed setup_ok nodes_allowed fresh_board
none_refuses (BeginRead c) = refl
none_refuses (BeginWrite c v) = refl
none_refuses (Deliver c k) = refl
none_refuses (NodeDown k) = refl
none_refuses (ConsoleDown c) = refl
none_refuses (NodeUp k) = refl
none_refuses (Restart c) = refl

pub damage_refused : DamageRefused
unfolding decoded
damage_refused w h s = rw h (none_refuses s)

pub damage_foreseen : DamageForeseen
unfolding step preview_of
damage_foreseen w h c k = ap preview_of (damage_refused w h (Deliver c k))
