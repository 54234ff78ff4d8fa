-- P1 to P10 as one theorem, by computation: what each run of the list shows is what it must show. Then the same of the
-- runs of node up, of those that say how replies compare, of those under release 2, of those with a down console, and
-- of those that hold the definitions to single sentences, of those of restart, of previews, of decisions; and of
-- question 1's boards.
use mathlib.Core.List.{List, map}
use mathlib.Core.Path.{◌≡◌, refl}
use Rattle.board.specs.WellFormed.{well_formed}
use Rattle.board.proofs.Opened.{opened_step}
use Rattle.board.specs.Preview.{frames_in, preview_of}
use Rattle.board.specs.PRuns.{PRun, Seen, seen, left, all_seen, shows, must_show, p_runs}
use Rattle.board.specs.UpRuns.{up_runs}
use Rattle.board.specs.CompareRuns.{CompareRun, Told, all_told, says, must_say, written, lower, higher, compare_runs}
use Rattle.board.specs.QuietRuns.{quiet_runs, quiet_replies}
use Rattle.board.specs.DeadRuns.{dead_runs}
use Rattle.board.specs.OrderRuns.{Decided, order_runs, order_decisions}
use Rattle.board.specs.RestartRuns.{restart_runs, restart_replies, restart_decisions}
use Rattle.board.specs.PreviewRuns.{PreviewRun, Shown, after, all_shown, foresees, must_foresee, preview_runs}
use Rattle.board.specs.FormedBoards.{FormedBoard, formed_boards}

-- what runs show, with every definition opened
opened : List PRun → List CompareRun → List (List Seen) × List (List Told)
unfolding opened_step seen left all_seen all_told
opened rs cs = (map shows rs, map says cs)

pub p_runs_hold : map shows p_runs ≡ map must_show p_runs
unfolding opened p_runs
p_runs_hold = refl

pub up_runs_hold : map shows up_runs ≡ map must_show up_runs
unfolding opened up_runs
up_runs_hold = refl

pub compare_runs_hold : map says compare_runs ≡ map must_say compare_runs
unfolding opened compare_runs written lower higher
compare_runs_hold = refl

pub quiet_runs_hold : map shows quiet_runs ≡ map must_show quiet_runs
unfolding opened quiet_runs
quiet_runs_hold = refl

pub quiet_replies_hold : map says quiet_replies ≡ map must_say quiet_replies
unfolding opened quiet_replies written lower higher
quiet_replies_hold = refl

pub dead_runs_hold : map shows dead_runs ≡ map must_show dead_runs
unfolding opened dead_runs
dead_runs_hold = refl

pub order_runs_hold : map shows order_runs ≡ map must_show order_runs
unfolding opened order_runs
order_runs_hold = refl

pub order_decisions_hold : map (λ (x : Decided). x.decides) order_decisions ≡ map (λ (x : Decided). x.must) order_decisions
unfolding opened order_decisions
order_decisions_hold = refl

pub restart_runs_hold : map shows restart_runs ≡ map must_show restart_runs
unfolding opened restart_runs
restart_runs_hold = refl

pub restart_replies_hold : map says restart_replies ≡ map must_say restart_replies
unfolding opened restart_replies
restart_replies_hold = refl

pub restart_decisions_hold : map (λ (x : Decided). x.decides) restart_decisions ≡ map (λ (x : Decided). x.must) restart_decisions
unfolding opened restart_decisions
restart_decisions_hold = refl

pub formed_boards_hold : map (λ (x : FormedBoard). well_formed x.board) formed_boards ≡ map (λ (x : FormedBoard). x.formed) formed_boards
unfolding opened formed_boards
formed_boards_hold = refl

foreseen : List PreviewRun → List (List Shown)
unfolding opened_step frames_in preview_of after all_shown
foreseen rs = map foresees rs

pub preview_runs_hold : map foresees preview_runs ≡ map must_foresee preview_runs
unfolding foreseen preview_runs
preview_runs_hold = refl
