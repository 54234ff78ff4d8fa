-- A step with every definition opened, for proofs by computation: `unfolding opened_step` opens all that a run is
-- computed by.
use Rattle.parts.specs.Finite.{every, count}
use Rattle.parts.specs.Tags.{greater, compared}
use Rattle.parts.specs.AnsweredSet.{member, insert, size, only_below}
use Rattle.parts.specs.Sizes.{majority, ask_size, tell_size}
use Rattle.parts.specs.Parts.{node_in, console_in, frame_in, cell_index, set_frame, set_row}
use Rattle.well_formed.specs.Clauses.{nodes_allowed, consoles_allowed, setup_ok, is_zero, tag_ok, node_ok, nodes_ok, rest_ok, wanted_ok, wait_ok, state_ok, mark_ok, console_ok, consoles_ok, frame_ok, cell_ok, row_ok, cells_ok}
use Rattle.decisions.specs.Changes.{with_up, taken, rests, restarted, asks, awaits, still_alike, hears, takes_in, next_tag, tells, acked}
use Rattle.decisions.specs.Questions.{guarded}
use Rattle.decisions.specs.Steps.{begins, ends, restarts, falls, rises}
use Rattle.decisions.specs.Deliver.{on_ask, on_put, discards, heard, finished, turned, finishes_early, replied, on_reply, acknowledged, on_ack, on_frame, delivered}
use Rattle.board.specs.Boards.{node_at, console_at, frame_at, with_node, with_console, with_frame, with_row, fresh_board}
use Rattle.board.specs.WellFormed.{well_formed}
use Rattle.board.specs.Applied.{with_sent, with_part, applied}
use Rattle.board.specs.Steps.{fresh, begin, node_down, node_up, console_down, restart}
use Rattle.board.specs.Deliver.{deliver}
use Rattle.board.specs.Runs.{Step, step}
use Rattle.board.specs.declared.Answer.{Answer}
use Rattle.board.specs.declared.Board.{Board}

unfoldable pub opened_step : Board → Step → Answer
unfolding every count greater compared member insert size only_below majority ask_size tell_size node_in console_in frame_in
    cell_index set_frame set_row
    nodes_allowed consoles_allowed setup_ok is_zero tag_ok node_ok nodes_ok rest_ok wanted_ok wait_ok state_ok mark_ok console_ok
    consoles_ok frame_ok cell_ok row_ok cells_ok
    with_up taken rests restarted asks awaits still_alike hears takes_in next_tag tells acked guarded begins ends restarts falls rises on_ask
    on_put discards heard finished turned finishes_early replied on_reply acknowledged on_ack on_frame delivered
    node_at console_at frame_at with_node with_console with_frame with_row fresh_board well_formed with_sent with_part applied
    fresh begin node_down node_up console_down restart deliver step
opened_step b s = step b s
