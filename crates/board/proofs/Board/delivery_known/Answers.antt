-- What is decided, by the answer to question 1 that is handed in and the board's own parts. If the board is well
-- formed, the tags that the decision compares may be compared.
use Rattle.std.proofs.Common.{sym, ◌∙◌}
use Rattle.board.proofs.WellFormedLaws.{comparable}
use Rattle.board.proofs.Board.delivery_known.Goals as goal

pub returns : goal.returns
returns c = λ e.
    let parts = rw (c.console_at-x.ensures, c.node_at-y.ensures, c.frame_at-f.ensures) at c.delivered.ensures in
    rw (sym e) (parts (λ t. comparable _ (sym e ∙ t) _ _))
