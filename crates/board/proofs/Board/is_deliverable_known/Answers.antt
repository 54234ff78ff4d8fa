-- As what is decided (delivery_known), of which nothing is asked but whether it is a refusal.
use Rattle.std.proofs.Common.{sym, ◌∙◌}
use Rattle.board.proofs.AcceptedLaws.{deliverable_as}
use Rattle.board.proofs.WellFormedLaws.{comparable}
use Rattle.board.proofs.Board.is_deliverable_known.Goals as goal

pub returns : goal.returns
returns c = λ e.
    let parts = rw (c.console_at.ensures, c.node_at.ensures, c.frame_at.ensures) at c.is_accepted.ensures in
    rw (sym e) (parts (λ t. comparable _ (sym e ∙ t) _ _)) ∙ sym (deliverable_as _ _ _)
