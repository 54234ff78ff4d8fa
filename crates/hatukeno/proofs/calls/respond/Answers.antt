-- By the lengths, and the two laws of calls.
use Rattle.std.proofs.Common.{sym, ◌∙◌}
use Rattle.hatukeno.specs.Calls.{kept}
use Rattle.hatukeno.proofs.CallsLaws.{long_board, long_answer, one_step, short_number, not_called, called}
use Rattle.hatukeno.proofs.calls.respond.Goals as goal

pub returns-in-Err : goal.returns-in-Err
returns-in-Err c = not_called _ _ _ _ (c.from.ensures ∙ c.in-Err.ensures {u = tt} ∙ one_step _ _) (λ e. short_number c.in-Err.short (sym c.from.ensures ∙ e))

pub put_answer-requires : goal.put_answer-requires
put_answer-requires c = long_answer _ _ (sym (c.in-Ok.ensures {u = tt} ∙ one_step _ _))

pub returns-then-is_accepted : goal.returns-then-is_accepted
unfolding kept
returns-then-is_accepted c =
    let fits = c.in-Ok.ensures {u = tt} ∙ one_step _ _ in
    let written = (c.encode.ensures.0 (long_board _ _ (sym fits))).0 in
    called _ _ _ fits _ _ (written ∙ rw (sym (c.if-is_accepted.ensures {u = tt}))) c.put_answer.ensures

pub returns-else-is_accepted : goal.returns-else-is_accepted
unfolding kept
returns-else-is_accepted c =
    called _ _ _ (c.in-Ok.ensures {u = tt} ∙ one_step _ _) _ _ (rw (sym (c.if-is_accepted.ensures {u = tt}))) c.put_answer.ensures
