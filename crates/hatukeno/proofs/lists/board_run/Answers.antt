-- By the lengths, and the two laws of calls with a list.
use Rattle.std.proofs.Common.{refl, sym, ◌∙◌}
use Rattle.hatukeno.proofs.CallsLaws.{short_number}
use Rattle.hatukeno.proofs.ListsLaws.{list_long_board, list_long_answers, not_ran, ran}
use Rattle.hatukeno.proofs.lists.board_run.Goals as goal

pub returns-in-Err : goal.returns-in-Err
returns-in-Err c = not_ran _ _ _ _ (c.from.ensures ∙ c.in-Err.ensures {u = tt}) (λ e. short_number c.in-Err.short (sym c.from.ensures ∙ e))

pub run_list-requires : goal.run_list-requires
run_list-requires c =
    let fits = sym (c.in-Ok.ensures {u = tt}) in
    (list_long_board _ _ _ fits, list_long_answers _ _ _ fits)

pub returns-in-Ok : goal.returns-in-Ok
returns-in-Ok c = ran _ _ _ _ (c.in-Ok.ensures {u = tt}) refl _ _ c.run_list.ensures.0 c.run_list.ensures.1
