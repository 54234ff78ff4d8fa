-- One turn of the loop is one step more (midway_more, answers_more).
use Rattle.std.proofs.Common.{◌≡◌, Bool, ◌||◌, ap, ◌∙◌, arith, rules}
use Rattle.board.specs.declared.Answer.{Answer}
use Rattle.hatukeno.specs.declared.Midway.{Midway}
use Rattle.hatukeno.specs.Lists.{midway, answers, go_on, step_at}
use Rattle.hatukeno.proofs.ListsLaws.{midway_more, answers_more, step_is, went_on}
use Rattle.hatukeno.proofs.lists.run_steps.Goals as goal

pub loop-i-init : goal.loop-i-init
unfolding midway answers
loop-i-init c = search rules

pub loop-i-preserved : goal.loop-i-preserved
loop-i-preserved c =
    let turn = c.loop-i in
    let q = c.args.q.now in
    let before = turn.invariant.0 in
    let step : c.put-answer.result ≡ step_at q turn.i turn.checked.board = c.put-answer.ensures.answer ∙ step_is q _ turn.i _ c.as_chunks.ensures.front (omega arith) in
    let answer = step ∙ ap (λ (x : Midway). step_at q turn.i x.board) before in
    let moved = ap (λ (x : Bool). turn.moved || x) c.is_accepted-moved.ensures in (
      went_on (record { board = turn.checked.board; moved = turn.moved }) c.put-answer.result _ _ c.put-answer.ensures.board moved
          ∙ ap (λ (x : Midway). go_on x c.put-answer.result) before
          ∙ ap (λ (a : Answer). go_on (midway q c.new-checked.result.board turn.i) a) answer
          ∙ midway_more q _ _,
      c.put_answer.ensures ∙ rw (turn.invariant.1, answer) (answers_more q _ _ _),
    )
