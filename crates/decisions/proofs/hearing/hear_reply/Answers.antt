-- The node joins the set; the comparison decides on best and on the mark, as in the definition.
use Rattle.std.proofs.Common.{sym, ap, ◌∙◌, is_gt}
use Rattle.parts.proofs.TagsLaws.{higher_greater}
use Rattle.decisions.specs.Changes.{hears, takes_in}
use Rattle.decisions.proofs.hearing.hear_reply.Goals as goal

pub returns-then-is_gt : goal.returns-then-is_gt
unfolding hears takes_in
returns-then-is_gt c = λ h i j.
    let how = c.compared_with-compared.ensures j i in
    let up = sym (higher_greater _ _) ∙ ap is_gt (sym how) ∙ sym c.is_gt.ensures ∙ c.if-is_gt.true in
    simp (c.with_member.ensures h, c.is_still_alike.ensures, how, up)

pub returns : goal.returns
unfolding hears takes_in
returns c = λ h i j.
    let how = c.compared_with-compared.ensures j i in
    let up = sym (higher_greater _ _) ∙ ap is_gt (sym how) ∙ sym c.is_gt.ensures ∙ c.if-is_gt.false in
    simp (c.with_member.ensures h, c.is_still_alike.ensures, how, up)
