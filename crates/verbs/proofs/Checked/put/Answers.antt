-- A well-formed board stays so whatever the verb (verb_keeps_well_formed); of another question 1 is asked.
use Rattle.std.proofs.Common.{sym, ap, ◌∙◌}
use Rattle.board.specs.declared.Answer.{Answer}
use Rattle.board.specs.WellFormed.{well_formed}
use Rattle.verbs.proofs.VerbsLaws.{verb_keeps_well_formed}
use Rattle.verbs.proofs.Checked.put.Goals.{then-self, else-self}
use Rattle.verbs.proofs.Checked.put.Goals as goal

pub invariant_of-self : goal.invariant_of-self
invariant_of-self c =
    let self = c.args.self.now in
    let answered = c.step_known-answer.ensures self.known in
    elim c.if-self.branch [
      | then-self w ↦ record {
        known =
            w.self-is
            ∙ w.if-self.true
            ∙ sym (ap (λ (a : Answer). well_formed a.board) answered ∙ verb_keeps_well_formed _ _ _ self.board (sym self.known ∙ w.if-self.true));
      }
      | else-self w ↦ record { known = w.self-is ∙ w.is_well_formed.ensures }
    ]
