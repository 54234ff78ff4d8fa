-- The board is decoded from the first words (StandingLaws).
use Rattle.std.proofs.Common.{◌∙◌, sym}
use Rattle.layout.proofs.StandingLaws.{first_decoded, first_damaged, too_few}
use Rattle.layout.proofs.reading.decode.Goals as goal

pub returns-in_default : goal.returns-in_default
returns-in_default c = c.none.ensures ∙ too_few c.args.w.now c.in_default.ensures.cases

pub returns-then-not-parts_stand : goal.returns-then-not-parts_stand
returns-then-not-parts_stand c = c.none-then-not-parts_stand.ensures ∙ first_damaged c.args.w.now c.in-Some.words.now c.in-Some.ensures.cases.same (sym c.parts_stand.ensures ∙ c.if-not-parts_stand.true)

pub returns : goal.returns
returns c =
    let first = c.in-Some.ensures.cases in
    c.read_board.ensures ∙ first_decoded c.args.w.now c.in-Some.words.now first.enough first.same (sym c.parts_stand.ensures ∙ c.if-not-parts_stand.false)
