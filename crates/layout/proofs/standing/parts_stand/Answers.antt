-- The setup is asked, and then each part in its own words.
use Rattle.std.proofs.Common.{sym, ◌∙◌}
use Rattle.layout.specs.InWords.{all_stand}
use Rattle.layout.specs.Standing.{parts_stand}
use Rattle.layout.proofs.standing.parts_stand.Goals as goal

pub returns-then-not-setup_stands : goal.returns-then-not-setup_stands
unfolding parts_stand
returns-then-not-setup_stands c = rw (sym c.setup_stands.ensures ∙ c.if-not-setup_stands.true)

pub returns : goal.returns
unfolding parts_stand all_stand
returns c = rw (
  sym c.setup_stands.ensures ∙ c.if-not-setup_stands.false,
  c.all_stand.ensures,
  c.words_of_each.ensures,
  c.all_stand-2.ensures,
  c.words_of_each-2.ensures,
  c.all_stand-3.ensures,
  c.words_of_each-3.ensures,
)
