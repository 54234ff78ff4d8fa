-- The iterator yields the words of each part, and asks of each whether they stand.
use Rattle.std.proofs.Common.{rules, tests}
use Rattle.std.proofs.lemmas.Iterator.{YieldsList-from_slice}
use Rattle.std.proofs.lemmas.Iterator.Search.{all_from_yields_List}
use Rattle.layout.proofs.standing.all_stand.Goals as goal

pub returns : goal.returns
returns g c = all_from_yields_List g.T.InWords.stands _ _ _ c.all.ensures.ran (YieldsList-from_slice c.args.each.now (search rules)) (λ x b q k. search (rules, tests))
