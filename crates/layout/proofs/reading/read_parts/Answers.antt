-- One turn of the loop is one part more, at the end of those before it.
use Rattle.std.proofs.Common.{◌∙◌, [], sym, arith, rules}
use Rattle.std.proofs.lemmas.List.{take_all, take_more_set, map_more}
use Rattle.layout.proofs.reading.read_parts.Goals as goal

pub loop-k-preserved : goal.loop-k-preserved
loop-k-preserved g c =
    let one_more = rw c.loop-k.invariant.2 at (take_more_set c.loop-k.parts c.loop-k.k c.from_words.result (omega arith)) in
    let read = map_more g.T.InWords.from c.args.each.now c.loop-k.k [] (omega arith) in
    (omega arith, search rules, one_more ∙ sym (rw (sym c.from_words.ensures) at read))

pub returns : goal.returns
returns g c =
    let parts = take_all c.loop-k.k c.loop-k.parts (omega arith) in
    let each = take_all c.loop-k.k c.args.each.now (omega arith) in
    sym parts ∙ rw each at c.loop-k.invariant.2
