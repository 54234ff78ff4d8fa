-- The tags compare as their keys do.
use Rattle.std.proofs.Common.{sym}
use Rattle.parts.proofs.TagsLaws.{Small, compared_key}
use Rattle.parts.proofs.Tag.compared_with.Goals as goal

pub returns : goal.returns
returns c = λ h i.
    let own : Small c.args.self = record { console_8 = h; life_fits = c.key.ensures.typed } in
    let other : Small c.args.best = record { console_8 = i; life_fits = c.key-2.ensures.typed } in
    rw (c.cmp.ensures, c.key.ensures.value, c.key-2.ensures.value) (sym (compared_key _ _ own other))
