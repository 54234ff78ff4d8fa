-- The test is of the tags' keys, and the order of tags is that of their keys.
use Rattle.std.proofs.Common.{sym}
use Rattle.parts.proofs.TagsLaws.{Small, greater_key}
use Rattle.parts.proofs.Tag.is_greater.Goals as goal

pub returns : goal.returns
returns c = λ h i.
    let own : Small c.args.self = record { console_8 = h; life_fits = c.key.ensures.typed } in
    let other : Small c.args.b = record { console_8 = i; life_fits = c.key-2.ensures.typed } in
    rw (c.key.ensures.value, c.key-2.ensures.value) (sym (greater_key _ _ own other))
